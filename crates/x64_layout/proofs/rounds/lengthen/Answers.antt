use Rattle.std.proofs.Common.{◌≡◌, ℕ, ◌+◌, ◌≤◌, ◌⊎◌, ◌<◌, inl, inr, arith, true, List, Some, slice_get, slice_index, get_or, length, set, subst, sym, IfSome, ⊎_elim}
use Rattle.std.proofs.lemmas.Bool.{both_ways, cases_lt}
use Rattle.std.proofs.lemmas.Option.{slice_get-get_or}
use Rattle.x64_layout.specs.Layout.{Reaches}
use Rattle.x64_layout.specs.declared.span.Span.{Span}
use Rattle.x64_layout.proofs.Growth.{places_small, Round, round_none, round_stays, round_grows, round_settled, no_span, span_at, noted_reaches, reaches_noted}
use Rattle.x64_layout.proofs.rounds.lengthen.Goals as goal
use Rattle.x64_layout.proofs.rounds.lengthen.Goals.{then-not-stands, else-not-stands}

pub stands-requires-clause-small : goal.stands-requires-clause-small
stands-requires-clause-small c = places_small c.args.spans.now c.args.lens.now c.args.places.now c.requires.spans c.requires.below c.requires.places c.requires.room

pub loop-n-init : goal.loop-n-init
loop-n-init c = round_none c.args.spans.now c.args.lens.now c.requires.below

short_by : (a b : ℕ) {P : Type 0} → (((b ≤ a) ⊎ P) → ⊥) → (a < b) ⊎ (b ≤ a) → a < b
short_by a b far (inl lt) = lt
short_by a b far (inr le) = absurd (far (inl le))

pub loop-n-preserved : goal.loop-n-preserved
loop-n-preserved c =
    let spans : List Span = c.args.spans.now in
    let start : List ℕ = c.args.lens.now in
    let lens : List ℕ = c.loop-n.lens in
    let n : ℕ = c.loop-n.n in
    let s : Span = get_or spans n no_span in
    let within : n < length spans = search arith in
    let in_lens : n < length start = omega (arith, c.requires.below.as_many) in
    let is : slice_get spans n ≡ Some s = slice_get-get_or spans n no_span within in
    let spot_in : IfSome s.spot (λ (x : ℕ). x ≤ length start) = subst (λ (count : ℕ). IfSome s.spot (λ (x : ℕ). x ≤ count)) (sym c.requires.below.as_many) (span_at spans n s is c.requires.spans).within in
    elim c.if-not-stands.branch [
      | then-not-stands w ↦
          let far : ((s.least + s.more ≤ get_or lens n 0) ⊎ Reaches (slice_index c.args.places.now) n s.spot) → ⊥ = λ h. both_ways c.stands.result w.if-not-stands.true (c.stands.ensures.1 h) in
          let short : get_or lens n 0 < s.least + s.more = short_by (get_or lens n 0) (s.least + s.more) far (cases_lt (get_or lens n 0) (s.least + s.more)) in
          let next : Round spans start (set lens n (s.least + s.more)) true (n + 1) = round_grows spans start lens c.loop-n.grew n s is c.requires.below c.loop-n.invariant short (λ h. far (inr (reaches_noted start c.args.places.now n s.spot c.requires.places in_lens spot_in h))) in
          rw (w.lens-is, w.grew-is) next
      | else-not-stands w ↦
          let stands : (s.least + s.more ≤ get_or lens n 0) ⊎ Reaches (slice_index c.args.places.now) n s.spot = c.stands.ensures.0 w.if-not-stands.false in
          let next : Round spans start lens c.loop-n.grew (n + 1) = round_stays spans start lens c.loop-n.grew n s is c.requires.below c.loop-n.invariant (⊎_elim (λ le. inl le) (λ h. inr (noted_reaches start c.args.places.now n s.spot c.requires.places in_lens spot_in h)) stands) in
          rw (w.lens-is, w.grew-is) next
    ]

pub returns-clause-settled : goal.returns-clause-settled
returns-clause-settled c = round_settled c.args.spans.now c.args.lens.now c.loop-n.lens c.loop-n.grew c.loop-n.n c.requires.below c.loop-n.invariant (search arith)
