use Rattle.std.proofs.Common.{◌≡◌, ◌≢◌, ◌∙◌, ◌+◌, ℕ, [], ◌∷◌, append-nil, refl, sym, take, ap, arith, rules}
use Rattle.std.proofs.lemmas.Bool.Decides.{nat_tests}
use Rattle.cax64_encoder.specs.Place.{memory_in}
use Rattle.x64_plain.specs.Plain.{place_of}
use Rattle.x64_plain.specs.Told.{told_at}
use Rattle.x64_plain.specs.declared.inst.HqInst.{HqInst}
use Rattle.x64_plain.proofs.Views.{same_view}
use Rattle.huqmeris_c.specs.Listed.{moved}
use Rattle.huqmeris_c.proofs.Listing.{ready_next, ready_put, tells_nothing, tells_one}
use Rattle.x64_core.specs.Core.{core_notices}
use Rattle.x64_core.specs.View.{CoreView, core_view}
use Rattle.huqmeris_c.proofs.encode_all.put_ready.Goals as goal
use Rattle.huqmeris_c.proofs.encode_all.put_ready.Goals.{then-notice_count-ne0, else-notice_count-ne0}

no_more : (n : ℕ) → n + 0 ≡ n
no_more n = omega arith

pub note_told-requires-clause-room : goal.note_told-requires-clause-room
note_told-requires-clause-room c =
    let core = c.encodable_core-core.result in
    let ready = c.requires.ready in
    let same : core_notices (core_view core) ≡ core_notices (core_view ready.core) = ap (λ (v : CoreView). core_notices v) (same_view c.args.inst.now core ready.core c.encodable_core-core.ensures.is ready.is) in
    let few = ready.few in
    grind (arith, nat_tests, same, few, c.notice_count.ensures, c.if-notice_count-ne0.true)

pub returns : goal.returns
returns c =
    let core = c.encodable_core-core.result in
    let is = c.encodable_core-core.ensures.is in
    let put = c.put_encodable-behind in
    let r = put.ensures.adds.line.reads.reading in
    let memory = memory_in (core_view core).place in
    elim c.if-notice_count-ne0.branch [
      | then-notice_count-ne0 w ↦
          (let some : core_notices (core_view core) ≢ 0 = λ none. w.if-notice_count-ne0.true (c.notice_count.ensures ∙ none) in
          let tells = tells_one memory c.args.at r (told_at (place_of c.args.inst.now) put.result.0) some (ap (λ (i : HqInst). told_at (place_of i) put.result.0) (sym is) ∙ put.ensures.tells) in
          let behind = ready_put (core_view core) c.args.at c.args.code.now _ put.new.code put.result.0 put.result.1 c.from.result (moved c.args.at (told_at (place_of c.args.inst.now) put.result.0) ∷ []) c.requires.room refl c.from.ensures put.ensures tells in
          let noted = w.note_told.ensures in
          ready_next c.args.inst.now core c.args.code.now _ c.args.uses.now _ (moved c.args.at (told_at (place_of c.args.inst.now) put.result.0) ∷ []) c.args.at c.args.count.now _ _ c.from.result is behind refl
          (w.count-is ∙ noted.count) (search rules) (rw (w.count-is, w.uses-is) noted.front) (rw (w.count-is, w.uses-is) noted.others) (rw w.uses-is noted.places))
      | else-notice_count-ne0 w ↦
          (let none : core_notices (core_view core) ≡ 0 = sym c.notice_count.ensures ∙ w.if-notice_count-ne0.false in
          let tells = tells_nothing memory c.args.at r none in
          let behind = ready_put (core_view core) c.args.at c.args.code.now _ put.new.code put.result.0 put.result.1 c.from.result [] c.requires.room refl c.from.ensures put.ensures tells in
          ready_next c.args.inst.now core c.args.code.now _ c.args.uses.now _ [] c.args.at c.args.count.now _ _ c.from.result is behind refl
          (w.count-is ∙ sym (no_more c.args.count.now)) (search rules) (rw (w.count-is, w.uses-is, append-nil (take c.args.count.now c.args.uses.now)) refl) (rw w.uses-is refl) (rw w.uses-is refl))
    ]
