use Rattle.std.proofs.Common.{◌≡◌, ℕ, ◌+◌, ◌-◌, ◌<◌, arith, rules, List, Some, slice_get, length, set, get_or}
use Rattle.std.proofs.lemmas.Option.{slice_get-get_or}
use Rattle.x64_layout.specs.Growing.{GoesOver}
use Rattle.x64_layout.specs.declared.span.Span.{Span}
use Rattle.x64_layout.proofs.Growth.{no_span}
use Rattle.x64_layout.proofs.Places.{sum_set_grows}
use Rattle.x64_layout.proofs.Rippling.{Taking, taking_none, taking_stays, taking_takes, grown_rippling}
use Rattle.x64_layout.proofs.ripple.grow.Goals as goal
use Rattle.x64_layout.proofs.ripple.grow.Goals.{then-lens-by+then-goes_over+then-rooms-by-eq0, then-lens-by+then-goes_over+else-rooms-by-eq0, else-lens-by}

pub loop-by-init : goal.loop-by-init
loop-by-init c =
    let spans : List Span = c.args.spans.now in
    let s : Span = get_or spans c.args.n no_span in
    let is : slice_get spans c.args.n ≡ Some s = slice_get-get_or spans c.args.n no_span c.requires.within in
    record {
      taking = taking_none spans c.args.lens.now c.args.rooms.now c.args.n s _ is c.requires.below (c.requires.short s is) c.requires.rooms;
      next = omega arith;
    }

pub returns-clause-below : goal.returns-clause-below
returns-clause-below c =
    let spans : List Span = c.args.spans.now in
    let s : Span = get_or spans c.args.n no_span in
    let is : slice_get spans c.args.n ≡ Some s = slice_get-get_or spans c.args.n no_span c.requires.within in
    grown_rippling spans c.args.lens.now c.args.rooms.now c.args.n s is c.requires.below c.requires.rooms c.requires.no_room

pub returns-clause-grew : goal.returns-clause-grew
returns-clause-grew c =
    let spans : List Span = c.args.spans.now in
    let s : Span = get_or spans c.args.n no_span in
    let is : slice_get spans c.args.n ≡ Some s = slice_get-get_or spans c.args.n no_span c.requires.within in
    sum_set_grows c.args.lens.now c.args.n (s.least + s.more) (omega (arith, c.requires.below.as_many)) (c.requires.short s is)

pub loop-by-preserved : goal.loop-by-preserved
loop-by-preserved c =
    let spans : List Span = c.args.spans.now in
    let n : ℕ = c.args.n in
    let s : Span = get_or spans n no_span in
    let is : slice_get spans n ≡ Some s = slice_get-get_or spans n no_span c.requires.within in
    let by : ℕ = c.loop-by.by in
    let over : Span = get_or spans by no_span in
    let done : Taking spans c.args.lens.now (set c.args.lens.now n (s.least + s.more)) c.loop-by.rooms by = c.loop-by.invariant.taking in
    let by_in : by < length spans = search arith in
    let there : slice_get spans by ≡ Some over = slice_get-get_or spans by no_span by_in in
    let takes : GoesOver by over.spot n → Taking spans c.args.lens.now (set c.args.lens.now n (s.least + s.more)) (set c.loop-by.rooms by (get_or c.loop-by.rooms by 0 - s.more)) (by + 1) = λ goes. taking_takes spans c.args.lens.now c.loop-by.rooms n s by over is there c.requires.below (c.requires.short s is) goes (omega (arith, c.loop-by.auto.rooms, c.requires.as_many)) done in
    elim c.if-lens-by.branch [
      | then-lens-by+then-goes_over+then-rooms-by-eq0 w ↦ record {
        taking = rw (w.rooms-is, w.saturating_sub.ensures) (takes (w.goes_over.ensures.0 w.if-goes_over.true));
        next = search rules;
      }
      | then-lens-by+then-goes_over+else-rooms-by-eq0 w ↦ record {
        taking = rw (w.rooms-is, w.saturating_sub.ensures) (takes (w.goes_over.ensures.0 w.if-goes_over.true));
        next = omega arith;
      }
      | else-lens-by w ↦ record {
        taking = rw w.rooms-is (taking_stays spans c.args.lens.now (set c.args.lens.now n (s.least + s.more)) c.loop-by.rooms by done);
        next = omega arith;
      }
    ]
