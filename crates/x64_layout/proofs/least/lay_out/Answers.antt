use Rattle.std.proofs.Common.{◌<◌, ◌*◌, arith, length, sum, List, ℕ, ◌-◌}
use Rattle.std.proofs.lemmas.Bool.{OnFalse_at}
use Rattle.x64_layout.specs.Growing.{IsBelow}
use Rattle.x64_layout.specs.Layout.{AreSpans}
use Rattle.x64_layout.specs.declared.span.Span.{Span}
use Rattle.x64_layout.proofs.Growth.{all_small, sum_small}
use Rattle.x64_layout.proofs.least.lay_out.Goals as goal
use Rattle.x64_layout.proofs.least.lay_out.Goals.{then-plain-eq0, else-plain-eq0}

falls : (spans : List Span) (old new : List ℕ) → AreSpans spans → IsBelow spans new → sum old < sum new → 13 * length spans - sum new < 13 * length spans - sum old
falls spans old new are below grew = omega (arith, sum_small new (all_small spans new are below), below.as_many)

pub loop-plain-smaller : goal.loop-plain-smaller
loop-plain-smaller c =
    let grew : sum c.loop-plain.lens < sum c.round.new.lens = OnFalse_at c.loop-plain-test.true c.round.ensures.grew in
    elim c.if-plain-eq0.branch [
      | then-plain-eq0 w ↦ rw w.lens-is (falls c.args.spans.now c.loop-plain.lens w.ripple.new.lens c.requires.spans w.ripple.ensures.below (omega (arith, w.ripple.ensures.grew)))
      | else-plain-eq0 w ↦ rw w.lens-is (falls c.args.spans.now c.loop-plain.lens c.round.new.lens c.requires.spans c.round.ensures.below grew)
    ]
