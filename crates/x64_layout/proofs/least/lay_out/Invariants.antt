use Rattle.std.proofs.Common.{◌*◌, ◌-◌, length, sum}
use Rattle.x64_layout.specs.Growing.{IsBelow}
use Rattle.x64_layout.proofs.least.lay_out.Given as goal

abbrev pub invariant-loop-plain : goal.invariant-loop-plain
invariant-loop-plain l = IsBelow l.spans l.lens

abbrev pub decreases-loop-plain : goal.decreases-loop-plain
decreases-loop-plain l = 13 * length l.spans - sum l.lens
