use Rattle.std.proofs.Common.{◌≤◌, ◌+◌}
use Rattle.x64_layout.proofs.Rippling.{Taking}
use Rattle.x64_layout.proofs.ripple.grow.Given as goal

abbrev pub invariant-loop-by : goal.invariant-loop-by
invariant-loop-by l = record {
  taking : Taking l.spans l.fn.lens l.lens l.rooms l.by;
  next : l.next ≤ l.n + 1;
}
