use Rattle.std.proofs.Common.{◌≡◌, ◌≤◌, drop}
use Rattle.cax64_encoder.specs.Fault.{first_unmet}
use Rattle.cax64_encoder.specs.Present.{present}
use Rattle.cax64_encoder.proofs.fault.first_unmet.Given as goal

abbrev pub invariant-loop-visited : goal.invariant-loop-visited
invariant-loop-visited l = record {
  counted : l.at ≤ l.visited-index;
  same : first_unmet 0 (present l.visits) ≡ first_unmet l.at (present (drop l.visited-index l.visits));
}
