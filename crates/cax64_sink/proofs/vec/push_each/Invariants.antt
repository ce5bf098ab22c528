use Rattle.std.proofs.Common.{drop}
use Rattle.cax64_sink.specs.Vec.{vec_state}
use Rattle.cax64_sink.proofs.PutRuns.{Continues}
use Rattle.cax64_sink.proofs.vec.push_each.Given as goal

abbrev pub invariant-loop-byte : goal.invariant-loop-byte
invariant-loop-byte g l = Continues l.bytes (drop l.byte-index l.bytes) (vec_state l.initial.vec) (vec_state l.vec)
