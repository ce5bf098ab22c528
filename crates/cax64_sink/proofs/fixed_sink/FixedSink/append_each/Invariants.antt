use Rattle.std.proofs.Common.{drop}
use Rattle.cax64_sink.specs.FixedSink.{fixed_sink_state}
use Rattle.cax64_sink.proofs.PutRuns.{Continues}
use Rattle.cax64_sink.proofs.fixed_sink.FixedSink.append_each.Given as goal

abbrev pub invariant-loop-byte : goal.invariant-loop-byte
invariant-loop-byte g l = Continues l.bytes (drop l.byte-index l.bytes) (fixed_sink_state l.initial.self) (fixed_sink_state l.self)
