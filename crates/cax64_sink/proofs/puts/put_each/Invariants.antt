use Rattle.std.proofs.Common.{drop}
use Rattle.cax64_sink.proofs.PutRuns.{Continues}
use Rattle.cax64_sink.proofs.puts.put_each.Given as goal

abbrev pub invariant-loop-byte : goal.invariant-loop-byte
invariant-loop-byte g l = Continues l.bytes (drop l.byte-index l.bytes) (g.S.CodeSink.state l.initial.sink) (g.S.CodeSink.state l.sink) × g.S.CodeSink.may_become l.initial.sink l.sink
