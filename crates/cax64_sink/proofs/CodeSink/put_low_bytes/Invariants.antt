use Rattle.std.proofs.Common.{drop, take, w64}
use Rattle.std.specs.Int.{to_le_bytes}
use Rattle.cax64_sink.proofs.PutRuns.{Continues}
use Rattle.cax64_sink.proofs.CodeSink.put_low_bytes.Given as goal

abbrev pub invariant-loop-byte : goal.invariant-loop-byte
invariant-loop-byte g l =
    let bytes = take l.count (to_le_bytes w64 l.word) in
    Continues bytes (drop l.byte-index bytes) (g.Self.CodeSink.state l.initial.self) (g.Self.CodeSink.state l.self) × g.Self.CodeSink.may_become l.initial.self l.self
