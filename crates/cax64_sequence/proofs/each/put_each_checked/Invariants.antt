use Rattle.std.proofs.Common.{All, IsTrue, take}
use Rattle.cax64_sequence.proofs.Putting.{Put}
use Rattle.x64_encode.specs.Encode.{can_encode_by}
use Rattle.cax64_sequence.proofs.each.put_each_checked.Given as goal

abbrev pub invariant-loop-whole : goal.invariant-loop-whole
invariant-loop-whole g l =
    let before = g.S.CodeSink.state l.initial.sink in
    record {
      put : Put g.I.Encode.adds g.I.Encode.line_meant l.insts l.whole before (g.S.CodeSink.state l.sink);
      tested : All (λ i. IsTrue (can_encode_by before (g.I.Encode.line_meant i))) (take l.whole l.insts);
      beside : g.S.CodeSink.may_become l.initial.sink l.sink;
    }
