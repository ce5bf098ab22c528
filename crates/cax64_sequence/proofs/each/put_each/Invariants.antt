use Rattle.cax64_sequence.proofs.Putting.{Put}
use Rattle.cax64_sequence.proofs.each.put_each.Given as goal

abbrev pub invariant-loop-whole : goal.invariant-loop-whole
invariant-loop-whole g l = record {
  put : Put g.I.Encode.adds g.I.Encode.line_meant l.insts l.whole (g.S.CodeSink.state l.initial.sink) (g.S.CodeSink.state l.sink);
  beside : g.S.CodeSink.may_become l.initial.sink l.sink;
}
