use Rattle.x64_of_port.proofs.Why.{refused_by, taken_by, tells_by}
use Rattle.x64_of_port.proofs.convert.core_of.Goals as goal

pub reason-requires : goal.reason-requires
reason-requires g c = refused_by _ (g.I.RowAndOperands.row_of c.args.inst.now) (g.I.RowAndOperands.operands_of c.args.inst.now) c.in-None.ensures.signature (g.S.CodeSink.state c.args.sink.now) c.in-None.ensures.answers

pub returns-in-Some-clause-taken : goal.returns-in-Some-clause-taken
returns-in-Some-clause-taken g c = taken_by _ (g.I.RowAndOperands.row_of c.args.inst.now) (g.I.RowAndOperands.operands_of c.args.inst.now) c.in-Some.ensures.signature (g.S.CodeSink.state c.args.sink.now) c.in-Some.core c.in-Some.ensures.answers

pub returns-in-Some-clause-tells : goal.returns-in-Some-clause-tells
returns-in-Some-clause-tells g c = tells_by _ (g.I.RowAndOperands.row_of c.args.inst.now) (g.I.RowAndOperands.operands_of c.args.inst.now) c.in-Some.ensures.signature (g.S.CodeSink.state c.args.sink.now) c.in-Some.core c.in-Some.ensures.answers
