use Rattle.cax64_operand.specs.Family.{family_of, numbering}
use Rattle.cax64_encoder.proofs.Encodable.{none_where_encodable, no_fault_where}
use Rattle.cax64_encoder.proofs.instruction.AnyInstruction.first_fault.Goals as goal

pub returns-then-is_encodable-clause-fault : goal.returns-then-is_encodable-clause-fault
returns-then-is_encodable-clause-fault g c =
    let f = family_of (numbering g.I.Family.ReadGpr.AsReg.settled g.I.Family.ReadGpr.AsReg.enc) (numbering g.I.Family.ReadWriteGpr.AsReg.settled g.I.Family.ReadWriteGpr.AsReg.enc) (numbering g.I.Family.WriteGpr.AsReg.settled g.I.Family.WriteGpr.AsReg.enc) (numbering g.I.Family.ReadXmm.AsReg.settled g.I.Family.ReadXmm.AsReg.enc) (numbering g.I.Family.ReadWriteXmm.AsReg.settled g.I.Family.ReadWriteXmm.AsReg.enc) (numbering g.I.Family.WriteXmm.AsReg.settled g.I.Family.WriteXmm.AsReg.enc) g.I.Family.WriteGpr.PartialEq.eq in
    no_fault_where f (g.I.RowAndOperands.row_of c.args.self.now) (g.I.RowAndOperands.operands_of c.args.self.now) (g.S.CodeSink.state c.args.sink.now).offsets _ c.is_encodable.ensures c.if-is_encodable.true

pub returns-clause-none : goal.returns-clause-none
returns-clause-none g c = none_where_encodable _ _ (g.I.RowAndOperands.operands_of c.args.self.now) _ c.listed_fault.result c.listed_fault.ensures
