use Rattle.std.proofs.Common.{◌∙◌}
use Rattle.cax64_operand.specs.Family.{family_of, numbering}
use Rattle.cax64_encoder.proofs.Checks.{checked_fold, holds_is}
use Rattle.cax64_encoder.proofs.instruction.AnyInstruction.is_encodable.Goals as goal

pub returns : goal.returns
returns g c =
    let f = family_of (numbering g.I.Family.ReadGpr.AsReg.settled g.I.Family.ReadGpr.AsReg.enc) (numbering g.I.Family.ReadWriteGpr.AsReg.settled g.I.Family.ReadWriteGpr.AsReg.enc) (numbering g.I.Family.WriteGpr.AsReg.settled g.I.Family.WriteGpr.AsReg.enc) (numbering g.I.Family.ReadXmm.AsReg.settled g.I.Family.ReadXmm.AsReg.enc) (numbering g.I.Family.ReadWriteXmm.AsReg.settled g.I.Family.ReadWriteXmm.AsReg.enc) (numbering g.I.Family.WriteXmm.AsReg.settled g.I.Family.WriteXmm.AsReg.enc) g.I.Family.WriteGpr.PartialEq.eq in
    (rw (checked_fold f (g.I.RowAndOperands.operands_of c.args.self.now)) at c.hand_to.ensures.answers) ∙ holds_is f (g.I.RowAndOperands.row_of c.args.self.now) (g.I.RowAndOperands.operands_of c.args.self.now) (g.S.CodeSink.state c.args.sink.now).offsets
