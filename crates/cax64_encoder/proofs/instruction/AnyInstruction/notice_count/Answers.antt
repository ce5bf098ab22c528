use Rattle.cax64_operand.specs.Family.{family_of, numbering}
use Rattle.cax64_encoder.proofs.Encodable.{content_is, notices_by_content}
use Rattle.cax64_encoder.proofs.instruction.AnyInstruction.notice_count.Goals as goal

pub returns : goal.returns
returns g c =
    let f = family_of (numbering g.I.Family.ReadGpr.AsReg.settled g.I.Family.ReadGpr.AsReg.enc) (numbering g.I.Family.ReadWriteGpr.AsReg.settled g.I.Family.ReadWriteGpr.AsReg.enc) (numbering g.I.Family.WriteGpr.AsReg.settled g.I.Family.WriteGpr.AsReg.enc) (numbering g.I.Family.ReadXmm.AsReg.settled g.I.Family.ReadXmm.AsReg.enc) (numbering g.I.Family.ReadWriteXmm.AsReg.settled g.I.Family.ReadWriteXmm.AsReg.enc) (numbering g.I.Family.WriteXmm.AsReg.settled g.I.Family.WriteXmm.AsReg.enc) g.I.Family.WriteGpr.PartialEq.eq in
    let o = g.I.RowAndOperands.operands_of c.args.self.now in
    λ offsets. notices_by_content f (g.I.RowAndOperands.row_of c.args.self.now) o _ c.hand_to.result offsets (content_is f o) c.hand_to.ensures.answers
