use Rattle.std.proofs.Common.{arith}
use Rattle.cax64_operand.specs.Family.{family_of, numbering}
use Rattle.cax64_encoder.proofs.Encodable.{content_is}
use Rattle.cax64_encoder.proofs.instruction.AnyInstruction.room_needed.Goals as goal

pub hand_to-requires : goal.hand_to-requires
hand_to-requires g c signature =
    let f = family_of (numbering g.I.Family.ReadGpr.AsReg.settled g.I.Family.ReadGpr.AsReg.enc) (numbering g.I.Family.ReadWriteGpr.AsReg.settled g.I.Family.ReadWriteGpr.AsReg.enc) (numbering g.I.Family.WriteGpr.AsReg.settled g.I.Family.WriteGpr.AsReg.enc) (numbering g.I.Family.ReadXmm.AsReg.settled g.I.Family.ReadXmm.AsReg.enc) (numbering g.I.Family.ReadWriteXmm.AsReg.settled g.I.Family.ReadWriteXmm.AsReg.enc) (numbering g.I.Family.WriteXmm.AsReg.settled g.I.Family.WriteXmm.AsReg.enc) g.I.Family.WriteGpr.PartialEq.eq in
    let o = g.I.RowAndOperands.operands_of c.args.self.now in
    (o, record { kept = content_is f o; signature = signature; can = c.requires })

pub returns : goal.returns
returns g c =
    let f = family_of (numbering g.I.Family.ReadGpr.AsReg.settled g.I.Family.ReadGpr.AsReg.enc) (numbering g.I.Family.ReadWriteGpr.AsReg.settled g.I.Family.ReadWriteGpr.AsReg.enc) (numbering g.I.Family.WriteGpr.AsReg.settled g.I.Family.WriteGpr.AsReg.enc) (numbering g.I.Family.ReadXmm.AsReg.settled g.I.Family.ReadXmm.AsReg.enc) (numbering g.I.Family.ReadWriteXmm.AsReg.settled g.I.Family.ReadWriteXmm.AsReg.enc) (numbering g.I.Family.WriteXmm.AsReg.settled g.I.Family.WriteXmm.AsReg.enc) g.I.Family.WriteGpr.PartialEq.eq in
    let o = g.I.RowAndOperands.operands_of c.args.self.now in
    let w = c.hand_to.ensures.answers o (record { kept = content_is f o; signature = c.hand_to.ensures.signature; can = c.requires }) in
    record {
      bytes = w.bytes;
      notices = w.notices;
      least = omega (arith, w.bytes, w.least);
      most = omega (arith, w.bytes, w.most);
    }
