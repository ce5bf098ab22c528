use Rattle.cax64_operand.specs.Family.{family_of, numbering}
use Rattle.cax64_encoder.proofs.Encodable.{content_is}
use Rattle.cax64_encoder.proofs.Instructions.{len_most, put_of}
use Rattle.cax64_encoder.proofs.Relatives.{meant_relative}
use Rattle.cax64_encoder.proofs.instruction.AnyInstruction.encode.Goals as goal

pub hand_to-requires : goal.hand_to-requires
hand_to-requires g c signature =
    let f = family_of (numbering g.I.Family.ReadGpr.AsReg.settled g.I.Family.ReadGpr.AsReg.enc) (numbering g.I.Family.ReadWriteGpr.AsReg.settled g.I.Family.ReadWriteGpr.AsReg.enc) (numbering g.I.Family.WriteGpr.AsReg.settled g.I.Family.WriteGpr.AsReg.enc) (numbering g.I.Family.ReadXmm.AsReg.settled g.I.Family.ReadXmm.AsReg.enc) (numbering g.I.Family.ReadWriteXmm.AsReg.settled g.I.Family.ReadWriteXmm.AsReg.enc) (numbering g.I.Family.WriteXmm.AsReg.settled g.I.Family.WriteXmm.AsReg.enc) g.I.Family.WriteGpr.PartialEq.eq in
    let o = g.I.RowAndOperands.operands_of c.args.self.now in
    (o, record { kept = content_is f o; signature = signature; can = c.requires })

pub returns : goal.returns
returns g c =
    let f = family_of (numbering g.I.Family.ReadGpr.AsReg.settled g.I.Family.ReadGpr.AsReg.enc) (numbering g.I.Family.ReadWriteGpr.AsReg.settled g.I.Family.ReadWriteGpr.AsReg.enc) (numbering g.I.Family.WriteGpr.AsReg.settled g.I.Family.WriteGpr.AsReg.enc) (numbering g.I.Family.ReadXmm.AsReg.settled g.I.Family.ReadXmm.AsReg.enc) (numbering g.I.Family.ReadWriteXmm.AsReg.settled g.I.Family.ReadWriteXmm.AsReg.enc) (numbering g.I.Family.WriteXmm.AsReg.settled g.I.Family.WriteXmm.AsReg.enc) g.I.Family.WriteGpr.PartialEq.eq in
    let o = g.I.RowAndOperands.operands_of c.args.self.now in
    let w = c.hand_to.ensures.answers.0 o (record { kept = content_is f o; signature = c.hand_to.ensures.signature; can = c.requires }) in
    let put = put_of _ _ _ c.hand_to.result w in
    record {
      adds = put.adds;
      leaves = put.leaves;
      front = put.front;
      error = put.error;
      keeps = put.keeps;
      beside = c.hand_to.ensures.answers.1;
      enough = put.enough;
      room = put.room;
      byte_room = put.byte_room;
      notice_room = put.notice_room;
      most = len_most w.encodes;
      relative = meant_relative _ _ _ _ c.hand_to.ensures.signature;
    }
