use Rattle.std.proofs.Common.{Ok, Err, refl}
use Rattle.cax64_operand.specs.Family.{family_of, numbering}
use Rattle.cax64_sink.specs.declared.SinkError.TheVariants as sink_error
use Rattle.cax64_encoder.proofs.Passed.{can_none, has_fault, tested_asked, tested_put}
use Rattle.cax64_encoder.proofs.Relatives.{meant_relative}
use Rattle.cax64_encoder.proofs.instruction.AnyInstruction.encode_checked.Goals as goal

pub hand_to-requires : goal.hand_to-requires
hand_to-requires g c signature can =
    let f = family_of (numbering g.I.Family.ReadGpr.AsReg.settled g.I.Family.ReadGpr.AsReg.enc) (numbering g.I.Family.ReadWriteGpr.AsReg.settled g.I.Family.ReadWriteGpr.AsReg.enc) (numbering g.I.Family.WriteGpr.AsReg.settled g.I.Family.WriteGpr.AsReg.enc) (numbering g.I.Family.ReadXmm.AsReg.settled g.I.Family.ReadXmm.AsReg.enc) (numbering g.I.Family.ReadWriteXmm.AsReg.settled g.I.Family.ReadWriteXmm.AsReg.enc) (numbering g.I.Family.WriteXmm.AsReg.settled g.I.Family.WriteXmm.AsReg.enc) g.I.Family.WriteGpr.PartialEq.eq in
    let row = g.I.RowAndOperands.row_of c.args.self.now in
    let o = g.I.RowAndOperands.operands_of c.args.self.now in
    tested_asked f row o (g.S.CodeSink.state c.args.sink.now).offsets signature can

pub fault_of_unencodable-requires : goal.fault_of_unencodable-requires
fault_of_unencodable-requires g c =
    let f = family_of (numbering g.I.Family.ReadGpr.AsReg.settled g.I.Family.ReadGpr.AsReg.enc) (numbering g.I.Family.ReadWriteGpr.AsReg.settled g.I.Family.ReadWriteGpr.AsReg.enc) (numbering g.I.Family.WriteGpr.AsReg.settled g.I.Family.WriteGpr.AsReg.enc) (numbering g.I.Family.ReadXmm.AsReg.settled g.I.Family.ReadXmm.AsReg.enc) (numbering g.I.Family.ReadWriteXmm.AsReg.settled g.I.Family.ReadWriteXmm.AsReg.enc) (numbering g.I.Family.WriteXmm.AsReg.settled g.I.Family.WriteXmm.AsReg.enc) g.I.Family.WriteGpr.PartialEq.eq in
    let row = g.I.RowAndOperands.row_of c.args.self.now in
    let o = g.I.RowAndOperands.operands_of c.args.self.now in
    let a = c.in-NotEncodable.ensures.answers in
    has_fault f row o (g.S.CodeSink.state c.hand_to.new.to).offsets _ refl (rw a.1 a.0)

pub returns-in-Put : goal.returns-in-Put
returns-in-Put g c =
    let f = family_of (numbering g.I.Family.ReadGpr.AsReg.settled g.I.Family.ReadGpr.AsReg.enc) (numbering g.I.Family.ReadWriteGpr.AsReg.settled g.I.Family.ReadWriteGpr.AsReg.enc) (numbering g.I.Family.WriteGpr.AsReg.settled g.I.Family.WriteGpr.AsReg.enc) (numbering g.I.Family.ReadXmm.AsReg.settled g.I.Family.ReadXmm.AsReg.enc) (numbering g.I.Family.ReadWriteXmm.AsReg.settled g.I.Family.ReadWriteXmm.AsReg.enc) (numbering g.I.Family.WriteXmm.AsReg.settled g.I.Family.WriteXmm.AsReg.enc) g.I.Family.WriteGpr.PartialEq.eq in
    let row = g.I.RowAndOperands.row_of c.args.self.now in
    let o = g.I.RowAndOperands.operands_of c.args.self.now in
    let s = g.S.CodeSink.state c.args.sink.now in
    let a = c.in-Put.ensures.answers in
    let put = tested_put f row o s (g.S.CodeSink.state c.hand_to.new.to) (Ok tt) c.hand_to.ensures.signature a.0 a.1.0 in
    record {
      fault = can_none f row o s.offsets a.0;
      unchanged = tt;
      adds = put.adds;
      leaves = tt;
      front = put.front;
      error = tt;
      keeps = put.keeps;
      beside = a.1.1;
      enough = λ _ _. tt;
      room = λ _ _. tt;
      byte_room = put.byte_room;
      notice_room = put.notice_room;
      relative = meant_relative _ _ _ _ c.hand_to.ensures.signature;
    }

pub returns-in-NoMemory : goal.returns-in-NoMemory
returns-in-NoMemory g c =
    let f = family_of (numbering g.I.Family.ReadGpr.AsReg.settled g.I.Family.ReadGpr.AsReg.enc) (numbering g.I.Family.ReadWriteGpr.AsReg.settled g.I.Family.ReadWriteGpr.AsReg.enc) (numbering g.I.Family.WriteGpr.AsReg.settled g.I.Family.WriteGpr.AsReg.enc) (numbering g.I.Family.ReadXmm.AsReg.settled g.I.Family.ReadXmm.AsReg.enc) (numbering g.I.Family.ReadWriteXmm.AsReg.settled g.I.Family.ReadWriteXmm.AsReg.enc) (numbering g.I.Family.WriteXmm.AsReg.settled g.I.Family.WriteXmm.AsReg.enc) g.I.Family.WriteGpr.PartialEq.eq in
    let row = g.I.RowAndOperands.row_of c.args.self.now in
    let o = g.I.RowAndOperands.operands_of c.args.self.now in
    let s = g.S.CodeSink.state c.args.sink.now in
    let a = c.in-NoMemory.ensures.answers in
    let put = tested_put f row o s (g.S.CodeSink.state c.hand_to.new.to) (Err sink_error.NoMemory) c.hand_to.ensures.signature a.0 a.1.0 in
    record {
      fault = can_none f row o s.offsets a.0;
      unchanged = tt;
      adds = tt;
      leaves = put.leaves;
      front = put.front;
      error = put.error;
      keeps = put.keeps;
      beside = a.1.1;
      enough = λ bytes notices. cc (put.enough bytes notices);
      room = λ bytes notices. cc (put.room bytes notices);
      byte_room = put.byte_room;
      notice_room = put.notice_room;
      relative = tt;
    }

pub returns-in-Full : goal.returns-in-Full
returns-in-Full g c =
    let f = family_of (numbering g.I.Family.ReadGpr.AsReg.settled g.I.Family.ReadGpr.AsReg.enc) (numbering g.I.Family.ReadWriteGpr.AsReg.settled g.I.Family.ReadWriteGpr.AsReg.enc) (numbering g.I.Family.WriteGpr.AsReg.settled g.I.Family.WriteGpr.AsReg.enc) (numbering g.I.Family.ReadXmm.AsReg.settled g.I.Family.ReadXmm.AsReg.enc) (numbering g.I.Family.ReadWriteXmm.AsReg.settled g.I.Family.ReadWriteXmm.AsReg.enc) (numbering g.I.Family.WriteXmm.AsReg.settled g.I.Family.WriteXmm.AsReg.enc) g.I.Family.WriteGpr.PartialEq.eq in
    let row = g.I.RowAndOperands.row_of c.args.self.now in
    let o = g.I.RowAndOperands.operands_of c.args.self.now in
    let s = g.S.CodeSink.state c.args.sink.now in
    let a = c.in-Full.ensures.answers in
    let put = tested_put f row o s (g.S.CodeSink.state c.hand_to.new.to) (Err sink_error.Full) c.hand_to.ensures.signature a.0 a.1.0 in
    record {
      fault = can_none f row o s.offsets a.0;
      unchanged = tt;
      adds = tt;
      leaves = put.leaves;
      front = put.front;
      error = put.error;
      keeps = put.keeps;
      beside = a.1.1;
      enough = λ bytes notices. cc (put.enough bytes notices);
      room = λ bytes notices. cc (put.room bytes notices);
      byte_room = put.byte_room;
      notice_room = put.notice_room;
      relative = tt;
    }
