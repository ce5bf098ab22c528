use Rattle.std.proofs.Common.{◌∙◌, ap}
use Rattle.cax64_operand.specs.Family.{family_of, numbering}
use Rattle.cax64_operand.specs.OperandList.{list_of}
use Rattle.cax64_encoder.specs.Fault.{first_unmet}
use Rattle.cax64_encoder.proofs.Encodable.{then_late}
use Rattle.cax64_encoder.proofs.fault.first_fault.Goals as goal

pub returns-in-None : goal.returns-in-None
returns-in-None g c =
    then_late (family_of (numbering g.R.ReadGpr.AsReg.settled g.R.ReadGpr.AsReg.enc) (numbering g.R.ReadWriteGpr.AsReg.settled g.R.ReadWriteGpr.AsReg.enc) (numbering g.R.WriteGpr.AsReg.settled g.R.WriteGpr.AsReg.enc) (numbering g.R.ReadXmm.AsReg.settled g.R.ReadXmm.AsReg.enc) (numbering g.R.ReadWriteXmm.AsReg.settled g.R.ReadWriteXmm.AsReg.enc) (numbering g.R.WriteXmm.AsReg.settled g.R.WriteXmm.AsReg.enc) g.R.WriteGpr.PartialEq.eq)
    (g.S.CodeSink.state c.args.sink.now).offsets (list_of c.args.operands.now) c.place_of.result c.late_fault.result c.place_of.ensures (c.in-None.ensures ∙ ap (first_unmet 0) c.all_visits.ensures) c.late_fault.ensures
