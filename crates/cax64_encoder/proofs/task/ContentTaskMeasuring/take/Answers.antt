use Rattle.std.proofs.Common.{◌∙◌}
use Rattle.cax64_operand.specs.Family.{family_of, numbering}
use Rattle.cax64_encoder.proofs.Encodable.{notices_by_content}
use Rattle.cax64_encoder.proofs.Instructions.{len_least, len_most}
use Rattle.cax64_encoder.proofs.task.ContentTaskMeasuring.take.Goals as goal

pub returns : goal.returns
returns g c =
    let f = family_of (numbering g.R.ReadGpr.AsReg.settled g.R.ReadGpr.AsReg.enc) (numbering g.R.ReadWriteGpr.AsReg.settled g.R.ReadWriteGpr.AsReg.enc) (numbering g.R.WriteGpr.AsReg.settled g.R.WriteGpr.AsReg.enc) (numbering g.R.ReadXmm.AsReg.settled g.R.ReadXmm.AsReg.enc) (numbering g.R.ReadWriteXmm.AsReg.settled g.R.ReadWriteXmm.AsReg.enc) (numbering g.R.WriteXmm.AsReg.settled g.R.WriteXmm.AsReg.enc) g.R.WriteGpr.PartialEq.eq in
    let offsets = (g.S.CodeSink.state c.args.to.now.sink.now).offsets in
    λ o given.
    let e = c.code_for.ensures.encodes o given in
    record {
      bytes = c.len.ensures ∙ e.length;
      notices = notices_by_content f c.args.row o c.args.self c.notice_count.result offsets given.kept c.notice_count.ensures;
      least = len_least e;
      most = len_most e;
    }
