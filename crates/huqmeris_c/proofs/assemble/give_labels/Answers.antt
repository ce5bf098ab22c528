use Rattle.std.proofs.Common.{◌∙◌, sym}
use Rattle.huqmeris_c.proofs.Begun.{begun_more}
use Rattle.huqmeris_c.proofs.assemble.give_labels.Goals as goal

pub loop-i-preserved : goal.loop-i-preserved
loop-i-preserved c = begun_more c.new_label.result c.loop-i.i c.loop-i.buffer c.new_label.new.self (sym c.is_err.ensures.value ∙ c.if-is_err.false) c.new_label.ensures.labels c.new_label.ensures.state c.new_label.ensures.places c.new_label.ensures.filled c.loop-i.invariant
