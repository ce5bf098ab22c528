use Rattle.std.proofs.Common.{◌∙◌, ◌++◌, ◌∷◌, [], ap, arith}
use Rattle.cax64_sink.specs.declared.Notice.{Notice}
use Rattle.huqmeris_c.proofs.Settled.{traps_more}
use Rattle.huqmeris_c.specs.Putting.{traps_in}
use Rattle.huqmeris_c.proofs.traps.list_traps.Goals as goal

pub loop-i-preserved : goal.loop-i-preserved
loop-i-preserved c = traps_more c.args.notices.now c.index-notices-i.result c.loop-i.i c.loop-i.list.items c.list_trap.new.list.items (search arith) (c.in_default.ensures.listed ∙ ap (λ (x : Notice). c.loop-i.list.items ++ traps_in (x ∷ [])) c.index-notices-i.is) c.loop-i.invariant
