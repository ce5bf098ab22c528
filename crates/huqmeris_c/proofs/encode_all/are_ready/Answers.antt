use Rattle.huqmeris_c.proofs.Listing.{all_ready, none_ready, ready_more}
use Rattle.huqmeris_c.proofs.Plainly.{no_inst}
use Rattle.huqmeris_c.proofs.encode_all.are_ready.Goals as goal

pub loop-i-init : goal.loop-i-init
loop-i-init c = none_ready c.args.insts.now

pub loop-i-preserved : goal.loop-i-preserved
loop-i-preserved c = ready_more c.args.insts.now no_inst c.loop-i.i c.loop-i.invariant c.loop-i-test.true (c.is_ready.ensures.ready c.if-not-is_ready.false) (c.is_ready.ensures.sized c.if-not-is_ready.false)

pub returns : goal.returns
returns c = λ _. all_ready c.args.insts.now c.loop-i.i c.loop-i.invariant c.loop-i-test.false c.loop-i.auto.i-end
