use Rattle.std.proofs.Common.{◌<◌, ◌+◌, arith, drop, length, take}
use Rattle.huqmeris_c.proofs.Listing.{at_end, at_next, begun, can_put, next_more, next_near}
use Rattle.huqmeris_c.proofs.Plainly.{no_inst}
use Rattle.huqmeris_c.proofs.encode_all.put_each.Goals as goal

pub loop-i-init : goal.loop-i-init
loop-i-init c = begun c.args.insts.now c.args.code.now c.args.uses.now c.requires.room

pub put_any-next-requires-clause-ready : goal.put_any-next-requires-clause-ready
put_any-next-requires-clause-ready c =
    let within : c.loop-i.i < length c.args.insts.now = search arith in
    can_put (take c.loop-i.i c.args.insts.now) (drop (c.loop-i.i + 1) c.args.insts.now) _ c.args.code.now c.loop-i.code c.args.uses.now c.loop-i.uses c.loop-i.at c.loop-i.count c.loop-i.i (at_next c.args.insts.now no_inst c.args.code.now c.loop-i.code c.args.uses.now c.loop-i.uses c.loop-i.at c.loop-i.count c.loop-i.i c.loop-i.invariant within)

pub put_any-next-requires-clause-near : goal.put_any-next-requires-clause-near
put_any-next-requires-clause-near c = next_near _ _ c.args.code.now c.loop-i.code c.args.uses.now c.loop-i.uses c.loop-i.at c.loop-i.count c.loop-i.i c.loop-i.invariant (search arith)

pub loop-i-preserved : goal.loop-i-preserved
loop-i-preserved c = next_more c.args.insts.now no_inst c.args.code.now c.loop-i.code c.put_any-next.new.code c.args.uses.now c.loop-i.uses c.put_any-next.new.uses c.loop-i.at c.loop-i.count c.loop-i.i c.put_any-next.result.0 c.put_any-next.result.1 c.loop-i.invariant (search arith) c.put_any-next.ensures

pub returns : goal.returns
returns c = at_end c.args.insts.now c.args.code.now c.loop-i.code c.args.uses.now c.loop-i.uses c.loop-i.at c.loop-i.count c.loop-i.i c.loop-i.invariant (search arith)
