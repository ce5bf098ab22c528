use Rattle.std.proofs.Common.{◌≡◌, ◌<◌, ◌≤◌, ◌+◌, ◌-◌, ℕ, arith, drop, length, subst, take}
use Rattle.huqmeris_c.proofs.Listing.{PutSoFar, at_end, at_next, begun, can_put, next_more, ready_at}
use Rattle.huqmeris_c.proofs.Plainly.{no_inst}
use Rattle.huqmeris_c.proofs.encode_all.put_each_ready.Goals as goal

pub loop-i-init : goal.loop-i-init
loop-i-init c = begun c.args.insts.now c.args.code.now c.args.uses.now c.requires.room

pub put_ready-at-requires-clause-encodable : goal.put_ready-at-requires-clause-encodable
put_ready-at-requires-clause-encodable c =
    let all : length c.args.insts.now ≤ length c.args.insts.now = search arith in
    ready_at c.args.insts.now no_inst (length c.args.insts.now) c.loop-i.i c.requires.ready (search arith) all

pub put_ready-at-requires-clause-ready : goal.put_ready-at-requires-clause-ready
put_ready-at-requires-clause-ready c =
    let within : c.loop-i.i < length c.args.insts.now = search arith in
    can_put (take c.loop-i.i c.args.insts.now) (drop (c.loop-i.i + 1) c.args.insts.now) _ c.args.code.now c.loop-i.code c.args.uses.now c.loop-i.uses c.loop-i.at c.loop-i.count c.loop-i.i (at_next c.args.insts.now no_inst c.args.code.now c.loop-i.code c.args.uses.now c.loop-i.uses c.loop-i.at c.loop-i.count c.loop-i.i c.loop-i.invariant within)

pub loop-i-preserved : goal.loop-i-preserved
loop-i-preserved c = next_more c.args.insts.now no_inst c.args.code.now c.loop-i.code c.put_ready-at.new.code c.args.uses.now c.loop-i.uses c.put_ready-at.new.uses c.loop-i.at c.loop-i.count c.loop-i.i c.put_ready-at.result c.put_ready-at.new.count c.loop-i.invariant (search arith) c.put_ready-at.ensures

pub put_next-at-requires-clause-encodable : goal.put_next-at-requires-clause-encodable
put_next-at-requires-clause-encodable c =
    let all : length c.args.insts.now ≤ length c.args.insts.now = search arith in
    ready_at c.args.insts.now no_inst (length c.args.insts.now) (length c.args.insts.now - 1) c.requires.ready (search arith) all

pub put_next-at-requires-clause-ready : goal.put_next-at-requires-clause-ready
put_next-at-requires-clause-ready c =
    let insts = c.args.insts.now in
    let last : ℕ = length insts - 1 in
    let within : last < length insts = search arith in
    let is : c.loop-i.i ≡ last = search arith in
    let before : PutSoFar (take last insts) (drop last insts) c.args.code.now c.loop-i.code c.args.uses.now c.loop-i.uses c.loop-i.at c.loop-i.count last = subst (λ (i : ℕ). PutSoFar (take i insts) (drop i insts) c.args.code.now c.loop-i.code c.args.uses.now c.loop-i.uses c.loop-i.at c.loop-i.count i) is c.loop-i.invariant in
    can_put (take last insts) (drop (last + 1) insts) _ c.args.code.now c.loop-i.code c.args.uses.now c.loop-i.uses c.loop-i.at c.loop-i.count last (at_next insts no_inst c.args.code.now c.loop-i.code c.args.uses.now c.loop-i.uses c.loop-i.at c.loop-i.count last before within)

pub returns : goal.returns
returns c =
    let insts = c.args.insts.now in
    let last : ℕ = length insts - 1 in
    let within : last < length insts = search arith in
    let is : c.loop-i.i ≡ last = search arith in
    let before : PutSoFar (take last insts) (drop last insts) c.args.code.now c.loop-i.code c.args.uses.now c.loop-i.uses c.loop-i.at c.loop-i.count last = subst (λ (i : ℕ). PutSoFar (take i insts) (drop i insts) c.args.code.now c.loop-i.code c.args.uses.now c.loop-i.uses c.loop-i.at c.loop-i.count i) is c.loop-i.invariant in
    let after = next_more insts no_inst c.args.code.now c.loop-i.code c.put_next-at.new.code c.args.uses.now c.loop-i.uses c.put_next-at.new.uses c.loop-i.at c.loop-i.count last c.put_next-at.result c.put_next-at.new.count before within c.put_next-at.ensures in
    let end : length insts ≤ last + 1 = search arith in
    at_end insts c.args.code.now c.put_next-at.new.code c.args.uses.now c.put_next-at.new.uses c.put_next-at.result c.put_next-at.new.count (last + 1) after end
