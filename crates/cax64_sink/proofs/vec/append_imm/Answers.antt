use Rattle.std.proofs.Common.{refl, arith}
use Rattle.cax64_sink.proofs.Rests.{some_word}
use Rattle.cax64_sink.proofs.Runs.{ran_none, ran_one}
use Rattle.cax64_sink.proofs.vec.append_imm.Goals as goal

pub returns-then-len-eq0 : goal.returns-then-len-eq0
returns-then-len-eq0 g c = rw c.if-len-eq0.true (ran_none _ _ refl)

pub returns : goal.returns
returns g c =
    let step = rw (c.from.ensures, c.to_le_bytes.ensures) at c.append.ensures in
    rw (some_word c.args.imm c.args.len c.requires (omega (arith, c.if-len-eq0.false))) (ran_one step)
