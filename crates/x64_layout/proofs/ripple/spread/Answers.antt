use Rattle.std.proofs.Common.{ℕ, ◌+◌, ◌-◌, ◌*◌, ◌<◌, ◌≤◌, arith, length, sum}
use Rattle.std.proofs.Math.Nat.{mul-le-mul_right}
use Rattle.x64_layout.proofs.Growth.{all_small, sum_small}
use Rattle.x64_layout.proofs.ripple.spread.Goals as goal

-- a growth takes more from the measure than any step back adds
falls : (most count old new n n' : ℕ) → old < new → new ≤ most → n' ≤ count → (most - new) * (count + 1) + (count - n') < (most - old) * (count + 1) + (count - n)
falls most count old new n n' lt le within =
    let fewer : most - new + 1 ≤ most - old = omega arith in
    omega (arith, mul-le-mul_right (count + 1) fewer)

pub loop-n-smaller-then-lens-n : goal.loop-n-smaller-then-lens-n
loop-n-smaller-then-lens-n c =
    let new_most : sum c.grow-n.new.lens ≤ 13 * length c.args.spans.now = omega (arith, sum_small c.grow-n.new.lens (all_small c.args.spans.now c.grow-n.new.lens c.requires.spans c.grow-n.ensures.below), c.grow-n.ensures.below.as_many) in
    falls (13 * length c.args.spans.now) (length c.args.spans.now) (sum c.loop-n.lens) (sum c.grow-n.new.lens) c.loop-n.n c.grow-n.result c.grow-n.ensures.grew new_most (omega (arith, c.grow-n.ensures.next, c.loop-n-test.true))
