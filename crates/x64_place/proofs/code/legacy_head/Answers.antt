use Rattle.std.proofs.Common.{◌%◌, ◌^◌, ◌<◌, ◌≤◌, arith}
use Rattle.std.proofs.Math.Nat.{pow-le-pow_right}
use Rattle.x64_place.specs.Heads.{entry_in, held_word}
use Rattle.x64_place.proofs.code.legacy_head.Goals as goal

pub overflow_add-word : goal.overflow_add-word
overflow_add-word c =
    let n = entry_in c.args.heads.now c.args.high c.args.special in
    let most : 256 ^ (n % 256) ≤ 256 ^ 6 = pow-le-pow_right (omega arith) c.requires.few in
    let below : held_word n c.args.high < 256 ^ (n % 256) = c.requires.below in
    rw (c.from-3.ensures, c.from-2.ensures, c.from.ensures) (omega (arith, most, below))
