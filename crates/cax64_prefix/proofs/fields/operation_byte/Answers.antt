use Rattle.std.proofs.Common.{◌≡◌, ◌+◌, ◌-◌, ◌*◌, ◌%◌, bit_and, bit_or, arith}
use Rattle.std.proofs.lemmas.Nat.{and_mask}
use Rattle.cax64_prefix.proofs.Bits.{joined}
use Rattle.cax64_prefix.proofs.fields.operation_byte.Goals as goal

pub returns : goal.returns
returns c =
    let top = c.args.top * 128 % 256 in
    let inverted = bit_and (255 - c.args.vvvv) 15 in
    let is : inverted ≡ 15 - c.args.vvvv % 16 = omega (arith, and_mask (255 - c.args.vvvv) 4) in
    let vvvv = inverted * 8 % 256 in
    let bit = c.args.bit * 4 % 256 in
    let pp = c.args.pp in
    let e1 : bit_or top vvvv ≡ top + vvvv = joined top vvvv c.args.top 7 (omega arith) (omega arith) in
    let e2 : bit_or (top + vvvv) bit ≡ top + vvvv + bit = joined (top + vvvv) bit (16 * c.args.top + inverted) 3 (omega arith) (omega arith) in
    let e3 : bit_or (top + vvvv + bit) pp ≡ top + vvvv + bit + pp = joined (top + vvvv + bit) pp (32 * c.args.top + 2 * inverted + c.args.bit) 2 (omega arith) (omega arith) in
    rw (e1, e2, e3) (omega arith)
