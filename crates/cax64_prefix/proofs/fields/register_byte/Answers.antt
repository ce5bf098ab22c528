use Rattle.std.proofs.Common.{◌≡◌, ◌+◌, ◌*◌, ◌%◌, bit_or, arith}
use Rattle.cax64_prefix.proofs.Bits.{joined}
use Rattle.cax64_prefix.proofs.fields.register_byte.Goals as goal

pub returns : goal.returns
returns c =
    let r = c.invert_top_bit-r.result * 128 % 256 in
    let x = c.invert_top_bit-x.result * 64 % 256 in
    let b = c.invert_top_bit-b.result * 32 % 256 in
    let low = c.args.low in
    let e1 : bit_or r x ≡ r + x = joined r x c.invert_top_bit-r.result 7 (omega arith) (omega arith) in
    let e2 : bit_or (r + x) b ≡ r + x + b = joined (r + x) b (2 * c.invert_top_bit-r.result + c.invert_top_bit-x.result) 6 (omega arith) (omega arith) in
    let e3 : bit_or (r + x + b) low ≡ r + x + b + low = joined (r + x + b) low (4 * c.invert_top_bit-r.result + 2 * c.invert_top_bit-x.result + c.invert_top_bit-b.result) 5 (omega arith) (omega arith) in
    rw (e1, e2, e3) (omega arith)
