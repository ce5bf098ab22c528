use Rattle.std.proofs.Common.{◌≡◌, ◌+◌, ◌*◌, ◌%◌, ◌<◌, bit_or, arith}
use Rattle.std.specs.Int.{from_bool}
use Rattle.cax64_prefix.proofs.Bits.{joined, bool_below}
use Rattle.cax64_prefix.proofs.evex.byte3.Goals as goal

pub returns : goal.returns
returns c =
    let f : from_bool c.args.flag < 2 = bool_below c.args.flag in
    let ll = c.args.ll * 32 % 256 in
    let flag = c.from.result * 16 % 256 in
    let v4 = c.invert_top_bit-v4.result * 8 % 256 in
    let low = c.args.low in
    let e1 : bit_or ll flag ≡ ll + flag = joined ll flag c.args.ll 5 (omega arith) (omega arith) in
    let e2 : bit_or (ll + flag) v4 ≡ ll + flag + v4 = joined (ll + flag) v4 (2 * c.args.ll + c.from.result) 4 (omega arith) (omega arith) in
    let e3 : bit_or (ll + flag + v4) low ≡ ll + flag + v4 + low = joined (ll + flag + v4) low (4 * c.args.ll + 2 * c.from.result + c.invert_top_bit-v4.result) 3 (omega arith) (omega arith) in
    rw (e1, e2, e3) (omega arith)
