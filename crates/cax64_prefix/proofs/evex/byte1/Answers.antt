use Rattle.std.proofs.Common.{◌<◌, arith}
use Rattle.cax64_prefix.proofs.Bits.{map_joined}
use Rattle.cax64_prefix.proofs.evex.byte1.Goals as goal

pub register_byte-requires : goal.register_byte-requires
register_byte-requires c =
    let r4 : c.invert_top_bit-r4.result < 2 = omega arith in
    rw (map_joined c.invert_top_bit-r4.result c.args.b4 c.args.mmm r4 c.requires.b4 c.requires.mmm) (omega arith)

pub returns : goal.returns
returns c =
    let r4 : c.invert_top_bit-r4.result < 2 = omega arith in
    let e = rw (map_joined c.invert_top_bit-r4.result c.args.b4 c.args.mmm r4 c.requires.b4 c.requires.mmm) at c.register_byte.ensures in
    omega (arith, e)
