use Rattle.std.proofs.Common.{◌<◌, arith, unwrap_or, refl}
use Rattle.std.specs.Int.{from_bool}
use Rattle.cax64_prefix.specs.Evex.{evex_fields}
use Rattle.cax64_prefix.proofs.Bits.{bool_below}
use Rattle.cax64_prefix.proofs.VexBits.{register_below}
use Rattle.cax64_prefix.proofs.EvexBits.{evex_reads}
use Rattle.cax64_prefix.proofs.evex.EvexPrefix.new.Goals as goal

pub returns : goal.returns
returns c =
    let a = c.args in let q = c.requires in
    let b : unwrap_or a.operand.0 0 < 16 = register_below 16 a.operand.0 (omega arith) q.base in
    let x : unwrap_or a.operand.1 0 < 16 = register_below 16 a.operand.1 (omega arith) q.index in
    let w : from_bool a.w < 2 = bool_below a.w in
    let broadcast : from_bool a.broadcast < 2 = bool_below a.broadcast in
    evex_reads (evex_fields a.reg a.vvvv a.operand a.ll a.pp a.mmm a.w a.broadcast) c.byte1.result c.operation_byte.result c.byte3.result
    (record { r3 = omega arith; r4 = omega arith; b3 = omega arith; x3 = omega arith; vvvv = q.vvvv; ll = omega arith; pp = q.pp; mmm = q.mmm; w = w; broadcast = broadcast; z = refl; aaa = refl })
    (record { registers = omega arith; operation = omega arith; last = omega arith })
