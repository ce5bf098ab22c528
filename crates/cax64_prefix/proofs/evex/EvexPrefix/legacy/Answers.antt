use Rattle.std.proofs.Common.{◌<◌, arith, unwrap_or}
use Rattle.std.specs.Int.{from_bool}
use Rattle.cax64_prefix.specs.Apx.{apx_fields}
use Rattle.cax64_prefix.proofs.Bits.{bool_below}
use Rattle.cax64_prefix.proofs.VexBits.{register_below}
use Rattle.cax64_prefix.proofs.EvexBits.{apx_reads}
use Rattle.cax64_prefix.proofs.evex.EvexPrefix.legacy.Goals as goal

pub returns : goal.returns
returns c =
    let a = c.args in let q = c.requires in
    let b : unwrap_or a.operand.0 0 < 32 = register_below 32 a.operand.0 (omega arith) q.base in
    let x : unwrap_or a.operand.1 0 < 32 = register_below 32 a.operand.1 (omega arith) q.index in
    let w : from_bool a.w < 2 = bool_below a.w in
    let nd : from_bool a.nd < 2 = bool_below a.nd in
    let nf : from_bool a.nf < 2 = bool_below a.nf in
    apx_reads (apx_fields a.reg a.vvvv a.operand a.pp a.mmm a.w a.nd a.nf) c.byte1.result c.operation_byte.result c.byte3.result
    (record { r3 = omega arith; r4 = omega arith; b3 = omega arith; b4 = omega arith; x3 = omega arith; x4 = omega arith; vvvv = q.vvvv; pp = q.pp; mmm = q.mmm; w = w; nd = nd; nf = nf })
    (record { registers = omega arith; operation = omega arith; last = omega arith })
