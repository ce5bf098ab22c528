use Rattle.std.proofs.Common.{◌≡◌, ◌+◌, ◌*◌, ◌/◌, ◌-◌, ◌<◌, arith, unwrap_or, true, false, sym, ◌∙◌}
use Rattle.std.proofs.lemmas.Bool.Decides.{nat_tests}
use Rattle.cax64_prefix.specs.Vex.{vex_fields, fits_two_bytes}
use Rattle.cax64_prefix.proofs.VexBits.{is_vex, register_below, two_reads, two_shortest, three_reads, three_shortest}
use Rattle.cax64_prefix.proofs.vex.VexPrefix.three_op.Goals as goal

pub returns-then-use_2byte_prefix-clause-reads : goal.returns-then-use_2byte_prefix-clause-reads
returns-then-use_2byte_prefix-clause-reads c =
    let a = c.args in let q = c.requires in
    let held = sym c.use_2byte_prefix.ensures ∙ c.if-use_2byte_prefix.true in
    let fits : fits_two_bytes (vex_fields a.reg a.vvvv a.operand a.l a.pp a.mmmmm a.w) ≡ true = rw (← c.unwrap_or-base.ensures, ← c.unwrap_or-index.ensures) (grind (arith, nat_tests, held)) in
    two_reads (vex_fields a.reg a.vvvv a.operand a.l a.pp a.mmmmm a.w) c.operation_byte.result (is_vex a.w a.reg a.vvvv a.operand a.l a.pp a.mmmmm q.reg q.vvvv q.base q.index q.l q.pp q.map_low q.map_high) fits (omega arith)

pub returns-then-use_2byte_prefix-clause-shortest : goal.returns-then-use_2byte_prefix-clause-shortest
returns-then-use_2byte_prefix-clause-shortest c = let a = c.args in two_shortest (vex_fields a.reg a.vvvv a.operand a.l a.pp a.mmmmm a.w) c.operation_byte.result

pub returns-else-use_2byte_prefix-clause-reads : goal.returns-else-use_2byte_prefix-clause-reads
returns-else-use_2byte_prefix-clause-reads c =
    let a = c.args in let q = c.requires in
    let b : unwrap_or a.operand.0 0 < 16 = register_below 16 a.operand.0 (omega arith) q.base in
    let x : unwrap_or a.operand.1 0 < 16 = register_below 16 a.operand.1 (omega arith) q.index in
    let second : c.register_byte.result ≡ (1 - a.reg / 8) * 128 + (1 - unwrap_or a.operand.1 0 / 8) * 64 + (1 - unwrap_or a.operand.0 0 / 8) * 32 + a.mmmmm = omega arith in
    three_reads (vex_fields a.reg a.vvvv a.operand a.l a.pp a.mmmmm a.w) c.register_byte.result c.operation_byte-else-use_2byte_prefix.result (is_vex a.w a.reg a.vvvv a.operand a.l a.pp a.mmmmm q.reg q.vvvv q.base q.index q.l q.pp q.map_low q.map_high) second (omega arith)

pub returns-else-use_2byte_prefix-clause-shortest : goal.returns-else-use_2byte_prefix-clause-shortest
returns-else-use_2byte_prefix-clause-shortest c =
    let a = c.args in
    let fits : fits_two_bytes (vex_fields a.reg a.vvvv a.operand a.l a.pp a.mmmmm a.w) ≡ false = rw (← c.unwrap_or-base.ensures, ← c.unwrap_or-index.ensures) (sym c.use_2byte_prefix.ensures ∙ c.if-use_2byte_prefix.false) in
    three_shortest (vex_fields a.reg a.vvvv a.operand a.l a.pp a.mmmmm a.w) c.register_byte.result c.operation_byte-else-use_2byte_prefix.result fits
