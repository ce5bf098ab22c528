use Rattle.std.proofs.Common.{◌≡◌, arith, refl, true, nat_lt}
use Rattle.std.proofs.lemmas.Bool.Decides.{nat_tests}
use Rattle.cax64_table.proofs.encodable.is_line.Goals as goal

pub returns : goal.returns
returns c =
    let small : nat_lt c.args.line.opcode.byte 256 ≡ true = grind (arith, nat_tests, c.is_opcode.ensures.below) in
    rw (c.is_opcode.ensures.is, c.is_prefix_field.ensures, c.is_w.ensures, c.has_tail.ensures, c.is_w0.ensures, c.is_digit.ensures, c.is_8bit_once.ensures, c.is_vex.ensures, c.has_8bit.ensures, c.prefix_size-prefix.ensures.is, c.opcode_len.ensures.is, c.tail_size.ensures.is, c.from.ensures, c.imm_len.ensures, small) refl
