use Rattle.std.specs.Prelude.{ℕ, ◌+◌, ◌*◌, ◌==◌, ◌&&◌, Bool, true, false, List, [], ◌∷◌, take, drop, count_by, slice_index_or}
use Rattle.cax64_machine_code.specs.Len.{one_if}
use Rattle.cax64_machine_code.specs.Line.{imm_bytes}
use Rattle.cax64_machine_code.specs.declared.line.Line.{Line}
use Rattle.cax64_table.specs.Entry.{has_tail}
use Rattle.cax64_table.specs.Numbers.{has_register, has_vvvv}
use Rattle.x64_lines.specs.declared.operand_lists.TheConstants.{OPERANDS}
use Rattle.x64_lines.specs.declared.operand_spans.Span.{Span}
use Rattle.x64_lines.specs.declared.operand_spans.TheConstants.{SPANS}
use Rattle.x64_lines.specs.declared.operands.Home.{Home}
use Rattle.x64_lines.specs.declared.operands.Home.TheVariants.{Reg, Vvvv, Place, Fixed, Imm, Stack}
use Rattle.x64_lines.specs.declared.operands.LineOperand.{LineOperand}

-- The operands of a line.

abbrev pub span_of : ℕ → Span
span_of number = slice_index_or SPANS number (record { first = 0; count = 0 })

abbrev pub line_operands : ℕ → List LineOperand
line_operands number = take (span_of number).count (drop (span_of number).first OPERANDS)

-- how many of them stand in reg, in vvvv, in the rest of the tail, as an immediate

abbrev pub is_reg : Home → Bool
is_reg Reg = true
is_reg Vvvv = false
is_reg Place = false
is_reg (Fixed number) = false
is_reg Imm = false
is_reg Stack = false

abbrev pub is_vvvv : Home → Bool
is_vvvv Reg = false
is_vvvv Vvvv = true
is_vvvv Place = false
is_vvvv (Fixed number) = false
is_vvvv Imm = false
is_vvvv Stack = false

abbrev pub is_place : Home → Bool
is_place Reg = false
is_place Vvvv = false
is_place Place = true
is_place (Fixed number) = false
is_place Imm = false
is_place Stack = false

abbrev pub is_stack : Home → Bool
is_stack Reg = false
is_stack Vvvv = false
is_stack Place = false
is_stack (Fixed number) = false
is_stack Imm = false
is_stack Stack = true

abbrev pub imm_bits : Home → ℕ → ℕ
imm_bits Reg bits = 0
imm_bits Vvvv bits = 0
imm_bits Place bits = 0
imm_bits (Fixed number) bits = 0
imm_bits Imm bits = bits
imm_bits Stack bits = 0

abbrev pub bits_in : List LineOperand → ℕ
bits_in [] = 0
bits_in (operand ∷ operands) = imm_bits operand.home operand.bits + bits_in operands

-- operands are one for each place where the line's bytes hold one, and an immediate of its size, whatever else the line uses;
-- memory that no operand names isn't printed
abbrev pub operands_fit : Line → List LineOperand → Bool
operands_fit line operands =
    (count_by (λ operand. is_reg operand.home) operands == one_if (has_register line.tail))
    && ((count_by (λ operand. is_vvvv operand.home) operands == one_if (has_vvvv line.prefix))
    && ((count_by (λ operand. is_place operand.home) operands == one_if (has_tail line.tail))
    && ((bits_in operands == 8 * imm_bytes line.imm)
    && (count_by (λ operand. is_stack operand.home && operand.is_printed) operands == 0))))
