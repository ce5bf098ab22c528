use Rattle.std.specs.Prelude.{ℕ, Bool, true, false, ◌^◌, nat_lt, if◌then◌else◌, Option, Some, None, ℤ, pos, negsuc}
use Rattle.x64_lines.specs.declared.refused.OperandError.{OperandError}
use Rattle.x64_lines.specs.declared.refused.OperandError.TheVariants as shape
use Rattle.x64_lines.specs.declared.shapes.OpImm.{OpImm}
use Rattle.x64_lines.specs.declared.shapes.OpImm.TheVariants as imm

-- Why an immediate isn't one that a line of a shape takes.

abbrev pub unsigned_below : ℕ → ℤ → Bool
unsigned_below n (pos v) = nat_lt v n
unsigned_below n (negsuc v) = false

abbrev pub signed_below : ℕ → ℤ → Bool
signed_below n (pos v) = nat_lt v n
signed_below n (negsuc v) = nat_lt v n

-- the value is one of such an immediate
abbrev pub imm_in_range : OpImm → ℤ → Bool
imm_in_range imm.None value = false
imm_in_range imm.U8 value = unsigned_below (2 ^ 8) value
imm_in_range imm.U16 value = unsigned_below (2 ^ 16) value
imm_in_range imm.U32 value = unsigned_below (2 ^ 32) value
imm_in_range imm.I8 value = signed_below (2 ^ 7) value
imm_in_range imm.I32 value = signed_below (2 ^ 31) value

abbrev pub has_imm : OpImm → Bool
has_imm imm.None = false
has_imm imm.U8 = true
has_imm imm.U16 = true
has_imm imm.U32 = true
has_imm imm.I8 = true
has_imm imm.I32 = true

abbrev pub imm_refusal : OpImm → Option ℤ → Option OperandError
imm_refusal kind None = if has_imm kind then Some shape.Immediate else None
imm_refusal kind (Some value) = if has_imm kind then (if imm_in_range kind value then None else Some shape.Range) else Some shape.Immediate
