use Rattle.std.specs.Prelude.{◌≡◌, ℕ, ◌+◌, ◌==◌, ◌&&◌, nat_le, Bool, true, false, Option, Some, None, List, [], ◌∷◌, MatchOption}
use Rattle.cax64_machine_code.specs.Rows.{line_of}
use Rattle.cax64_machine_code.specs.declared.line.ImmField.{ImmField}
use Rattle.cax64_machine_code.specs.declared.line.ImmField.TheVariants.{NoImm, Imm, Simm}
use Rattle.cax64_machine_code.specs.declared.line.Line.{Line}
use Rattle.cax64_machine_code.specs.declared.line.PlaceField.{PlaceField}
use Rattle.cax64_machine_code.specs.declared.line.PlaceField.TheVariants.{Memory, RegisterOrMemory, Register8OrMemory}
use Rattle.cax64_machine_code.specs.declared.line.PrefixField.{PrefixField}
use Rattle.cax64_machine_code.specs.declared.line.PrefixField.TheVariants.{LegacyField, VexField}
use Rattle.cax64_machine_code.specs.declared.line.RegField.{RegField}
use Rattle.cax64_machine_code.specs.declared.line.RegField.TheVariants.{Digit, Register8, Register}
use Rattle.cax64_machine_code.specs.declared.line.TailField.{TailField}
use Rattle.cax64_machine_code.specs.declared.line.TailField.TheVariants.{NoTail, Modrm}
use Rattle.cax64_machine_code.specs.declared.line.VvvvField.TheVariants.{VvvvRegister, Stored1111}
use Rattle.cax64_machine_code.specs.declared.row.Row.{Row}
use Rattle.cax64_operand.specs.Immediate.{imm_of, imm_in_range}
use Rattle.cax64_operand.specs.OperandList.{list_of, nop_of}
use Rattle.cax64_operand.specs.NopRow.{nop_row}
use Rattle.cax64_operand.specs.declared.immediate.ImmOperand.{ImmOperand}
use Rattle.cax64_operand.specs.declared.immediate.ImmOperand.TheVariants as bytes
use Rattle.cax64_operand.specs.declared.operand.Operand.{Operand}
use Rattle.cax64_operand.specs.declared.operand.Operand.TheVariants as operand
use Rattle.cax64_operand.specs.declared.operand.Operands.{Operands}

-- Whether operands have the shape that a row asks for: told from their kinds.

-- what can stand in the rest of the tail
pub data Rest : Type 0 where
  nothing : Rest
  memory : Rest
  register_or_memory : Rest

-- how many registers stand in the bytes outside of the rest of the tail
abbrev pub register_count : {R A B C D E F : Type 0} → List (Operand R A B C D E F) → ℕ
register_count [] = 0
register_count (operand.ReadGpr reg size ∷ later) = 1 + register_count later
register_count (operand.ReadWriteGpr reg size ∷ later) = 1 + register_count later
register_count (operand.WriteGpr reg size ∷ later) = 1 + register_count later
register_count (operand.WriteTwoGprs high low size ∷ later) = 2 + register_count later
register_count (operand.FixedReadGpr reg expected size ∷ later) = register_count later
register_count (operand.FixedReadWriteGpr reg expected size ∷ later) = register_count later
register_count (operand.ReadXmm reg ∷ later) = 1 + register_count later
register_count (operand.ReadWriteXmm reg ∷ later) = 1 + register_count later
register_count (operand.WriteXmm reg ∷ later) = 1 + register_count later
register_count (operand.ReadAmode amode ∷ later) = register_count later
register_count (operand.ReadGprMem place size ∷ later) = register_count later
register_count (operand.ReadWriteGprMem place size ∷ later) = register_count later
register_count (operand.ReadXmmMem place ∷ later) = register_count later
register_count (operand.Imm imm ∷ later) = register_count later

-- what stands in the rest of the tail
abbrev pub rest_of : {R A B C D E F : Type 0} → List (Operand R A B C D E F) → Rest
rest_of [] = nothing
rest_of (operand.ReadGpr reg size ∷ later) = rest_of later
rest_of (operand.ReadWriteGpr reg size ∷ later) = rest_of later
rest_of (operand.WriteGpr reg size ∷ later) = rest_of later
rest_of (operand.WriteTwoGprs high low size ∷ later) = rest_of later
rest_of (operand.FixedReadGpr reg expected size ∷ later) = rest_of later
rest_of (operand.FixedReadWriteGpr reg expected size ∷ later) = rest_of later
rest_of (operand.ReadXmm reg ∷ later) = rest_of later
rest_of (operand.ReadWriteXmm reg ∷ later) = rest_of later
rest_of (operand.WriteXmm reg ∷ later) = rest_of later
rest_of (operand.ReadAmode amode ∷ later) = memory
rest_of (operand.ReadGprMem place size ∷ later) = register_or_memory
rest_of (operand.ReadWriteGprMem place size ∷ later) = register_or_memory
rest_of (operand.ReadXmmMem place ∷ later) = register_or_memory
rest_of (operand.Imm imm ∷ later) = rest_of later

-- the immediate
abbrev pub imm_in : {R A B C D E F : Type 0} → List (Operand R A B C D E F) → Option ImmOperand
imm_in [] = None
imm_in (operand.ReadGpr reg size ∷ later) = imm_in later
imm_in (operand.ReadWriteGpr reg size ∷ later) = imm_in later
imm_in (operand.WriteGpr reg size ∷ later) = imm_in later
imm_in (operand.WriteTwoGprs high low size ∷ later) = imm_in later
imm_in (operand.FixedReadGpr reg expected size ∷ later) = imm_in later
imm_in (operand.FixedReadWriteGpr reg expected size ∷ later) = imm_in later
imm_in (operand.ReadXmm reg ∷ later) = imm_in later
imm_in (operand.ReadWriteXmm reg ∷ later) = imm_in later
imm_in (operand.WriteXmm reg ∷ later) = imm_in later
imm_in (operand.ReadAmode amode ∷ later) = imm_in later
imm_in (operand.ReadGprMem place size ∷ later) = imm_in later
imm_in (operand.ReadWriteGprMem place size ∷ later) = imm_in later
imm_in (operand.ReadXmmMem place ∷ later) = imm_in later
imm_in (operand.Imm imm ∷ later) = Some (imm_of imm)

abbrev pub reg_takes : RegField → ℕ → Bool
reg_takes (Digit d) count = count == 0
reg_takes Register8 count = nat_le 1 count
reg_takes Register count = nat_le 1 count

abbrev pub rest_takes : PlaceField → Rest → Bool
rest_takes field nothing = false
rest_takes field memory = true
rest_takes Memory register_or_memory = false
rest_takes RegisterOrMemory register_or_memory = true
rest_takes Register8OrMemory register_or_memory = true

abbrev pub is_nothing : Rest → Bool
is_nothing nothing = true
is_nothing memory = false
is_nothing register_or_memory = false

abbrev pub tail_takes : TailField → ℕ → Rest → Bool
tail_takes NoTail count rest = (count == 0) && is_nothing rest
tail_takes (Modrm reg field) count rest = reg_takes reg count && rest_takes field rest

-- a second register stands in vvvv
abbrev pub vvvv_takes : PrefixField → ℕ → Bool
vvvv_takes (LegacyField set rex) count = nat_le count 1
vvvv_takes (VexField pp map l VvvvRegister) count = count == 2
vvvv_takes (VexField pp map l Stored1111) count = nat_le count 1

abbrev pub imm_has_size : ImmField → ImmOperand → Bool
imm_has_size NoImm operand = false
imm_has_size (Imm size) (bytes.Imm8 v) = size == 1
imm_has_size (Imm size) (bytes.Imm16 v) = size == 2
imm_has_size (Imm size) (bytes.Imm32 v) = size == 4
imm_has_size (Imm size) (bytes.Simm8 v) = false
imm_has_size (Imm size) (bytes.Simm32 v) = false
imm_has_size (Simm size) (bytes.Imm8 v) = false
imm_has_size (Simm size) (bytes.Imm16 v) = false
imm_has_size (Simm size) (bytes.Imm32 v) = false
imm_has_size (Simm size) (bytes.Simm8 v) = size == 1
imm_has_size (Simm size) (bytes.Simm32 v) = size == 4

abbrev pub is_no_imm : ImmField → Bool
is_no_imm NoImm = true
is_no_imm (Imm size) = false
is_no_imm (Simm size) = false

abbrev pub imm_fits : ImmField → Option ImmOperand → Bool
imm_fits field None = is_no_imm field
imm_fits field (Some operand) = imm_has_size field operand && imm_in_range operand

-- the operands have the line's shape
abbrev pub takes : {R A B C D E F : Type 0} → Line → List (Operand R A B C D E F) → Bool
takes line operands = tail_takes line.tail (register_count operands) (rest_of operands) && (vvvv_takes line.prefix (register_count operands) && imm_fits line.imm (imm_in operands))

-- an instruction of a row has the row's shape; a no-operation is of its own row
abbrev pub HasShape : {R A B C D E F : Type 0} → Row → Operands R A B C D E F → Type 0
HasShape row operands = MatchOption (nop_of operands) (takes (line_of row) (list_of operands) ≡ true) (λ nop. row ≡ nop_row nop)
