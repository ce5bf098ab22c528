use Rattle.std.specs.Prelude.{ℕ, ◌+ℤ◌, ◌*◌, ℤ, pos, Option, Some, None}
use Rattle.cax64_encoder.specs.declared.fault.Fault.{Fault}
use Rattle.cax64_encoder.specs.declared.fault.Fault.TheVariants as fault
use Rattle.x64_plain.specs.declared.status.TheConstants.{HQ_BAD_OPERANDS, HQ_FAULT_FIXED, HQ_FAULT_INDEX, HQ_FAULT_RANGE, HQ_FAULT_REGISTER, HQ_FAULT_UNKNOWN, HQ_OK}
use Rattle.x64_lines.specs.declared.refused.OperandError.{OperandError}
use Rattle.x64_lines.specs.declared.refused.OperandError.TheVariants as shape

-- The number that a call answers where it refuses: which fault in the low eight bits, and a detail in the next.
abbrev pub with_detail : ℤ → ℕ → ℤ
with_detail code detail = code +ℤ pos (256 * detail)

-- why an instruction can't be encoded: the detail is the register's place, or the key of the late offset
abbrev pub fault_status : Fault → ℤ
fault_status (fault.Register at) = with_detail HQ_FAULT_REGISTER at
fault_status (fault.Index at) = with_detail HQ_FAULT_INDEX at
fault_status (fault.Fixed at) = with_detail HQ_FAULT_FIXED at
fault_status (fault.Unknown key) = with_detail HQ_FAULT_UNKNOWN key
fault_status fault.Range = with_detail HQ_FAULT_RANGE 0

-- the same, `HQ_OK` where it can
abbrev pub check_status : Option Fault → ℤ
check_status None = HQ_OK
check_status (Some fault) = fault_status fault

-- why an instruction can't be made of operands
abbrev pub operand_status : OperandError → ℤ
operand_status shape.Register = with_detail HQ_BAD_OPERANDS 0
operand_status shape.Vvvv = with_detail HQ_BAD_OPERANDS 1
operand_status shape.Place = with_detail HQ_BAD_OPERANDS 2
operand_status shape.Immediate = with_detail HQ_BAD_OPERANDS 3
operand_status shape.Range = with_detail HQ_BAD_OPERANDS 4
