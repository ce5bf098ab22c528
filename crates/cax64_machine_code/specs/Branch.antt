-- How instructions go on elsewhere than behind themselves, by their opcodes. (Intel SDM, volume 2, the pages of CALL, JMP
-- and Jcc.)
use Rattle.std.specs.Prelude.{ℕ, ◌/◌, ◌==◌, ◌||◌, if◌then◌else◌, Option, Some, None}
use Rattle.cax64_machine_code.specs.Rows.{line_of}
use Rattle.cax64_machine_code.specs.declared.line.Line.{Line}
use Rattle.cax64_machine_code.specs.declared.line.Opcode.{Opcode}
use Rattle.cax64_machine_code.specs.declared.line.PrefixField.{PrefixField}
use Rattle.cax64_machine_code.specs.declared.line.PrefixField.TheVariants.{LegacyField, VexField}
use Rattle.cax64_machine_code.specs.declared.line.RegField.TheVariants.{Digit, Register8, Register}
use Rattle.cax64_machine_code.specs.declared.line.TailField.{TailField}
use Rattle.cax64_machine_code.specs.declared.line.TailField.TheVariants.{NoTail, Modrm}
use Rattle.cax64_machine_code.specs.declared.row.Branch.{Branch}
use Rattle.cax64_machine_code.specs.declared.row.Branch.TheVariants.{Jump, Call, Conditional}
use Rattle.cax64_machine_code.specs.declared.row.Row.{Row}

-- FF /2 is a call and FF /4 a jump, through an operand
abbrev pub digit_branch : ℕ → Option Branch
digit_branch k = if k == 2 then Some Call else if k == 4 then Some Jump else None

abbrev pub operand_branch : TailField → Option Branch
operand_branch NoTail = None
operand_branch (Modrm (Digit k) field) = digit_branch k
operand_branch (Modrm Register8 field) = None
operand_branch (Modrm Register field) = None

-- E8 is a call, EB and E9 are jumps, and 70 to 7F conditional jumps, by a distance
abbrev pub plain_branch : ℕ → TailField → Option Branch
plain_branch opcode tail =
    if opcode == 0xE8 then Some Call
    else if (opcode == 0xEB) || (opcode == 0xE9) then Some Jump
    else if opcode / 16 == 7 then Some Conditional
    else if opcode == 0xFF then operand_branch tail
    else None

-- 0F 80 to 0F 8F are conditional jumps by a distance
abbrev pub escaped_branch : ℕ → Option Branch
escaped_branch opcode = if opcode / 16 == 8 then Some Conditional else None

abbrev pub opcode_branch : Opcode → TailField → Option Branch
opcode_branch opcode tail = if opcode.escape then escaped_branch opcode.byte else plain_branch opcode.byte tail

-- behind a VEX prefix there is no branch
abbrev pub prefix_branch : PrefixField → Opcode → TailField → Option Branch
prefix_branch (LegacyField set rex) opcode tail = opcode_branch opcode tail
prefix_branch (VexField pp map l vvvv) opcode tail = None

abbrev pub line_branch : Line → Option Branch
line_branch line = prefix_branch line.prefix line.opcode line.tail

-- how a row's instruction goes on elsewhere, if it does
abbrev pub branch_of : Row → Option Branch
branch_of row = line_branch (line_of row)
