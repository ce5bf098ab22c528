use Rattle.std.specs.Prelude.{ℕ, false, if◌then◌else◌, slice_index_or}
use Rattle.huqmeris_c.specs.declared.line_use.HqFlags.{HqFlags}
use Rattle.huqmeris_c.specs.declared.line_use.HqOperand.{HqOperand}
use Rattle.huqmeris_c.specs.declared.line_use.TheConstants as number
use Rattle.x64_lines.specs.LineOperands.{line_operands}
use Rattle.x64_lines.specs.declared.flags.Flags.{Flags}
use Rattle.x64_lines.specs.declared.operands.Access.{Access}
use Rattle.x64_lines.specs.declared.operands.Access.TheVariants as access
use Rattle.x64_lines.specs.declared.operands.Class.{Class}
use Rattle.x64_lines.specs.declared.operands.Class.TheVariants as class
use Rattle.x64_lines.specs.declared.operands.Home.{Home}
use Rattle.x64_lines.specs.declared.operands.Home.TheVariants as home
use Rattle.x64_lines.specs.declared.operands.LineOperand.{LineOperand}

-- What a line does, in integers.

abbrev pub home_number : Home → ℕ
home_number home.Reg = number.HQ_HOME_REG
home_number home.Vvvv = number.HQ_HOME_VVVV
home_number home.Place = number.HQ_HOME_PLACE
home_number (home.Fixed fixed) = number.HQ_HOME_FIXED
home_number home.Imm = number.HQ_HOME_IMM
home_number home.Stack = number.HQ_HOME_STACK

abbrev pub fixed_number : Home → ℕ
fixed_number home.Reg = 0
fixed_number home.Vvvv = 0
fixed_number home.Place = 0
fixed_number (home.Fixed fixed) = fixed
fixed_number home.Imm = 0
fixed_number home.Stack = 0

abbrev pub class_number : Class → ℕ
class_number class.None = number.HQ_CLASS_NONE
class_number class.General = number.HQ_CLASS_GENERAL
class_number class.Vector = number.HQ_CLASS_VECTOR

abbrev pub access_number : Access → ℕ
access_number access.None = number.HQ_ACCESS_NONE
access_number access.Read = number.HQ_ACCESS_READ
access_number access.Write = number.HQ_ACCESS_WRITE
access_number access.ReadWrite = number.HQ_ACCESS_READ_WRITE

-- an operand
abbrev pub plain_operand : LineOperand → HqOperand
plain_operand kind = record {
  home = home_number kind.home;
  number = fixed_number kind.home;
  registers = class_number kind.class;
  access = access_number kind.access;
  bits = kind.bits;
  printed = if kind.is_printed then 1 else 0;
}

-- that of an index of a line
abbrev pub operand_at : ℕ → ℕ → LineOperand
operand_at line index = slice_index_or (line_operands line) index (record { home = home.Reg; class = class.None; access = access.None; bits = 0; is_printed = false })

-- flags
abbrev pub plain_flags : Flags → HqFlags
plain_flags flags = record { read = flags.read.bits; written = flags.written.bits; undefined = flags.undefined.bits }
