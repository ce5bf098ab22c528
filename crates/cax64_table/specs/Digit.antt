use Rattle.std.specs.Prelude.{ℕ, Option, Some, None}
use Rattle.cax64_machine_code.specs.declared.line.PrefixField.{PrefixField}
use Rattle.cax64_machine_code.specs.declared.line.PrefixField.TheVariants.{LegacyField, VexField}
use Rattle.cax64_machine_code.specs.declared.line.RegField.{RegField}
use Rattle.cax64_machine_code.specs.declared.line.TailField.{TailField}
use Rattle.cax64_machine_code.specs.declared.line.RegField.TheVariants.{Digit, Register8, Register}
use Rattle.cax64_machine_code.specs.declared.line.TailField.TheVariants.{NoTail, Modrm}

abbrev pub reg_digit : RegField → Option ℕ
reg_digit (Digit d) = Some d
reg_digit Register8 = None
reg_digit Register = None

-- the digit that stands in the reg field
abbrev pub digit_of : TailField → Option ℕ
digit_of NoTail = None
digit_of (Modrm reg place) = reg_digit reg

-- the number of the opcode map of VEX, 0 without VEX
abbrev pub vex_map : PrefixField → ℕ
vex_map (LegacyField set rex) = 0
vex_map (VexField pp map l vvvv) = map
