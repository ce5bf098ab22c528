use Rattle.std.specs.Prelude.{Bool, true, false}
use Rattle.cax64_machine_code.specs.declared.line.RegField.{RegField}
use Rattle.cax64_machine_code.specs.declared.line.RegField.TheVariants.{Digit, Register8, Register}

-- an 8-bit register stands in the reg field
abbrev pub is_register_8 : RegField → Bool
is_register_8 (Digit d) = false
is_register_8 Register8 = true
is_register_8 Register = false
