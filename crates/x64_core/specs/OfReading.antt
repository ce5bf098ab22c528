use Rattle.std.specs.Prelude.{ℕ, ◌==◌, ◌&&◌, ◌||◌, not, nat_lt, Bool, true, false, Option, Some, None, is_none}
use Rattle.cax64_encoder.specs.declared.role.PlaceOperand.{PlaceOperand}
use Rattle.cax64_encoder.specs.declared.role.PlaceOperand.TheVariants as operand
use Rattle.cax64_address.specs.declared.amode.Amode.TheVariants.{ImmReg, ImmRegRegShift, RipRelative}
use Rattle.cax64_machine_code.specs.declared.reading.Place.{Place}
use Rattle.cax64_machine_code.specs.declared.reading.Place.TheVariants.{Reg, Mem, Rip}
use Rattle.cax64_machine_code.specs.declared.reading.RegView.{RegView}
use Rattle.cax64_machine_code.specs.declared.reading.RegView.TheVariants.{Low, High}
use Rattle.x64_reader.specs.declared.reading.CoreReading.{CoreReading}

-- Of which readings there is an instruction of the core.

-- a register by its number, which isn't a high byte
abbrev pub is_low : RegView → Bool
is_low (Low number) = nat_lt number 16
is_low (High number) = false

abbrev pub register_given : Option RegView → Bool
register_given None = true
register_given (Some view) = is_low view

abbrev pub number_given : Option ℕ → Bool
number_given None = true
number_given (Some number) = nat_lt number 16

abbrev pub is_factor : ℕ → Bool
is_factor n = (n == 1) || ((n == 2) || ((n == 4) || (n == 8)))

-- number 4 isn't an index
abbrev pub index_given : Option (ℕ × ℕ) → Bool
index_given None = true
index_given (Some index) = nat_lt index.0 16 && (not (index.0 == 4) && is_factor index.1)

-- memory has a base, and isn't relative to the end
abbrev pub place_given : Option Place → Bool
place_given None = true
place_given (Some (Reg view)) = is_low view
place_given (Some (Mem None index disp)) = false
place_given (Some (Mem (Some base) index disp)) = nat_lt base 16 && index_given index
place_given (Some (Rip disp)) = false

abbrev pub operands_given : CoreReading → Bool
operands_given r = register_given r.reg && (number_given r.vvvv && place_given r.place)

-- no trap code and no late offset
abbrev pub is_bare : PlaceOperand ℕ → Bool
is_bare operand.NoPlace = true
is_bare (operand.Register number) = true
is_bare (operand.Memory (ImmReg base simm32 trap)) = is_none trap && is_none simm32.offset
is_bare (operand.Memory (ImmRegRegShift base index scale simm32 trap)) = is_none trap
is_bare (operand.Memory (RipRelative target)) = false
