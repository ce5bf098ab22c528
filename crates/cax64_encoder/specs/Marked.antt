use Rattle.std.specs.Prelude.{ℕ, Bool, true, false, ◌==◌, ◌*◌, Some, None, is_some}
use Rattle.std.specs.Int.{from_bool}
use Rattle.cax64_address.specs.declared.amode.Amode.{Amode}
use Rattle.cax64_address.specs.declared.amode.Amode.TheVariants.{ImmReg, ImmRegRegShift, RipRelative}
use Rattle.cax64_address.specs.declared.amode.Scale.TheVariants.{One}
use Rattle.cax64_operand.specs.Family.{Numbering}
use Rattle.cax64_encoder.specs.Numbered.{no_displacement, no_place, register_place}
use Rattle.cax64_encoder.specs.Role.{number}
use Rattle.cax64_encoder.specs.declared.number.Number.{Number}
use Rattle.cax64_encoder.specs.declared.number.Number.TheVariants.{Settled, Unsettled}
use Rattle.cax64_encoder.specs.declared.numbered.NumberedPlace.{NumberedPlace}
use Rattle.cax64_encoder.specs.declared.role.PlaceOperand as place
use Rattle.cax64_encoder.specs.declared.role.PlaceOperand.{PlaceOperand}

-- Operands by numbers that carry the test: below 16 where the register is real.

-- the number of a register, and 255, which no instruction can hold, where there is none
abbrev pub marked_value : Number → ℕ
marked_value (Settled number) = number
marked_value Unsettled = 255

abbrev pub marked_amode : {M : Type 0} → Numbering M → Amode M → NumberedPlace
marked_amode n (ImmReg base simm32 trap) = record { stands = true; is_register = false; has_index = false; relative = None; base = marked_value (number n base); index = 4; register = 0; scale = One; displacement = simm32; trap = trap }
marked_amode n (ImmRegRegShift base index scale simm32 trap) = record { stands = true; is_register = false; has_index = true; relative = None; base = marked_value (number n base); index = marked_value (number n index); register = 0; scale = scale; displacement = record { simm32 = simm32; offset = None }; trap = trap }
marked_amode n (RipRelative target) = record { stands = true; is_register = false; has_index = false; relative = Some target; base = 0; index = 0; register = 0; scale = One; displacement = no_displacement; trap = None }

abbrev pub marked_place : {M : Type 0} → Numbering M → PlaceOperand M → NumberedPlace
marked_place n place.TheVariants.NoPlace = no_place
marked_place n (place.TheVariants.Register number) = register_place (marked_value number)
marked_place n (place.TheVariants.Memory amode) = marked_amode n amode

-- 16, which no number has that an instruction can hold, where this is so, and else 0
abbrev pub mark : Bool → ℕ
mark is = 16 * from_bool is

-- where more has to hold of an address than that its numbers are below 16: of a late offset, or of an index that is the stack
-- pointer's
abbrev pub amode_mark : {M : Type 0} → Numbering M → Amode M → ℕ
amode_mark n (ImmReg base simm32 trap) = mark (is_some simm32.offset)
amode_mark n (ImmRegRegShift base index scale simm32 trap) = mark (marked_value (number n index) == 4)
amode_mark n (RipRelative target) = 0

abbrev pub place_mark : {M : Type 0} → Numbering M → PlaceOperand M → ℕ
place_mark n place.TheVariants.NoPlace = 0
place_mark n (place.TheVariants.Register number) = 0
place_mark n (place.TheVariants.Memory amode) = amode_mark n amode
