use Rattle.std.specs.Prelude.{ℕ, ◌/◌, ◌&&◌, Bool, true, Option, Some, None, ℤ}
use Rattle.cax64_address.specs.Address as address
use Rattle.cax64_address.specs.Address.{trap_of}
use Rattle.cax64_sink.specs.declared.TrapCode.{TrapCode}
use Rattle.cax64_encoder.specs.Form.{Form}
use Rattle.cax64_encoder.specs.Fault.{late_offset_fits}
use Rattle.cax64_encoder.specs.Number.{is_real_number, number_value}
use Rattle.cax64_encoder.specs.Place.{memory_in}
use Rattle.cax64_encoder.specs.declared.number.Number.{Number}
use Rattle.cax64_encoder.specs.declared.role.PlaceOperand.{PlaceOperand}
use Rattle.cax64_encoder.specs.declared.role.PlaceOperand.TheVariants.{NoPlace, Register, Memory}

-- The registers that the bytes hold.

abbrev pub is_absent_or_real : Option Number → Bool
is_absent_or_real None = true
is_absent_or_real (Some number) = is_real_number number

abbrev pub place_is_real : {M : Type 0} → (M → Bool) → (M → ℕ) → PlaceOperand M → Bool
place_is_real settled enc NoPlace = true
place_is_real settled enc (Register number) = is_real_number number
place_is_real settled enc (Memory amode) = address.registers_are_real settled enc amode

abbrev pub form_is_real : {M : Type 0} → (M → Bool) → (M → ℕ) → Form M → Bool
form_is_real settled enc form = is_absent_or_real form.reg && (is_absent_or_real form.vvvv && place_is_real settled enc form.place)

-- its displacement can be told
abbrev pub place_is_addressable : {M : Type 0} → (M → Bool) → (M → ℕ) → (ℕ → Option ℤ) → PlaceOperand M → Bool
place_is_addressable settled enc offsets operand = place_is_real settled enc operand && late_offset_fits offsets (memory_in operand)

-- bit 3 of the index and of the register or base, 0 where there is none
abbrev pub place_x : {M : Type 0} → (M → ℕ) → PlaceOperand M → ℕ
place_x enc NoPlace = 0
place_x enc (Register number) = 0
place_x enc (Memory amode) = address.index_bit enc amode

abbrev pub place_b : {M : Type 0} → (M → ℕ) → PlaceOperand M → ℕ
place_b enc NoPlace = 0
place_b enc (Register number) = number_value number / 8
place_b enc (Memory amode) = address.base_bit enc amode

abbrev pub trap_in : {M : Type 0} → PlaceOperand M → Option TrapCode
trap_in NoPlace = None
trap_in (Register number) = None
trap_in (Memory amode) = trap_of amode
