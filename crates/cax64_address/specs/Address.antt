-- What a memory operand is, which of them can be written, and what they name.
use Rattle.std.specs.Prelude.{ℕ, ◌/◌, ◌^◌, ◌&&◌, List, [], ◌∷◌, ◌+◌, ℤ, pos, ◌-ℤ◌, Option, Some, None, Bool, true}
use Rattle.cax64_machine_code.specs.declared.reading.Place.{Place}
use Rattle.cax64_machine_code.specs.declared.reading.Place.TheVariants.{Mem, Rip}
use Rattle.cax64_register.specs.Real.{is_real, is_real_non_rsp}
use Rattle.cax64_sink.specs.declared.Notice.{Notice}
use Rattle.cax64_sink.specs.declared.Notice.TheVariants.{Target}
use Rattle.cax64_sink.specs.declared.TrapCode.{TrapCode}
use Rattle.cax64_address.specs.Offset.{sum_fits, sum_of}
use Rattle.cax64_address.specs.declared.amode.Amode.{Amode}
use Rattle.cax64_address.specs.declared.amode.Amode.TheVariants.{ImmReg, ImmRegRegShift, RipRelative}
use Rattle.cax64_address.specs.declared.amode.Scale.{Scale}
use Rattle.cax64_address.specs.declared.amode.Scale.TheVariants.{One, Two, Four, Eight}

-- the two bits of a SIB byte
abbrev pub scale_number : Scale → ℕ
scale_number One = 0
scale_number Two = 1
scale_number Four = 2
scale_number Eight = 3

abbrev pub trap_of : {R : Type 0} → Amode R → Option TrapCode
trap_of (ImmReg base simm32 trap) = trap
trap_of (ImmRegRegShift base index scale simm32 trap) = trap
trap_of (RipRelative target) = None

-- base and index are real, and the index isn't number 4
abbrev pub registers_are_real : {R : Type 0} → (R → Bool) → (R → ℕ) → Amode R → Bool
registers_are_real settled enc (ImmReg base simm32 trap) = is_real settled enc base
registers_are_real settled enc (ImmRegRegShift base index scale simm32 trap) = is_real settled enc base && is_real_non_rsp settled enc index
registers_are_real settled enc (RipRelative target) = true

-- the late offset is absent, or known with a sum that is an i32
abbrev pub offset_fits : {R : Type 0} → (ℕ → Option ℤ) → Amode R → Bool
offset_fits offsets (ImmReg base simm32 trap) = sum_fits offsets simm32.offset simm32.simm32
offset_fits offsets (ImmRegRegShift base index scale simm32 trap) = true
offset_fits offsets (RipRelative target) = true

-- an operand that can be written for a sink that knows these offsets
abbrev pub is_addressable : {R : Type 0} → (R → Bool) → (R → ℕ) → (ℕ → Option ℤ) → Amode R → Bool
is_addressable settled enc offsets amode = registers_are_real settled enc amode && offset_fits offsets amode

abbrev pub displacement_of : {R : Type 0} → (ℕ → Option ℤ) → Amode R → ℤ
displacement_of offsets (ImmReg base simm32 trap) = sum_of offsets simm32.offset simm32.simm32
displacement_of offsets (ImmRegRegShift base index scale simm32 trap) = simm32
displacement_of offsets (RipRelative target) = pos 0

-- the place that an operand of this displacement names, before so many bytes of immediate
abbrev pub displaced_place : {R : Type 0} → (R → ℕ) → ℤ → ℕ → Amode R → Place
displaced_place enc disp at_end (ImmReg base simm32 trap) = Mem (Some (enc base)) None disp
displaced_place enc disp at_end (ImmRegRegShift base index scale simm32 trap) = Mem (Some (enc base)) (Some (enc index, 2 ^ scale_number scale)) disp
displaced_place enc disp at_end (RipRelative target) = Rip (pos 0 -ℤ pos at_end)

-- the place that an operand names
abbrev pub place_of : {R : Type 0} → (R → ℕ) → (ℕ → Option ℤ) → ℕ → Amode R → Place
place_of enc offsets at_end amode = displaced_place enc (displacement_of offsets amode) at_end amode

-- bit 3 of base and index, 0 where there is none
abbrev pub base_bit : {R : Type 0} → (R → ℕ) → Amode R → ℕ
base_bit enc (ImmReg base simm32 trap) = enc base / 8
base_bit enc (ImmRegRegShift base index scale simm32 trap) = enc base / 8
base_bit enc (RipRelative target) = 0

abbrev pub index_bit : {R : Type 0} → (R → ℕ) → Amode R → ℕ
index_bit enc (ImmReg base simm32 trap) = 0
index_bit enc (ImmRegRegShift base index scale simm32 trap) = enc index / 8
index_bit enc (RipRelative target) = 0

-- the notice of an operand whose tail begins after so many bytes: the target, at its field
abbrev pub target_notices : {R : Type 0} → Amode R → ℕ → List Notice
target_notices (ImmReg base simm32 trap) at = []
target_notices (ImmRegRegShift base index scale simm32 trap) at = []
target_notices (RipRelative target) at = Target (at + 1) target ∷ []

-- and how many notices that is
abbrev pub target_count : {R : Type 0} → Amode R → ℕ
target_count (ImmReg base simm32 trap) = 0
target_count (ImmRegRegShift base index scale simm32 trap) = 0
target_count (RipRelative target) = 1
