use Rattle.std.specs.Prelude.{ℕ, ◌+◌, ◌&&◌, not, Bool, true, if◌then◌else◌, Option, Some, None, ℤ, ◌+ℤ◌, List, [], ◌∷◌}
use Rattle.cax64_address.specs.Address as address
use Rattle.cax64_address.specs.Offset.{fits_i32}
use Rattle.cax64_address.specs.declared.amode.Amode.{Amode}
use Rattle.cax64_address.specs.declared.amode.Amode.TheVariants.{ImmReg, ImmRegRegShift, RipRelative}
use Rattle.cax64_encoder.specs.Meant.{Meant}
use Rattle.cax64_encoder.specs.Number.{is_real_number, is_number}
use Rattle.cax64_encoder.specs.declared.fault.Fault.{Fault}
use Rattle.cax64_encoder.specs.declared.fault.Fault.TheVariants as fault
use Rattle.cax64_encoder.specs.declared.fault.Visited.{Visited}
use Rattle.cax64_encoder.specs.declared.fault.Visited.TheVariants.{Plain, Index, Fixed}

-- Whether an instruction can be encoded, and why it can't.

-- The register is as it has to be: real; as an index, not number 4 either, which means none; as a fixed one, settled with
-- its number.
abbrev pub is_met : Visited → Bool
is_met (Plain number) = is_real_number number
is_met (Index number) = is_real_number number && not (is_number number 4)
is_met (Fixed fixed) = is_number fixed.held fixed.expected

abbrev pub all_met : List Visited → Bool
all_met [] = true
all_met (visited ∷ later) = is_met visited && all_met later

-- the late offset is absent, or known with a sum that is an i32
abbrev pub late_offset_fits : {M : Type 0} → (ℕ → Option ℤ) → Option (Amode M) → Bool
late_offset_fits offsets None = true
late_offset_fits offsets (Some amode) = address.offset_fits offsets amode

-- each register is as it has to be, and so is the late offset
abbrev pub can_encode : {M : Type 0} → (ℕ → Option ℤ) → List Visited → Option (Amode M) → Bool
can_encode offsets visited memory = all_met visited && late_offset_fits offsets memory

-- whether an instruction can be encoded for a sink that knows these offsets
abbrev pub is_encodable : {M : Type 0} → (ℕ → Option ℤ) → Meant M → Bool
is_encodable offsets m = can_encode offsets m.visited m.memory

-- why the register at this place isn't as it has to be
abbrev pub fault_of : ℕ → Visited → Fault
fault_of at (Plain number) = fault.Register at
fault_of at (Index number) = if is_number number 4 then fault.Index at else fault.Register at
fault_of at (Fixed fixed) = fault.Fixed at

-- the fault of the first of these registers that isn't as it has to be, the first of all being at this place
abbrev pub first_unmet : ℕ → List Visited → Option Fault
first_unmet at [] = None
first_unmet at (visited ∷ later) = if is_met visited then first_unmet (at + 1) later else Some (fault_of at visited)

abbrev pub known_fault : ℕ → Option ℤ → ℤ → Option Fault
known_fault key None simm32 = Some (fault.Unknown key)
known_fault key (Some known) simm32 = if fits_i32 (known +ℤ simm32) then None else Some fault.Range

abbrev pub sum_fault : (ℕ → Option ℤ) → Option ℕ → ℤ → Option Fault
sum_fault offsets None simm32 = None
sum_fault offsets (Some key) simm32 = known_fault key (offsets key) simm32

-- the fault of the late offset of a memory operand
abbrev pub late_fault : {M : Type 0} → (ℕ → Option ℤ) → Option (Amode M) → Option Fault
late_fault offsets None = None
late_fault offsets (Some (ImmReg base simm32 trap)) = sum_fault offsets simm32.offset simm32.simm32
late_fault offsets (Some (ImmRegRegShift base index scale simm32 trap)) = None
late_fault offsets (Some (RipRelative target)) = None

abbrev pub or_later : Option Fault → Option Fault → Option Fault
or_later None later = later
or_later (Some fault) later = Some fault

-- the first fault of registers and of a memory operand
abbrev pub first_fault : {M : Type 0} → (ℕ → Option ℤ) → List Visited → Option (Amode M) → Option Fault
first_fault offsets visited memory = or_later (first_unmet 0 visited) (late_fault offsets memory)

-- why an instruction can't be encoded for a sink that knows these offsets
abbrev pub fault_of_meant : {M : Type 0} → (ℕ → Option ℤ) → Meant M → Option Fault
fault_of_meant offsets m = first_fault offsets m.visited m.memory
