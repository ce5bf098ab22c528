use Rattle.std.specs.Prelude.{Bool, true, false, List, [], ◌∷◌}
use Rattle.cax64_address.specs.declared.amode.Amode.{Amode}
use Rattle.cax64_address.specs.declared.amode.Amode.TheVariants.{ImmReg, ImmRegRegShift, RipRelative}
use Rattle.cax64_operand.specs.Family.{Numbering}
use Rattle.cax64_encoder.specs.Role.{number}
use Rattle.cax64_encoder.specs.declared.fault.Visited.{Visited}
use Rattle.cax64_encoder.specs.declared.fault.Visited.TheVariants.{Plain, Index, Fixed}
use Rattle.cax64_encoder.specs.declared.role.PlaceOperand as place
use Rattle.cax64_encoder.specs.declared.role.PlaceOperand.{PlaceOperand}
use Rattle.cax64_encoder.specs.declared.role.Role.{Role}
use Rattle.cax64_encoder.specs.declared.role.Role.TheVariants.{Register, TwoRegisters, FixedRegister, Place, Immediate}

-- The registers of an instruction, in the order of visits.

-- those of an address, before those that are visited later: the base, then the index
abbrev pub amode_visits : {M : Type 0} → Numbering M → Amode M → List Visited → List Visited
amode_visits n (ImmReg base simm32 trap) later = Plain (number n base) ∷ later
amode_visits n (ImmRegRegShift base index scale simm32 trap) later = Plain (number n base) ∷ Index (number n index) ∷ later
amode_visits n (RipRelative target) later = later

abbrev pub place_visits : {M : Type 0} → Numbering M → PlaceOperand M → List Visited → List Visited
place_visits n place.TheVariants.NoPlace later = later
place_visits n (place.TheVariants.Register number) later = Plain number ∷ later
place_visits n (place.TheVariants.Memory amode) later = amode_visits n amode later

-- of two equal registers only the first is visited
abbrev pub second_visit : Bool → Visited → List Visited → List Visited
second_visit true second later = later
second_visit false second later = second ∷ later

abbrev pub visits_of : {M : Type 0} → Numbering M → List (Role M) → List Visited
visits_of n [] = []
visits_of n (Register number ∷ later) = Plain number ∷ visits_of n later
visits_of n (TwoRegisters first second same ∷ later) = Plain first ∷ second_visit same (Plain second) (visits_of n later)
visits_of n (FixedRegister fixed ∷ later) = Fixed fixed ∷ visits_of n later
visits_of n (Place operand ∷ later) = place_visits n operand (visits_of n later)
visits_of n (Immediate imm ∷ later) = visits_of n later
