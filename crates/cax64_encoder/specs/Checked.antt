use Rattle.std.specs.Prelude.{ℕ, Bool, true, ◌&&◌, ◌||◌, Option, ℤ, List, [], ◌∷◌}
use Rattle.cax64_address.specs.Offset.{sum_fits}
use Rattle.cax64_address.specs.declared.amode.Amode.{Amode}
use Rattle.cax64_address.specs.declared.amode.Amode.TheVariants.{ImmReg, ImmRegRegShift, RipRelative}
use Rattle.cax64_address.specs.declared.offset.AmodeOffsetPlusKnownOffset.{AmodeOffsetPlusKnownOffset}
use Rattle.cax64_operand.specs.Family.{Family, Numbering}
use Rattle.cax64_operand.specs.declared.operand.Operand.{Operand}
use Rattle.cax64_encoder.specs.Number.{is_real_number, is_index_number, is_number}
use Rattle.cax64_encoder.specs.Numbered.{no_displacement}
use Rattle.cax64_encoder.specs.Role.{number, role_of, roles_of}
use Rattle.cax64_encoder.specs.declared.checked.Checked.{Checked}
use Rattle.cax64_encoder.specs.declared.role.PlaceOperand as place
use Rattle.cax64_encoder.specs.declared.role.PlaceOperand.{PlaceOperand}
use Rattle.cax64_encoder.specs.declared.role.Role.{Role}
use Rattle.cax64_encoder.specs.declared.role.Role.TheVariants.{Register, TwoRegisters, FixedRegister, Place, Immediate}

-- What decides whether operands can be encoded.

abbrev pub none_checked : Checked
none_checked = record { met = true; displacement = no_displacement }

-- the same with one more thing that has to hold
abbrev pub with_met : Bool → Checked → Checked
with_met met later = record { met = met && later.met; displacement = later.displacement }

-- the registers of an address are as they have to be
abbrev pub amode_met : {M : Type 0} → Numbering M → Amode M → Bool
amode_met n (ImmReg base simm32 trap) = is_real_number (number n base)
amode_met n (ImmRegRegShift base index scale simm32 trap) = is_real_number (number n base) && is_index_number (number n index)
amode_met n (RipRelative target) = true

-- the displacement that may have a late offset, or one that has none
abbrev pub offset_of : {M : Type 0} → Amode M → AmodeOffsetPlusKnownOffset
offset_of (ImmReg base simm32 trap) = simm32
offset_of (ImmRegRegShift base index scale simm32 trap) = no_displacement
offset_of (RipRelative target) = no_displacement

abbrev pub with_amode : {M : Type 0} → Numbering M → Amode M → Checked → Checked
with_amode n amode later = record { met = amode_met n amode && later.met; displacement = offset_of amode }

abbrev pub with_place : {M : Type 0} → Numbering M → PlaceOperand M → Checked → Checked
with_place n place.TheVariants.NoPlace later = record { met = later.met; displacement = no_displacement }
with_place n (place.TheVariants.Register number) later = record { met = is_real_number number && later.met; displacement = no_displacement }
with_place n (place.TheVariants.Memory amode) later = with_amode n amode later

-- the same with one more operand before the others
abbrev pub with_checked : {M : Type 0} → Numbering M → Role M → Checked → Checked
with_checked n (Register number) later = with_met (is_real_number number) later
with_checked n (TwoRegisters first second same) later = with_met (is_real_number first && (same || is_real_number second)) later
with_checked n (FixedRegister fixed) later = with_met (is_number fixed.held fixed.expected) later
with_checked n (Place operand) later = with_place n operand later
with_checked n (Immediate imm) later = later

abbrev pub with_checked_operand : {R A B C D E F : Type 0} → Family A B C D E F → Operand R A B C D E F → Checked → Checked
with_checked_operand f operand later = with_checked f.read_gpr (role_of f operand) later

abbrev pub checked_roles : {M : Type 0} → Numbering M → List (Role M) → Checked
checked_roles n [] = none_checked
checked_roles n (role ∷ later) = with_checked n role (checked_roles n later)

abbrev pub checked_of : {R A B C D E F : Type 0} → Family A B C D E F → List (Operand R A B C D E F) → Checked
checked_of f operands = checked_roles f.read_gpr (roles_of f operands)

abbrev pub holds : (ℕ → Option ℤ) → Checked → Bool
holds offsets checked = checked.met && sum_fits offsets checked.displacement.offset checked.displacement.simm32
