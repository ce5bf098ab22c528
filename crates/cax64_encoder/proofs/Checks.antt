use Rattle.std.proofs.Common.{◌≡◌, ℕ, Bool, true, false, refl, ◌∙◌, ap, Option, List, [], ◌∷◌, ◌++◌, ℤ}
use Rattle.std.specs.Prelude.{◌&&◌, ◌||◌}
use Rattle.cax64_address.specs.Offset.{sum_fits}
use Rattle.cax64_address.specs.declared.offset.AmodeOffsetPlusKnownOffset.{AmodeOffsetPlusKnownOffset}
use Rattle.cax64_address.specs.declared.amode.Amode.{Amode}
use Rattle.cax64_address.specs.declared.amode.Amode.TheVariants.{ImmReg, ImmRegRegShift, RipRelative}
use Rattle.cax64_operand.specs.declared.operand.Operand.{Operand}
use Rattle.cax64_operand.specs.Family.{Family, Numbering}
use Rattle.cax64_operand.specs.Fold.{fold}
use Rattle.cax64_operand.specs.OperandList.{list_of}
use Rattle.cax64_operand.specs.declared.operand.Operands.{Operands}
use Rattle.cax64_operand.specs.declared.operand.Operands.TheVariants as operands
use Rattle.cax64_machine_code.specs.declared.row.Row.{Row}
use Rattle.cax64_encoder.specs.Checked.{none_checked, amode_met, checked_of, checked_roles, with_checked, with_checked_operand, holds, offset_of}
use Rattle.cax64_encoder.specs.Number.{is_index_number, is_number, is_real_number}
use Rattle.cax64_encoder.specs.Numbered.{no_displacement}
use Rattle.cax64_encoder.specs.Fault.{is_met, all_met, late_offset_fits, is_encodable}
use Rattle.cax64_encoder.specs.Meant.{meant_of, place_in}
use Rattle.cax64_encoder.specs.Place.{memory_in}
use Rattle.cax64_encoder.specs.Role.{number, roles_of}
use Rattle.cax64_encoder.specs.Visits.{amode_visits, visits_of}
use Rattle.cax64_encoder.specs.declared.checked.Checked.{Checked}
use Rattle.cax64_encoder.specs.declared.number.Number.{Number}
use Rattle.cax64_encoder.specs.declared.role.PlaceOperand as place
use Rattle.cax64_encoder.specs.declared.role.PlaceOperand.{PlaceOperand}
use Rattle.cax64_encoder.specs.declared.role.Role.TheVariants.{Register, TwoRegisters, FixedRegister, Place, Immediate}
use Rattle.cax64_encoder.specs.declared.fault.Visited.{Visited}
use Rattle.cax64_encoder.specs.declared.role.Role.{Role}
use Rattle.cax64_encoder.proofs.Walk.{role_before}

-- The conjunction is what can be encoded.

all_before : (first later : List Visited) → all_met (first ++ later) ≡ (all_met first && all_met later)
all_before [] later = refl
all_before (v ∷ first) later = by_test (is_met v) (all_before first later)
  where
    by_test : (met : Bool) → all_met (first ++ later) ≡ (all_met first && all_met later) → (met && all_met (first ++ later)) ≡ ((met && all_met first) && all_met later)
    by_test true e = e
    by_test false e = refl

-- the registers of an operand, and those of the later ones
pub met_before : {M : Type 0} (n : Numbering M) (r role : Role M) (later : List (Role M)) (a b : Bool) → r ≡ role → a ≡ all_met (visits_of n (r ∷ [])) → b ≡ all_met (visits_of n later) → (a && b) ≡ all_met (visits_of n (role ∷ later))
met_before n r role later a b is e h =
    let k : a ≡ all_met (visits_of n (role ∷ [])) = rw is at e in
    ap (λ (x : Bool). x && b) k ∙ ap (λ (x : Bool). all_met (visits_of n (role ∷ [])) && x) h ∙ sym_of (all_before (visits_of n (role ∷ [])) (visits_of n later)) ∙ ap all_met (role_before n role later)
  where
    sym_of : {x y : Bool} → x ≡ y → y ≡ x
    sym_of e = rw e refl

and_true : (b : Bool) → b ≡ (b && true)
and_true true = refl
and_true false = refl

amode_same : {M : Type 0} (n : Numbering M) (amode : Amode M) → amode_met n amode ≡ all_met (amode_visits n amode [])
amode_same n (ImmReg base simm32 trap) = and_true (is_real_number (number n base))
amode_same n (ImmRegRegShift base index scale simm32 trap) = ap (λ (x : Bool). is_real_number (number n base) && x) (and_true (is_index_number (number n index)))
amode_same n (RipRelative target) = refl

two_same : {M : Type 0} (n : Numbering M) (first second : Number) (same : Bool) → (is_real_number first && (same || is_real_number second)) ≡ all_met (visits_of n (TwoRegisters first second same ∷ []))
two_same n first second true = refl
two_same n first second false = ap (λ (x : Bool). is_real_number first && x) (and_true (is_real_number second))

-- the displacement that is kept of a place
abbrev kept : {M : Type 0} → PlaceOperand M → AmodeOffsetPlusKnownOffset
kept place.TheVariants.NoPlace = no_displacement
kept (place.TheVariants.Register number) = no_displacement
kept (place.TheVariants.Memory amode) = offset_of amode

late_same : {M : Type 0} (offsets : ℕ → Option ℤ) (p : PlaceOperand M) → sum_fits offsets (kept p).offset (kept p).simm32 ≡ late_offset_fits offsets (memory_in p)
late_same offsets place.TheVariants.NoPlace = refl
late_same offsets (place.TheVariants.Register number) = refl
late_same offsets (place.TheVariants.Memory (ImmReg base simm32 trap)) = refl
late_same offsets (place.TheVariants.Memory (ImmRegRegShift base index scale simm32 trap)) = refl
late_same offsets (place.TheVariants.Memory (RipRelative target)) = refl

abbrev met_with : AmodeOffsetPlusKnownOffset → Bool → Checked
met_with displacement met = record { met = met; displacement = displacement }

-- what is kept of operands is what they come to
checked_is : {M : Type 0} (n : Numbering M) (roles : List (Role M)) → checked_roles n roles ≡ met_with (kept (place_in roles)) (all_met (visits_of n roles))
checked_is n [] = refl
checked_is n (Register number ∷ later) = ap (with_checked n (Register number)) (checked_is n later) ∙ ap (met_with (kept (place_in later))) (met_before n (Register number) (Register number) later _ _ refl (and_true (is_real_number number)) refl)
checked_is n (TwoRegisters first second same ∷ later) = ap (with_checked n (TwoRegisters first second same)) (checked_is n later) ∙ ap (met_with (kept (place_in later))) (met_before n (TwoRegisters first second same) (TwoRegisters first second same) later _ _ refl (two_same n first second same) refl)
checked_is n (FixedRegister fixed ∷ later) = ap (with_checked n (FixedRegister fixed)) (checked_is n later) ∙ ap (met_with (kept (place_in later))) (met_before n (FixedRegister fixed) (FixedRegister fixed) later _ _ refl (and_true (is_number fixed.held fixed.expected)) refl)
checked_is n (Place place.TheVariants.NoPlace ∷ later) = ap (with_checked n (Place place.TheVariants.NoPlace)) (checked_is n later)
checked_is n (Place (place.TheVariants.Register number) ∷ later) = ap (with_checked n (Place (place.TheVariants.Register number))) (checked_is n later) ∙ ap (met_with no_displacement) (met_before n (Register number) (Register number) later _ _ refl (and_true (is_real_number number)) refl)
checked_is n (Place (place.TheVariants.Memory amode) ∷ later) = ap (with_checked n (Place (place.TheVariants.Memory amode))) (checked_is n later) ∙ ap (met_with (offset_of amode)) (met_before n (Place (place.TheVariants.Memory amode)) (Place (place.TheVariants.Memory amode)) later _ _ refl (amode_same n amode) refl)
checked_is n (Immediate imm ∷ later) = checked_is n later

pub met_is : {M : Type 0} (n : Numbering M) (roles : List (Role M)) → (checked_roles n roles).met ≡ all_met (visits_of n roles)
met_is n roles = ap (λ (checked : Checked). checked.met) (checked_is n roles)

-- what is checked of operands one by one
pub checked_fold : {R A B C D E F : Type 0} (f : Family A B C D E F) (o : Operands R A B C D E F) → fold none_checked (with_checked_operand f) (λ _. none_checked) o ≡ checked_of f (list_of o)
checked_fold f operands.Zero = refl
checked_fold f (operands.One a) = refl
checked_fold f (operands.Two a b) = refl
checked_fold f (operands.Three a b c) = refl
checked_fold f (operands.Four a b c d) = refl
checked_fold f (operands.Five a b c d e) = refl
checked_fold f (operands.Nop nop) = refl

holds_list : {R A B C D E F : Type 0} (f : Family A B C D E F) (list : List (Operand R A B C D E F)) (offsets : ℕ → Option ℤ) → holds offsets (checked_of f list) ≡ (all_met (visits_of f.read_gpr (roles_of f list)) && late_offset_fits offsets (memory_in (place_in (roles_of f list))))
holds_list f list offsets = ap (holds offsets) (checked_is f.read_gpr (roles_of f list)) ∙ ap (λ (x : Bool). all_met (visits_of f.read_gpr (roles_of f list)) && x) (late_same offsets (place_in (roles_of f list)))

pub holds_is : {R A B C D E F : Type 0} (f : Family A B C D E F) (row : Row) (o : Operands R A B C D E F) (offsets : ℕ → Option ℤ) → holds offsets (checked_of f (list_of o)) ≡ is_encodable offsets (meant_of f row o offsets)
holds_is {R = R} f row operands.Zero offsets = holds_list {R = R} f (list_of operands.Zero) offsets
holds_is {R = R} f row (operands.One a) offsets = holds_list {R = R} f (list_of (operands.One a)) offsets
holds_is {R = R} f row (operands.Two a b) offsets = holds_list {R = R} f (list_of (operands.Two a b)) offsets
holds_is {R = R} f row (operands.Three a b c) offsets = holds_list {R = R} f (list_of (operands.Three a b c)) offsets
holds_is {R = R} f row (operands.Four a b c d) offsets = holds_list {R = R} f (list_of (operands.Four a b c d)) offsets
holds_is {R = R} f row (operands.Five a b c d e) offsets = holds_list {R = R} f (list_of (operands.Five a b c d e)) offsets
holds_is {R = R} f row (operands.Nop nop) offsets = refl
