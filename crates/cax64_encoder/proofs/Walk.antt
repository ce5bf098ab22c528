use Rattle.std.proofs.Common.{◌≡◌, ℕ, ◌+◌, ◌<◌, ◌≤◌, Bool, true, false, refl, ◌∙◌, ap, sym, Option, Some, None, List, [], ◌∷◌, ◌++◌, length, drop, slice_index_or}
use Rattle.std.specs.Prelude.{if◌then◌else◌}
use Rattle.std.proofs.lemmas.List.{at_drop_more, at_drop_all}
use Rattle.cax64_address.specs.declared.amode.Amode.{Amode}
use Rattle.cax64_address.specs.declared.amode.Amode.TheVariants.{ImmReg, ImmRegRegShift, RipRelative}
use Rattle.cax64_operand.specs.Family.{Numbering}
use Rattle.cax64_encoder.specs.Fault.{is_met, fault_of, first_unmet}
use Rattle.cax64_encoder.specs.Present.{present}
use Rattle.cax64_encoder.specs.Visits.{amode_visits, place_visits, visits_of}
use Rattle.cax64_encoder.specs.declared.fault.Visited.{Visited}
use Rattle.cax64_encoder.specs.declared.role.PlaceOperand.{PlaceOperand}
use Rattle.cax64_encoder.specs.declared.role.PlaceOperand.TheVariants as place
use Rattle.cax64_encoder.specs.declared.role.Role.{Role}
use Rattle.cax64_encoder.specs.declared.role.Role.TheVariants.{Register, TwoRegisters, FixedRegister, Place, Immediate}

-- The walk along the registers, two at most of each operand.

present_two : (a b : Option Visited) (later : List (Option Visited)) → present (a ∷ b ∷ later) ≡ present (a ∷ b ∷ []) ++ present later
present_two None None later = refl
present_two None (Some b) later = refl
present_two (Some a) None later = refl
present_two (Some a) (Some b) later = refl

amode_before : {M : Type 0} (n : Numbering M) (amode : Amode M) (later : List Visited) → amode_visits n amode [] ++ later ≡ amode_visits n amode later
amode_before n (ImmReg base simm32 trap) later = refl
amode_before n (ImmRegRegShift base index scale simm32 trap) later = refl
amode_before n (RipRelative target) later = refl

place_before : {M : Type 0} (n : Numbering M) (operand : PlaceOperand M) (later : List Visited) → place_visits n operand [] ++ later ≡ place_visits n operand later
place_before n place.NoPlace later = refl
place_before n (place.Register number) later = refl
place_before n (place.Memory amode) later = amode_before n amode later

pub role_before : {M : Type 0} (n : Numbering M) (role : Role M) (later : List (Role M)) → visits_of n (role ∷ []) ++ visits_of n later ≡ visits_of n (role ∷ later)
role_before n (Register number) later = refl
role_before n (TwoRegisters high low true) later = refl
role_before n (TwoRegisters high low false) later = refl
role_before n (FixedRegister fixed) later = refl
role_before n (Place operand) later = place_before n operand (visits_of n later)
role_before n (Immediate imm) later = refl

-- the registers of an operand before those of the later ones
pub pair_before : {M : Type 0} (n : Numbering M) (role : Role M) (later : List (Role M)) (a b : Option Visited) (rest : List (Option Visited)) → present (a ∷ b ∷ []) ≡ visits_of n (role ∷ []) → present rest ≡ visits_of n later → present (a ∷ b ∷ rest) ≡ visits_of n (role ∷ later)
pair_before n role later a b rest e h =
    present_two a b rest ∙ ap (λ (x : List Visited). x ++ present rest) e ∙ ap (λ (x : List Visited). visits_of n (role ∷ []) ++ x) h ∙ role_before n role later

pub pair_of : {M : Type 0} (n : Numbering M) (r role : Role M) (later : List (Role M)) (a b : Option Visited) (rest : List (Option Visited)) → r ≡ role → present (a ∷ b ∷ []) ≡ visits_of n (r ∷ []) → present rest ≡ visits_of n later → present (a ∷ b ∷ rest) ≡ visits_of n (role ∷ later)
pair_of n r role later a b rest is e h = pair_before n role later a b rest (rw is at e) h

-- The walk along the array.

at_none : (visits : List (Option Visited)) (i at : ℕ) → i < length visits → slice_index_or visits i None ≡ None → first_unmet at (present (drop i visits)) ≡ first_unmet at (present (drop (i + 1) visits))
at_none visits i at h e = at_drop_more (λ xs. first_unmet at (present xs)) visits i None h ∙ ap (λ (v : Option Visited). first_unmet at (present (v ∷ drop (i + 1) visits))) e

at_some : (visits : List (Option Visited)) (i at : ℕ) (v : Visited) → i < length visits → slice_index_or visits i None ≡ Some v → first_unmet at (present (drop i visits)) ≡ first_unmet at (v ∷ present (drop (i + 1) visits))
at_some visits i at v h e = at_drop_more (λ xs. first_unmet at (present xs)) visits i None h ∙ ap (λ (w : Option Visited). first_unmet at (present (w ∷ drop (i + 1) visits))) e

pub step_none : (visits : List (Option Visited)) (i at : ℕ) → i < length visits → slice_index_or visits i None ≡ None → first_unmet 0 (present visits) ≡ first_unmet at (present (drop i visits)) → first_unmet 0 (present visits) ≡ first_unmet at (present (drop (i + 1) visits))
step_none visits i at h e k = k ∙ at_none visits i at h e

pub step_met : (visits : List (Option Visited)) (i at : ℕ) (v : Visited) → i < length visits → slice_index_or visits i None ≡ Some v → is_met v ≡ true → first_unmet 0 (present visits) ≡ first_unmet at (present (drop i visits)) → first_unmet 0 (present visits) ≡ first_unmet (at + 1) (present (drop (i + 1) visits))
step_met visits i at v h e m k = k ∙ at_some visits i at v h e ∙ ap (λ (b : Bool). if b then first_unmet (at + 1) (present (drop (i + 1) visits)) else Some (fault_of at v)) m

pub step_unmet : (visits : List (Option Visited)) (i at : ℕ) (v : Visited) → i < length visits → slice_index_or visits i None ≡ Some v → is_met v ≡ false → first_unmet 0 (present visits) ≡ first_unmet at (present (drop i visits)) → Some (fault_of at v) ≡ first_unmet 0 (present visits)
step_unmet visits i at v h e m k = sym (k ∙ at_some visits i at v h e ∙ ap (λ (b : Bool). if b then first_unmet (at + 1) (present (drop (i + 1) visits)) else Some (fault_of at v)) m)

-- nothing is left at the end
pub walked : (visits : List (Option Visited)) (at i : ℕ) → length visits ≤ i → first_unmet 0 (present visits) ≡ first_unmet at (present (drop i visits)) → None ≡ first_unmet 0 (present visits)
walked visits at i h k = sym (k ∙ at_drop_all (λ xs. first_unmet at (present xs)) visits i h)
