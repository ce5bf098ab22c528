use Rattle.std.proofs.Common.{◌≡◌, ℕ, Bool, true, false, refl, List, [], ◌∷◌}
use Rattle.std.specs.Prelude.{◌&&◌, ◌==◌, not, nat_lt}
use Rattle.std.proofs.lemmas.Bool.{and_parts}
use Rattle.cax64_register.specs.Real.{is_real, is_real_non_rsp}
use Rattle.cax64_address.specs.Address.{registers_are_real}
use Rattle.cax64_address.specs.declared.amode.Amode.{Amode}
use Rattle.cax64_address.specs.declared.amode.Amode.TheVariants.{ImmReg, ImmRegRegShift, RipRelative}
use Rattle.cax64_operand.specs.Family.{Numbering, Family}
use Rattle.cax64_operand.specs.declared.operand.Operand.{Operand}
use Rattle.cax64_operand.specs.declared.operand.Operand.TheVariants as operand
use Rattle.cax64_encoder.specs.Fault.{is_met, all_met}
use Rattle.cax64_encoder.specs.Meant.{numbers_in, place_in, first, second}
use Rattle.cax64_encoder.specs.Number.{number_of, is_real_number}
use Rattle.cax64_encoder.specs.Real.{is_absent_or_real, place_is_real, form_is_real}
use Rattle.cax64_encoder.specs.Role.{number, role_of, roles_of}
use Rattle.cax64_encoder.specs.Visits.{amode_visits, place_visits, visits_of}
use Rattle.cax64_encoder.specs.declared.fault.Visited.{Visited}
use Rattle.cax64_encoder.specs.declared.fault.Visited.TheVariants.{Index, Fixed}
use Rattle.cax64_encoder.specs.declared.number.Number.{Number}
use Rattle.cax64_encoder.specs.declared.role.PlaceOperand.{PlaceOperand}
use Rattle.cax64_encoder.specs.declared.role.PlaceOperand.TheVariants as place
use Rattle.cax64_encoder.specs.declared.role.Role.{Role}
use Rattle.cax64_encoder.specs.declared.role.Role.TheVariants.{Register, TwoRegisters, FixedRegister, Place, Immediate}
use Rattle.cax64_encoder.proofs.Forms.{direct}

-- Where the registers in the order of visits are as they have to be, those that the bytes hold are real.

real_number : {R : Type 0} (settled : R → Bool) (enc : R → ℕ) (reg : R) → is_real_number (number_of settled enc reg) ≡ true → is_real settled enc reg ≡ true
real_number settled enc reg h = by_test (settled reg) h
  where
    by_test : (test : Bool) → is_real_number (number_of (λ r. test) enc reg) ≡ true → (test && nat_lt (enc reg) 16) ≡ true
    by_test true h = h
    by_test false h = cc

real_index : {R : Type 0} (settled : R → Bool) (enc : R → ℕ) (reg : R) → is_met (Index (number_of settled enc reg)) ≡ true → is_real_non_rsp settled enc reg ≡ true
real_index settled enc reg h = by_test (settled reg) h
  where
    by_test : (test : Bool) → is_met (Index (number_of (λ r. test) enc reg)) ≡ true → ((test && nat_lt (enc reg) 16) && not (enc reg == 4)) ≡ true
    by_test true h = h
    by_test false h = cc

-- two registers that are equal have the same number
abbrev IsSound : {M : Type 0} → Role M → Type 0
IsSound (Register number) = true ≡ true
IsSound (TwoRegisters high low same) = same ≡ true → high ≡ low
IsSound (FixedRegister fixed) = true ≡ true
IsSound (Place operand) = true ≡ true
IsSound (Immediate imm) = true ≡ true

abbrev pub AreSound : {M : Type 0} → List (Role M) → Type 0
AreSound [] = true ≡ true
AreSound (role ∷ later) = IsSound role × AreSound later

role_is_sound : {R A B C D E F : Type 0} (f : Family A B C D E F) → ((a b : C) → f.same_write_gpr a b ≡ true → a ≡ b) → (o : Operand R A B C D E F) → IsSound (role_of f o)
role_is_sound f same (operand.ReadGpr reg size) = refl
role_is_sound f same (operand.ReadWriteGpr reg size) = refl
role_is_sound f same (operand.WriteGpr reg size) = refl
role_is_sound f same (operand.WriteTwoGprs a b size) = λ e. rw (same a b e) refl
role_is_sound f same (operand.FixedReadGpr reg expected size) = refl
role_is_sound f same (operand.FixedReadWriteGpr reg expected size) = refl
role_is_sound f same (operand.ReadXmm reg) = refl
role_is_sound f same (operand.ReadWriteXmm reg) = refl
role_is_sound f same (operand.WriteXmm reg) = refl
role_is_sound f same (operand.ReadAmode m) = refl
role_is_sound f same (operand.ReadGprMem m size) = refl
role_is_sound f same (operand.ReadWriteGprMem m size) = refl
role_is_sound f same (operand.ReadXmmMem m) = refl
role_is_sound f same (operand.Imm imm) = refl

pub roles_are_sound : {R A B C D E F : Type 0} (f : Family A B C D E F) → ((a b : C) → f.same_write_gpr a b ≡ true → a ≡ b) → (operands : List (Operand R A B C D E F)) → AreSound (roles_of f operands)
roles_are_sound f same [] = refl
roles_are_sound f same (o ∷ later) = (role_is_sound f same o, roles_are_sound f same later)

abbrev all_real : List Number → Bool
all_real [] = true
all_real (number ∷ later) = is_real_number number && all_real later

abbrev Both : Bool → List Visited → Type 0
Both real later = (real ≡ true) × (all_met later ≡ true)

amode_met : {M : Type 0} (n : Numbering M) (amode : Amode M) (later : List Visited) → all_met (amode_visits n amode later) ≡ true → Both (registers_are_real n.settled n.enc amode) later
amode_met n (ImmReg base simm32 trap) later h =
    let p = and_parts (is_real_number (number n base)) (all_met later) h in
    (real_number n.settled n.enc base p.0, p.1)
amode_met n (ImmRegRegShift base index scale simm32 trap) later h =
    let p = and_parts (is_real_number (number n base)) _ h in
    let q = and_parts (is_met (Index (number n index))) (all_met later) p.1 in
    (rw (real_number n.settled n.enc base p.0, real_index n.settled n.enc index q.0) refl, q.1)
amode_met n (RipRelative target) later h = (refl, h)

place_met : {M : Type 0} (n : Numbering M) (operand : PlaceOperand M) (later : List Visited) → all_met (place_visits n operand later) ≡ true → Both (place_is_real n.settled n.enc operand) later
place_met n place.NoPlace later h = (refl, h)
place_met n (place.Register number) later h = and_parts (is_real_number number) (all_met later) h
place_met n (place.Memory amode) later h = amode_met n amode later h

abbrev Seen : {M : Type 0} → Numbering M → List (Role M) → Type 0
Seen n roles = (all_real (numbers_in roles) ≡ true) × (place_is_real n.settled n.enc (place_in roles) ≡ true)

seen : {M : Type 0} (n : Numbering M) (roles : List (Role M)) → AreSound roles → all_met (visits_of n roles) ≡ true → Seen n roles
seen n [] sound h = (refl, refl)
seen n (Register number ∷ later) sound h =
    let p = and_parts (is_real_number number) (all_met (visits_of n later)) h in
    let s = seen n later sound.1 p.1 in
    (rw (p.0, s.0) refl, s.1)
seen n (TwoRegisters high low true ∷ later) sound h =
    let p = and_parts (is_real_number high) (all_met (visits_of n later)) h in
    let low_is : is_real_number low ≡ true = rw (sound.0 refl) at p.0 in
    let s = seen n later sound.1 p.1 in
    (rw (p.0, low_is, s.0) refl, s.1)
seen n (TwoRegisters high low false ∷ later) sound h =
    let p = and_parts (is_real_number high) _ h in
    let q = and_parts (is_real_number low) (all_met (visits_of n later)) p.1 in
    let s = seen n later sound.1 q.1 in
    (rw (p.0, q.0, s.0) refl, s.1)
seen n (FixedRegister fixed ∷ later) sound h = seen n later sound.1 (and_parts (is_met (Fixed fixed)) (all_met (visits_of n later)) h).1
seen n (Place operand ∷ later) sound h =
    let p = place_met n operand (visits_of n later) h in
    ((seen n later sound.1 p.1).0, p.0)
seen n (Immediate imm ∷ later) sound h = seen n later sound.1 h

both_real : (numbers : List Number) → all_real numbers ≡ true → (is_absent_or_real (first numbers) ≡ true) × (is_absent_or_real (second numbers) ≡ true)
both_real [] h = (refl, refl)
both_real (a ∷ []) h = ((and_parts (is_real_number a) true h).0, refl)
both_real (a ∷ b ∷ later) h =
    let p = and_parts (is_real_number a) _ h in
    (p.0, (and_parts (is_real_number b) (all_real later) p.1).0)

-- the form holds real registers
pub direct_is_real : {M : Type 0} (n : Numbering M) (roles : List (Role M)) → AreSound roles → all_met (visits_of n roles) ≡ true → form_is_real n.settled n.enc (direct roles) ≡ true
direct_is_real n roles sound h =
    let s = seen n roles sound h in
    let b = both_real (numbers_in roles) s.0 in
    rw (b.0, b.1, s.1) refl
