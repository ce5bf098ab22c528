use Rattle.std.proofs.Common.{◌≡◌, ℕ, ◌+◌, Bool, true, false, refl, ◌∙◌, sym, Option, Some, None, List, [], ◌∷◌, ℤ}
use Rattle.std.specs.Prelude.{◌&&◌, if◌then◌else◌, ◌↔◌, IsTrue, is_none, ◌+ℤ◌}
use Rattle.cax64_address.specs.Offset.{fits_i32, sum_fits, late_fits}
use Rattle.cax64_address.specs.declared.amode.Amode.{Amode}
use Rattle.cax64_address.specs.declared.amode.Amode.TheVariants.{ImmReg, ImmRegRegShift, RipRelative}
use Rattle.cax64_operand.specs.Family.{Family}
use Rattle.cax64_operand.specs.OperandList.{list_of}
use Rattle.cax64_operand.specs.declared.operand.Operands.{Operands}
use Rattle.cax64_operand.specs.declared.operand.Operands.TheVariants as operands
use Rattle.cax64_machine_code.specs.declared.row.Row.{Row}
use Rattle.cax64_encoder.specs.Fault.{is_met, all_met, fault_of, first_unmet, known_fault, sum_fault, late_fault, late_offset_fits, or_later, first_fault, can_encode, fault_of_meant}
use Rattle.cax64_encoder.specs.Meant.{meant_of, place_in}
use Rattle.cax64_encoder.specs.Notices.{notice_count, memory_notices}
use Rattle.cax64_encoder.specs.Place.{memory_in}
use Rattle.cax64_encoder.specs.Role.{roles_of}
use Rattle.cax64_encoder.specs.Visits.{visits_of}
use Rattle.cax64_encoder.specs.declared.fault.Fault.{Fault}
use Rattle.cax64_encoder.specs.declared.fault.Fault.TheVariants.{Range}
use Rattle.cax64_encoder.specs.declared.fault.Visited.{Visited}

-- There is no fault exactly where the instruction can be encoded.

unmet_is : (at : ℕ) (visited : List Visited) → is_none (first_unmet at visited) ≡ all_met visited
unmet_is at [] = refl
unmet_is at (v ∷ later) = by_test (is_met v) (unmet_is (at + 1) later)
  where
    by_test : (met : Bool) → is_none (first_unmet (at + 1) later) ≡ all_met later → is_none (if met then first_unmet (at + 1) later else Some (fault_of at v)) ≡ (met && all_met later)
    by_test true e = e
    by_test false e = refl

known_is : (key : ℕ) (known : Option ℤ) (simm32 : ℤ) → is_none (known_fault key known simm32) ≡ late_fits known simm32
known_is key None simm32 = refl
known_is key (Some known) simm32 = by_test (fits_i32 (known +ℤ simm32))
  where
    by_test : (fits : Bool) → is_none (if fits then None else Some Range) ≡ fits
    by_test true = refl
    by_test false = refl

sum_is : (offsets : ℕ → Option ℤ) (offset : Option ℕ) (simm32 : ℤ) → is_none (sum_fault offsets offset simm32) ≡ sum_fits offsets offset simm32
sum_is offsets None simm32 = refl
sum_is offsets (Some key) simm32 = known_is key (offsets key) simm32

late_is : {M : Type 0} (offsets : ℕ → Option ℤ) (memory : Option (Amode M)) → is_none (late_fault offsets memory) ≡ late_offset_fits offsets memory
late_is offsets None = refl
late_is offsets (Some (ImmReg base simm32 trap)) = sum_is offsets simm32.offset simm32.simm32
late_is offsets (Some (ImmRegRegShift base index scale simm32 trap)) = refl
late_is offsets (Some (RipRelative target)) = refl

or_later_is : (fault later : Option Fault) → is_none (or_later fault later) ≡ (is_none fault && is_none later)
or_later_is None later = refl
or_later_is (Some fault) later = refl

pub no_fault : {M : Type 0} (offsets : ℕ → Option ℤ) (visited : List Visited) (memory : Option (Amode M)) → is_none (first_fault offsets visited memory) ≡ can_encode offsets visited memory
no_fault offsets visited memory = or_later_is (first_unmet 0 visited) (late_fault offsets memory) ∙ rw (unmet_is 0 visited, late_is offsets memory) refl

pub none_is : {A : Type 0} (fault : Option A) (b : Bool) → is_none fault ≡ b → (fault ≡ None) ↔ IsTrue b
none_is None b e = (λ h. sym e, λ h. refl)
none_is (Some a) b e = (λ h. cc, λ h. some_none a b e h)
  where
    some_none : {A : Type 0} (a : A) (b : Bool) → is_none (Some a) ≡ b → b ≡ true → Some a ≡ None
    some_none a true e h = cc
    some_none a false e h = cc

-- A no-operation has neither registers nor memory, and so no operands of a list.

pub fault_same : {R A B C D E F : Type 0} (f : Family A B C D E F) (row : Row) (o : Operands R A B C D E F) (offsets : ℕ → Option ℤ) → first_fault offsets (visits_of f.read_gpr (roles_of f (list_of o))) (memory_in (place_in (roles_of f (list_of o)))) ≡ fault_of_meant offsets (meant_of f row o offsets)
fault_same f row operands.Zero offsets = refl
fault_same f row (operands.One a) offsets = refl
fault_same f row (operands.Two a b) offsets = refl
fault_same f row (operands.Three a b c) offsets = refl
fault_same f row (operands.Four a b c d) offsets = refl
fault_same f row (operands.Five a b c d e) offsets = refl
fault_same f row (operands.Nop nop) offsets = refl

pub notices_same : {R A B C D E F : Type 0} (f : Family A B C D E F) (row : Row) (o : Operands R A B C D E F) (offsets : ℕ → Option ℤ) → memory_notices (memory_in (place_in (roles_of f (list_of o)))) ≡ notice_count (meant_of f row o offsets)
notices_same f row operands.Zero offsets = refl
notices_same f row (operands.One a) offsets = refl
notices_same f row (operands.Two a b) offsets = refl
notices_same f row (operands.Three a b c) offsets = refl
notices_same f row (operands.Four a b c d) offsets = refl
notices_same f row (operands.Five a b c d e) offsets = refl
notices_same f row (operands.Nop nop) offsets = refl

pub row_same : {R A B C D E F : Type 0} (f : Family A B C D E F) (row : Row) (o : Operands R A B C D E F) (offsets : ℕ → Option ℤ) → row ≡ (meant_of f row o offsets).parts.row
row_same f row operands.Zero offsets = refl
row_same f row (operands.One a) offsets = refl
row_same f row (operands.Two a b) offsets = refl
row_same f row (operands.Three a b c) offsets = refl
row_same f row (operands.Four a b c d) offsets = refl
row_same f row (operands.Five a b c d e) offsets = refl
row_same f row (operands.Nop nop) offsets = refl
