use Rattle.std.proofs.Common.{◌≡◌, ℕ, Bool, true, false, refl, ◌∙◌, ap, sym, Option, Some, None, Result, List, [], ◌∷◌, ℤ}
use Rattle.std.specs.Prelude.{◌&&◌, ◌||◌, ◌==◌, not, nat_lt, is_none, is_some, IsSome, IsTrue}
use Rattle.std.proofs.lemmas.Bool.{and_parts}
use Rattle.cax64_address.specs.Offset.{sum_fits}
use Rattle.cax64_address.specs.declared.amode.Amode.{Amode}
use Rattle.cax64_address.specs.declared.amode.Amode.TheVariants.{ImmReg, ImmRegRegShift, RipRelative}
use Rattle.cax64_machine_code.specs.declared.row.Row.{Row}
use Rattle.cax64_operand.specs.Family.{Family, Numbering}
use Rattle.cax64_operand.specs.Fold.{fold}
use Rattle.cax64_operand.specs.OperandList.{list_of}
use Rattle.cax64_operand.specs.Signature.{HasSignature}
use Rattle.cax64_operand.specs.declared.operand.Operand.{Operand}
use Rattle.cax64_operand.specs.declared.operand.Operands.{Operands}
use Rattle.cax64_operand.specs.declared.operand.Operands.TheVariants as operands
use Rattle.cax64_sink.specs.Sink.{State}
use Rattle.cax64_sink.specs.declared.SinkError.{SinkError}
use Rattle.cax64_encoder.specs.Checked.{checked_roles, with_checked}
use Rattle.cax64_encoder.specs.Content.{content_of}
use Rattle.cax64_encoder.specs.Fault.{all_met, fault_of_meant, first_fault, is_encodable, late_offset_fits}
use Rattle.cax64_encoder.specs.Marked.{mark, marked_amode, marked_place, marked_value, place_mark}
use Rattle.cax64_encoder.specs.Meant.{meant_of, place_in}
use Rattle.cax64_encoder.specs.Number.{is_index_number, is_number, is_real_number, number_value}
use Rattle.cax64_encoder.specs.Numbered as numbered
use Rattle.cax64_encoder.specs.Numbered.{numbered_amode}
use Rattle.cax64_encoder.specs.Place.{memory_in}
use Rattle.cax64_encoder.specs.Role.{number, roles_of}
use Rattle.cax64_encoder.specs.Task.{Answered, Asked, Kept}
use Rattle.cax64_encoder.specs.Tested.{can_be_put, index_met, late_fits, none_tested, nop_tested, tested_roles, with_role, with_tested}
use Rattle.cax64_encoder.specs.Visits.{visits_of}
use Rattle.cax64_encoder.specs.declared.checked.Checked.{Checked}
use Rattle.cax64_encoder.specs.declared.fault.Fault.{Fault}
use Rattle.cax64_encoder.specs.declared.number.Number.{Number}
use Rattle.cax64_encoder.specs.declared.number.Number.TheVariants.{Settled, Unsettled}
use Rattle.cax64_encoder.specs.declared.numbered.NumberedForm.{NumberedForm}
use Rattle.cax64_encoder.specs.declared.numbered.NumberedPlace.{NumberedPlace}
use Rattle.cax64_encoder.specs.declared.role.PlaceOperand as place
use Rattle.cax64_encoder.specs.declared.role.PlaceOperand.{PlaceOperand}
use Rattle.cax64_encoder.specs.declared.role.Role.{Role}
use Rattle.cax64_encoder.specs.declared.role.Role.TheVariants as role
use Rattle.cax64_encoder.specs.declared.tested.Tested.{Tested}
use Rattle.cax64_encoder.proofs.Checks.{met_is}
use Rattle.cax64_encoder.proofs.Encodable.{content_is}
use Rattle.cax64_encoder.proofs.Faults.{fault_same, no_fault}
use Rattle.cax64_encoder.proofs.Instructions.{Put, put_of}
use Rattle.cax64_encoder.proofs.Numbers.{with_numbers}

-- Operands that are tested by the numbers of which their code is made.

marked_real : (number : Number) → nat_lt (marked_value number) 16 ≡ is_real_number number
marked_real (Settled number) = refl
marked_real Unsettled = refl

marked_is : (number : Number) → nat_lt (marked_value number) 16 ≡ true → marked_value number ≡ number_value number
marked_is (Settled number) h = refl
marked_is Unsettled h = cc

index_real : (number : Number) → (nat_lt (marked_value number) 16 && (false || nat_lt (mark (marked_value number == 4)) 16)) ≡ is_index_number number
index_real (Settled number) = by_test (number == 4)
  where
    by_test : (four : Bool) → (nat_lt number 16 && (false || nat_lt (mark four) 16)) ≡ (nat_lt number 16 && not four)
    by_test true = refl
    by_test false = refl
index_real Unsettled = refl

and_true : (b : Bool) → (b && true) ≡ b
and_true true = refl
and_true false = refl

-- conjunctions in another order
two : (a m i : Bool) → ((a && m) && i) ≡ (a && (m && i))
two true m i = refl
two false m i = refl

first : (a i m : Bool) → (((a && i) && m) && true) ≡ (a && (m && i))
first true true true = refl
first true true false = refl
first true false true = refl
first true false false = refl
first false i m = refl

last : (b i x m k : Bool) → ((((b && i) && x) && m) && k) ≡ ((b && (i && k)) && (m && x))
last true true true true k = and_sym k
  where
    and_sym : (k : Bool) → k ≡ (k && true)
    and_sym true = refl
    and_sym false = refl
last true true true false true = refl
last true true true false false = refl
last true true false true true = refl
last true true false true false = refl
last true true false false true = refl
last true true false false false = refl
last true false x m k = refl
last false i x m k = refl

-- what is marked of a late offset is none of an index
late_marked : (is : Bool) → (is || nat_lt (mark is) 16) ≡ true
late_marked true = refl
late_marked false = refl

-- all registers are as they have to be
abbrev all_met_of : Tested → Bool
all_met_of tested = tested.met && index_met tested

-- one more operand before others that are tested as they are by themselves
met_with : {M : Type 0} (n : Numbering M) (r : Role M) (tested : Tested) (later : Checked) → all_met_of tested ≡ later.met → all_met_of (with_role n r tested) ≡ (with_checked n r later).met
met_with n (role.Register number) tested later same = two (nat_lt (marked_value number) 16) tested.met (index_met tested) ∙ rw (marked_real number, same) refl
met_with n (role.TwoRegisters first second equal) tested later same =
    two (nat_lt (marked_value first) 16 && (equal || nat_lt (marked_value second) 16)) tested.met (index_met tested) ∙ rw (marked_real first, marked_real second, same) refl
met_with n (role.FixedRegister fixed) tested later same = two (is_number fixed.held fixed.expected) tested.met (index_met tested) ∙ rw same refl
met_with n (role.Place place.TheVariants.NoPlace) tested later same = first true (index_met tested) tested.met ∙ same
met_with n (role.Place (place.TheVariants.Register number)) tested later same =
    ap (λ (b : Bool). ((b && index_met tested) && tested.met) && true) (and_true (nat_lt (marked_value number) 16))
    ∙ first (nat_lt (marked_value number) 16) (index_met tested) tested.met
    ∙ rw (marked_real number, same) refl
met_with n (role.Place (place.TheVariants.Memory (ImmReg base simm32 trap))) tested later same =
    let real = nat_lt (marked_value (number n base)) 16 in
    ap (λ (b : Bool). ((b && index_met tested) && tested.met) && (is_some simm32.offset || nat_lt (mark (is_some simm32.offset)) 16)) (and_true real)
    ∙ ap (λ (b : Bool). ((real && index_met tested) && tested.met) && b) (late_marked (is_some simm32.offset))
    ∙ first real (index_met tested) tested.met
    ∙ rw (marked_real (number n base), same) refl
met_with n (role.Place (place.TheVariants.Memory (ImmRegRegShift base index scale simm32 trap))) tested later same =
    last (nat_lt (marked_value (number n base)) 16) (nat_lt (marked_value (number n index)) 16) (index_met tested) tested.met (false || nat_lt (mark (marked_value (number n index) == 4)) 16)
    ∙ rw (marked_real (number n base), index_real (number n index), same) refl
met_with n (role.Place (place.TheVariants.Memory (RipRelative target))) tested later same = first true (index_met tested) tested.met ∙ same
met_with n (role.Immediate imm) tested later same = two true tested.met (index_met tested) ∙ same

met_same : {M : Type 0} (n : Numbering M) (roles : List (Role M)) → all_met_of (tested_roles n roles) ≡ (checked_roles n roles).met
met_same n [] = refl
met_same n (r ∷ later) = met_with n r (tested_roles n later) (checked_roles n later) (met_same n later)

-- where they are, the base is below 16
base_met : {M : Type 0} (n : Numbering M) (roles : List (Role M)) → (tested_roles n roles).met ≡ true → nat_lt (tested_roles n roles).content.form.place.base 16 ≡ true
base_met n [] h = refl
base_met n (role.Register number ∷ later) h = base_met n later (and_parts (nat_lt (marked_value number) 16) (tested_roles n later).met h).1
base_met n (role.TwoRegisters first second equal ∷ later) h =
    base_met n later (and_parts (nat_lt (marked_value first) 16 && (equal || nat_lt (marked_value second) 16)) (tested_roles n later).met h).1
base_met n (role.FixedRegister fixed ∷ later) h = base_met n later (and_parts (is_number fixed.held fixed.expected) (tested_roles n later).met h).1
base_met n (role.Place operand ∷ later) h =
    let marked = marked_place n operand in
    let tested = tested_roles n later in
    let p = and_parts ((nat_lt marked.base 16 && nat_lt marked.index 16) && index_met tested) tested.met h in
    let q = and_parts (nat_lt marked.base 16 && nat_lt marked.index 16) (index_met tested) p.0 in
    (and_parts (nat_lt marked.base 16) (nat_lt marked.index 16) q.0).0
base_met n (role.Immediate imm ∷ later) h = base_met n later (and_parts true (tested_roles n later).met h).1

-- the place is that of the first operand that is one
place_is : {M : Type 0} (n : Numbering M) (roles : List (Role M)) → (tested_roles n roles).content.form.place ≡ marked_place n (place_in roles)
place_is n [] = refl
place_is n (role.Register number ∷ later) = place_is n later
place_is n (role.TwoRegisters first second same ∷ later) = place_is n later
place_is n (role.FixedRegister fixed ∷ later) = place_is n later
place_is n (role.Place operand ∷ later) = refl
place_is n (role.Immediate imm ∷ later) = place_is n later

mark_is : {M : Type 0} (n : Numbering M) (roles : List (Role M)) → (tested_roles n roles).mark ≡ place_mark n (place_in roles)
mark_is n [] = refl
mark_is n (role.Register number ∷ later) = mark_is n later
mark_is n (role.TwoRegisters first second same ∷ later) = mark_is n later
mark_is n (role.FixedRegister fixed ∷ later) = mark_is n later
mark_is n (role.Place operand ∷ later) = refl
mark_is n (role.Immediate imm ∷ later) = mark_is n later

late_same : {M : Type 0} (n : Numbering M) (offsets : ℕ → Option ℤ) (p : PlaceOperand M) → sum_fits offsets (marked_place n p).displacement.offset (marked_place n p).displacement.simm32 ≡ late_offset_fits offsets (memory_in p)
late_same n offsets place.TheVariants.NoPlace = refl
late_same n offsets (place.TheVariants.Register number) = refl
late_same n offsets (place.TheVariants.Memory (ImmReg base simm32 trap)) = refl
late_same n offsets (place.TheVariants.Memory (ImmRegRegShift base index scale simm32 trap)) = refl
late_same n offsets (place.TheVariants.Memory (RipRelative target)) = refl

-- what is marked is a late offset that fits, or nothing
abbrev passes : (ℕ → Option ℤ) → NumberedPlace → ℕ → Bool
passes offsets place mark = late_fits offsets place.displacement || nat_lt mark 16

-- an index isn't the stack pointer's, and a late offset fits
abbrev passes_by_parts : (ℕ → Option ℤ) → NumberedPlace → ℕ → Bool
passes_by_parts offsets place mark = (is_some place.displacement.offset || nat_lt mark 16) && sum_fits offsets place.displacement.offset place.displacement.simm32

passed_same : {M : Type 0} (n : Numbering M) (offsets : ℕ → Option ℤ) (p : PlaceOperand M) → passes offsets (marked_place n p) (place_mark n p) ≡ passes_by_parts offsets (marked_place n p) (place_mark n p)
passed_same n offsets place.TheVariants.NoPlace = refl
passed_same n offsets (place.TheVariants.Register number) = refl
passed_same n offsets (place.TheVariants.Memory (ImmReg base simm32 trap)) = by_offset simm32.offset
  where
    or_false : (b : Bool) → (b || false) ≡ b
    or_false true = refl
    or_false false = refl

    by_offset : (o : Option ℕ) → ((is_some o && sum_fits offsets o simm32.simm32) || nat_lt (mark (is_some o)) 16) ≡ ((is_some o || nat_lt (mark (is_some o)) 16) && sum_fits offsets o simm32.simm32)
    by_offset None = refl
    by_offset (Some key) = or_false (sum_fits offsets (Some key) simm32.simm32)
passed_same n offsets (place.TheVariants.Memory (ImmRegRegShift base index scale simm32 trap)) = sym (and_true (false || nat_lt (mark (marked_value (number n index) == 4)) 16))
passed_same n offsets (place.TheVariants.Memory (RipRelative target)) = refl

-- what is tested is what is asked of the registers and of the late offset
tested_is : {M : Type 0} (n : Numbering M) (roles : List (Role M)) (offsets : ℕ → Option ℤ) → can_be_put offsets (tested_roles n roles) ≡ ((checked_roles n roles).met && late_offset_fits offsets (memory_in (place_in roles)))
tested_is n roles offsets =
    let tested = tested_roles n roles in
    let place = tested.content.form.place in
    with_base tested.met (nat_lt place.base 16) (passes offsets place tested.mark) (base_met n roles)
    ∙ ap (λ (b : Bool). tested.met && b) same
    ∙ sym (two tested.met (index_met tested) (sum_fits offsets place.displacement.offset place.displacement.simm32))
    ∙ ap (λ (met : Bool). met && sum_fits offsets place.displacement.offset place.displacement.simm32) (met_same n roles)
    ∙ ap (λ (late : Bool). (checked_roles n roles).met && late) (ap (λ (p : NumberedPlace). sum_fits offsets p.displacement.offset p.displacement.simm32) (place_is n roles) ∙ late_same n offsets (place_in roles))
  where
    with_base : (m b x : Bool) → (m ≡ true → b ≡ true) → (m && (b && x)) ≡ (m && x)
    with_base true b x h = rw (h refl) refl
    with_base false b x h = refl

    same : passes offsets (tested_roles n roles).content.form.place (tested_roles n roles).mark ≡ passes_by_parts offsets (tested_roles n roles).content.form.place (tested_roles n roles).mark
    same = rw (place_is n roles, mark_is n roles) (passed_same n offsets (place_in roles))

-- Where all is as it has to be, the marked numbers are the numbers.

amode_is : {M : Type 0} (n : Numbering M) (amode : Amode M) → nat_lt (marked_amode n amode).base 16 ≡ true → nat_lt (marked_amode n amode).index 16 ≡ true → marked_amode n amode ≡ numbered_amode n amode
amode_is n (ImmReg base simm32 trap) h k = rw (marked_is (number n base) h) refl
amode_is n (ImmRegRegShift base index scale simm32 trap) h k = rw (marked_is (number n base) h, marked_is (number n index) k) refl
amode_is n (RipRelative target) h k = refl

form_same : {M : Type 0} (n : Numbering M) (r : Role M) (tested : Tested) (form : NumberedForm) → (tested.met ≡ true → tested.content.form ≡ form) → (with_role n r tested).met ≡ true → (with_role n r tested).content.form ≡ numbered.with_role n r form
form_same n (role.Register number) tested form same h =
    let p = and_parts (nat_lt (marked_value number) 16) tested.met h in
    rw (marked_is number p.0, same p.1) refl
form_same n (role.TwoRegisters first second equal) tested form same h =
    let other = equal || nat_lt (marked_value second) 16 in
    let p = and_parts (nat_lt (marked_value first) 16 && other) tested.met h in
    let q = and_parts (nat_lt (marked_value first) 16) other p.0 in
    rw (marked_is first q.0, same p.1) refl
form_same n (role.FixedRegister fixed) tested form same h = same (and_parts (is_number fixed.held fixed.expected) tested.met h).1
form_same n (role.Place place.TheVariants.NoPlace) tested form same h = rw (same (and_parts (index_met tested) tested.met h).1) refl
form_same n (role.Place (place.TheVariants.Register number)) tested form same h =
    let p = and_parts ((nat_lt (marked_value number) 16 && true) && index_met tested) tested.met h in
    let q = and_parts (nat_lt (marked_value number) 16 && true) (index_met tested) p.0 in
    let r = and_parts (nat_lt (marked_value number) 16) true q.0 in
    rw (marked_is number r.0, same p.1) refl
form_same n (role.Place (place.TheVariants.Memory amode)) tested form same h =
    let marked = marked_amode n amode in
    let p = and_parts ((nat_lt marked.base 16 && nat_lt marked.index 16) && index_met tested) tested.met h in
    let q = and_parts (nat_lt marked.base 16 && nat_lt marked.index 16) (index_met tested) p.0 in
    let r = and_parts (nat_lt marked.base 16) (nat_lt marked.index 16) q.0 in
    rw (amode_is n amode r.0 r.1, same p.1) refl
form_same n (role.Immediate imm) tested form same h = rw (same h) refl

form_is : {M : Type 0} (n : Numbering M) (roles : List (Role M)) → (tested_roles n roles).met ≡ true → (tested_roles n roles).content.form ≡ with_numbers n roles
form_is n [] h = refl
form_is n (r ∷ later) h = form_same n r (tested_roles n later) (with_numbers n later) (form_is n later) h

no_nop : {M : Type 0} (n : Numbering M) (roles : List (Role M)) → (tested_roles n roles).content.nop ≡ None
no_nop n [] = refl
no_nop n (r ∷ later) = no_nop n later

-- The same of operands.

abbrev tested_of : {R A B C D E F : Type 0} → Family A B C D E F → Operands R A B C D E F → Tested
tested_of f o = fold none_tested (with_tested f) nop_tested o

-- the test is the condition of encoding
pub test_is : {R A B C D E F : Type 0} (f : Family A B C D E F) (row : Row) (o : Operands R A B C D E F) (offsets : ℕ → Option ℤ) → can_be_put offsets (fold none_tested (with_tested f) nop_tested o) ≡ is_encodable offsets (meant_of f row o offsets)
test_is {R = R} {A = A} {B = B} {C = C} {D = D} {E = E} {F = F} f row o offsets = by_number o
  where
    listed : (list : List (Operand R A B C D E F)) → can_be_put offsets (tested_roles f.read_gpr (roles_of f list)) ≡ (all_met (visits_of f.read_gpr (roles_of f list)) && late_offset_fits offsets (memory_in (place_in (roles_of f list))))
    listed list =
        let roles = roles_of f list in
        tested_is f.read_gpr roles offsets ∙ ap (λ (met : Bool). met && late_offset_fits offsets (memory_in (place_in roles))) (met_is f.read_gpr roles)

    by_number : (o : Operands R A B C D E F) → can_be_put offsets (fold none_tested (with_tested f) nop_tested o) ≡ is_encodable offsets (meant_of f row o offsets)
    by_number operands.Zero = listed (list_of operands.Zero)
    by_number (operands.One a) = listed (list_of (operands.One a))
    by_number (operands.Two a b) = listed (list_of (operands.Two a b))
    by_number (operands.Three a b c) = listed (list_of (operands.Three a b c))
    by_number (operands.Four a b c d) = listed (list_of (operands.Four a b c d))
    by_number (operands.Five a b c d e) = listed (list_of (operands.Five a b c d e))
    by_number (operands.Nop nop) = refl

-- what is made of operands that pass it is what is kept of them
tested_content : {R A B C D E F : Type 0} (f : Family A B C D E F) (o : Operands R A B C D E F) → (fold none_tested (with_tested f) nop_tested o).met ≡ true → (fold none_tested (with_tested f) nop_tested o).content ≡ content_of f o
tested_content {R = R} {A = A} {B = B} {C = C} {D = D} {E = E} {F = F} f o h = by_number o h
  where
    listed : (list : List (Operand R A B C D E F)) → (tested_roles f.read_gpr (roles_of f list)).met ≡ true → (tested_roles f.read_gpr (roles_of f list)).content ≡ record { nop = None; form = with_numbers f.read_gpr (roles_of f list) }
    listed list h = rw (sym (form_is f.read_gpr (roles_of f list) h), sym (no_nop f.read_gpr (roles_of f list))) refl

    by_number : (o : Operands R A B C D E F) → (fold none_tested (with_tested f) nop_tested o).met ≡ true → (fold none_tested (with_tested f) nop_tested o).content ≡ content_of f o
    by_number operands.Zero h = refl
    by_number (operands.One a) h = listed (list_of (operands.One a)) h ∙ content_is f (operands.One a)
    by_number (operands.Two a b) h = listed (list_of (operands.Two a b)) h ∙ content_is f (operands.Two a b)
    by_number (operands.Three a b c) h = listed (list_of (operands.Three a b c)) h ∙ content_is f (operands.Three a b c)
    by_number (operands.Four a b c d) h = listed (list_of (operands.Four a b c d)) h ∙ content_is f (operands.Four a b c d)
    by_number (operands.Five a b c d e) h = listed (list_of (operands.Five a b c d e)) h ∙ content_is f (operands.Five a b c d e)
    by_number (operands.Nop nop) h = refl

-- what was kept of operands that passed it
tested_kept : {R A B C D E F : Type 0} (f : Family A B C D E F) (row : Row) (o : Operands R A B C D E F) (offsets : ℕ → Option ℤ) → HasSignature row o → IsTrue (can_be_put offsets (fold none_tested (with_tested f) nop_tested o)) → Kept f offsets row o (fold none_tested (with_tested f) nop_tested o).content
tested_kept f row o offsets signature can =
    let tested = tested_of f o in
    record {
      kept = tested_content f o (and_parts tested.met (nat_lt tested.content.form.place.base 16 && passes offsets tested.content.form.place tested.mark) can).0;
      signature = signature;
      can = sym (test_is f row o offsets) ∙ can;
    }

pub tested_asked : {R A B C D E F : Type 0} (f : Family A B C D E F) (row : Row) (o : Operands R A B C D E F) (offsets : ℕ → Option ℤ) → HasSignature row o → IsTrue (can_be_put offsets (fold none_tested (with_tested f) nop_tested o)) → Asked R f offsets row (fold none_tested (with_tested f) nop_tested o).content
tested_asked f row o offsets signature can = (o, tested_kept f row o offsets signature can)

-- what has a fault where it can't be encoded
pub has_fault : {R A B C D E F : Type 0} (f : Family A B C D E F) (row : Row) (o : Operands R A B C D E F) (offsets : ℕ → Option ℤ) (r : Option Fault) → r ≡ first_fault offsets (visits_of f.read_gpr (roles_of f (list_of o))) (memory_in (place_in (roles_of f (list_of o)))) → can_be_put offsets (fold none_tested (with_tested f) nop_tested o) ≡ false → IsSome r
has_fault f row o offsets r h can =
    let m = meant_of f row o offsets in
    some_of r (ap is_none (h ∙ fault_same f row o offsets) ∙ no_fault offsets m.visited m.memory ∙ sym (test_is f row o offsets) ∙ can)
  where
    some_of : {A : Type 0} (a : Option A) → is_none a ≡ false → IsSome a
    some_of None h = cc
    some_of (Some a) h = refl

pub can_none : {R A B C D E F : Type 0} (f : Family A B C D E F) (row : Row) (o : Operands R A B C D E F) (offsets : ℕ → Option ℤ) → IsTrue (can_be_put offsets (fold none_tested (with_tested f) nop_tested o)) → None ≡ fault_of_meant offsets (meant_of f row o offsets)
can_none f row o offsets can =
    let m = meant_of f row o offsets in
    none_of (fault_of_meant offsets m) (no_fault offsets m.visited m.memory ∙ sym (test_is f row o offsets) ∙ can)
  where
    none_of : {A : Type 0} (a : Option A) → is_none a ≡ true → None ≡ a
    none_of None h = refl
    none_of (Some a) h = cc

-- all that a call says of operands that passed the test
pub tested_put : {R A B C D E F : Type 0} (f : Family A B C D E F) (row : Row) (o : Operands R A B C D E F) (s t : State) (r : Result (Unit {0}) SinkError) → HasSignature row o → IsTrue (can_be_put s.offsets (fold none_tested (with_tested f) nop_tested o)) → Answered R f row (fold none_tested (with_tested f) nop_tested o).content s t r → Put (meant_of f row o s.offsets) s t r
tested_put f row o s t r signature can answered =
    put_of (meant_of f row o s.offsets) s t r (answered o (tested_kept f row o s.offsets signature can))
