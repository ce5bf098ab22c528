use Rattle.std.proofs.Common.{◌≡◌, ℕ, ◌/◌, ◌%◌, ◌^◌, ◌<◌, ◌≤ℤ◌, arith, Bool, true, false, refl, ◌∙◌, ap, sym, subst, Option, Some, None, List, [], ◌∷◌, ℤ, pos, negsuc, w8, w16, w32, FitsSigned}
use Rattle.std.specs.Int.{cast_unsigned, to_le_bytes}
use Rattle.std.specs.Prelude.{◌-ℤ◌, ◌==◌, ◌||◌, not, nat_lt, nat_le, option_map}
use Rattle.std.proofs.lemmas.Bool.{and_parts}
use Rattle.std.proofs.lemmas.Bool.Decides.{nat_tests}
use Rattle.std.proofs.lemmas.Int.{ints, to_z-of_z}
use Rattle.cax64_address.specs.Emitted.{TailOf}
use Rattle.cax64_address.specs.Memory.{index_named}
use Rattle.cax64_address.specs.Offset.{sum_fits, sum_of}
use Rattle.cax64_address.specs.declared.amode.Amode.TheVariants.{ImmReg, ImmRegRegShift, RipRelative}
use Rattle.cax64_machine_code.specs.Len.{len_of}
use Rattle.cax64_machine_code.specs.Line.{imm_bytes}
use Rattle.cax64_machine_code.specs.declared.line.ImmField.{ImmField}
use Rattle.cax64_machine_code.specs.declared.line.ImmField.TheVariants.{NoImm, Imm, Simm}
use Rattle.cax64_machine_code.specs.declared.line.Line.{Line}
use Rattle.cax64_machine_code.specs.declared.line.PlaceField.{PlaceField}
use Rattle.cax64_machine_code.specs.declared.line.PlaceField.TheVariants.{Memory, RegisterOrMemory, Register8OrMemory}
use Rattle.cax64_machine_code.specs.declared.line.PrefixField.{PrefixField}
use Rattle.cax64_machine_code.specs.declared.line.PrefixField.TheVariants.{LegacyField, VexField}
use Rattle.cax64_machine_code.specs.declared.line.RegField.{RegField}
use Rattle.cax64_machine_code.specs.declared.line.RegField.TheVariants.{Digit, Register8, Register}
use Rattle.cax64_machine_code.specs.declared.line.TailField.{TailField}
use Rattle.cax64_machine_code.specs.declared.line.TailField.TheVariants.{NoTail, Modrm}
use Rattle.cax64_machine_code.specs.declared.line.VvvvField.TheVariants.{VvvvRegister, Stored1111}
use Rattle.cax64_machine_code.specs.declared.reading.Place.TheVariants.{Mem}
use Rattle.cax64_machine_code.specs.declared.reading.Reading.{Reading}
use Rattle.cax64_machine_code.specs.declared.row.Row.{Row}
use Rattle.cax64_operand.specs.Family.{Numbering}
use Rattle.cax64_operand.specs.Immediate.{imm_size, imm_in_range, signed_below}
use Rattle.cax64_operand.specs.Shape.{imm_fits, imm_has_size, is_no_imm}
use Rattle.cax64_operand.specs.declared.immediate.ImmOperand.{ImmOperand}
use Rattle.cax64_operand.specs.declared.immediate.ImmOperand.TheVariants.{Imm8, Imm16, Imm32, Simm8, Simm32}
use Rattle.cax64_prefix.specs.Rex.{is_special_if_8bit}
use Rattle.cax64_register.specs.Real.{is_real, is_real_non_rsp}
use Rattle.cax64_sink.specs.Call.{Action, put}
use Rattle.cax64_sink.specs.Rest.{word_actions}
use Rattle.cax64_encoder.specs.Encodes.{EncodesParts, TailPartOf, form_parts}
use Rattle.cax64_encoder.specs.Form.{Form, with_roles, is_absent, is_no_place, reg_fits, place_fits, tail_fits, vvvv_fits, fits}
use Rattle.cax64_encoder.specs.Form as forms
use Rattle.cax64_encoder.specs.ImmActions.{imm_actions, optional_imm_actions, imm_word, optional_imm_word, imm_named}
use Rattle.cax64_encoder.specs.Instruction.{ShortestFor}
use Rattle.cax64_encoder.specs.Meant.{low}
use Rattle.cax64_encoder.specs.Notices.{memory_notices, notices_of}
use Rattle.cax64_encoder.specs.Number.{number_value}
use Rattle.cax64_encoder.specs.Numbered.{HasImmWord, IsNumbered, numbered_place, numbered_form, no_form, with_role, notice_count, plain, flags_named, place_named, form_named}
use Rattle.cax64_encoder.specs.Numbered as numbered
use Rattle.cax64_encoder.specs.Place.{memory_in, displacement_in, place_read}
use Rattle.cax64_encoder.specs.Prefix.{place_high, place_special}
use Rattle.cax64_encoder.specs.Real.{is_absent_or_real, place_is_real, form_is_real, place_is_addressable, place_x, place_b, trap_in}
use Rattle.cax64_encoder.specs.Role.{number}
use Rattle.cax64_encoder.specs.declared.number.Number.{Number}
use Rattle.cax64_encoder.specs.declared.number.Number.TheVariants.{Settled, Unsettled}
use Rattle.cax64_encoder.specs.declared.numbered.NumberedForm.{NumberedForm}
use Rattle.cax64_encoder.specs.declared.numbered.NumberedPlace.{NumberedPlace}
use Rattle.cax64_encoder.specs.declared.role.PlaceOperand as place
use Rattle.cax64_encoder.specs.declared.role.PlaceOperand.{PlaceOperand}
use Rattle.cax64_encoder.specs.declared.role.Role.{Role}
use Rattle.cax64_encoder.specs.declared.role.Role.TheVariants as role

-- What the numbers of operands stand for is as the operands are.

-- Put together from the last operand to the first.

abbrev pub with_numbers : {M : Type 0} → Numbering M → List (Role M) → NumberedForm
with_numbers n [] = no_form
with_numbers n (r ∷ later) = with_role n r (with_numbers n later)

with_is : {M : Type 0} (n : Numbering M) (r : Role M) (form : Form M) → with_role n r (numbered_form n form) ≡ numbered_form n (forms.with_role r form)
with_is n (role.Register number) form = refl
with_is n (role.TwoRegisters first second same) form = refl
with_is n (role.FixedRegister fixed) form = refl
with_is n (role.Place operand) form = refl
with_is n (role.Immediate imm) form = refl

pub with_all_numbers : {M : Type 0} (n : Numbering M) (roles : List (Role M)) → with_numbers n roles ≡ numbered_form n (with_roles roles)
with_all_numbers n [] = refl
with_all_numbers n (r ∷ later) = ap (with_role n r) (with_all_numbers n later) ∙ with_is n r (with_roles later)

-- The numbers of an operand are those of what they stand for.

is_numbered : {M : Type 0} (n : Numbering M) (operand : PlaceOperand M) → IsNumbered (numbered_place n operand)
is_numbered n place.TheVariants.NoPlace = refl
is_numbered n (place.TheVariants.Register number) = refl
is_numbered n (place.TheVariants.Memory (ImmReg base simm32 trap)) = refl
is_numbered n (place.TheVariants.Memory (ImmRegRegShift base index scale simm32 trap)) = refl
is_numbered n (place.TheVariants.Memory (RipRelative target)) = refl

-- What holds of numbers of operands that are plain numbers.
pub record Numbers (numbers : NumberedPlace) (operand : PlaceOperand ℕ) : Type 0 where
  pub x : numbers.index / 8 ≡ place_x plain.enc operand
  pub b : numbers.base / 8 ≡ place_b plain.enc operand
  pub high : (nat_le 8 numbers.index || nat_le 8 numbers.base) ≡ place_high plain.enc operand
  pub special : is_special_if_8bit numbers.register ≡ place_special operand
  pub trap : numbers.trap ≡ trap_in operand

numbers_of : (operand : PlaceOperand ℕ) → Numbers (numbered_place plain operand) operand
numbers_of place.TheVariants.NoPlace = record { x = refl; b = refl; high = refl; special = refl; trap = refl }
numbers_of (place.TheVariants.Register number) = record { x = refl; b = refl; high = refl; special = refl; trap = refl }
numbers_of (place.TheVariants.Memory (ImmReg base simm32 trap)) = record { x = refl; b = refl; high = refl; special = refl; trap = refl }
numbers_of (place.TheVariants.Memory (ImmRegRegShift base index scale simm32 trap)) = record { x = refl; b = refl; high = refl; special = refl; trap = refl }
numbers_of (place.TheVariants.Memory (RipRelative target)) = record { x = refl; b = refl; high = refl; special = refl; trap = refl }

pub numbers_are : (numbers : NumberedPlace) → IsNumbered numbers → Numbers numbers (place_named numbers)
numbers_are numbers e =
    let P : NumberedPlace → Type 0 = λ p. Numbers p (place_named numbers) in
    subst P (sym e) (numbers_of (place_named numbers))

below : (a b : ℕ) → nat_lt a b ≡ true → a < b
below a b h = grind (arith, nat_tests)

-- the numbers of real operands are below 16
pub numbers_below : (numbers : NumberedPlace) → IsNumbered numbers → numbered.place_is_real numbers ≡ true → (numbers.base < 16) × (numbers.index < 16)
numbers_below numbers e h =
    let P : NumberedPlace → Type 0 = λ p. (p.base < 16) × (p.index < 16) in
    subst P (sym e) (by_place (place_named numbers) h)
  where
    by_place : (operand : PlaceOperand ℕ) → place_is_real plain.settled plain.enc operand ≡ true → ((numbered_place plain operand).base < 16) × ((numbered_place plain operand).index < 16)
    by_place place.TheVariants.NoPlace h = (omega arith, omega arith)
    by_place (place.TheVariants.Register (Settled n)) h = (below n 16 h, omega arith)
    by_place (place.TheVariants.Register Unsettled) h = cc
    by_place (place.TheVariants.Memory (ImmReg base simm32 trap)) h = (below base 16 h, omega arith)
    by_place (place.TheVariants.Memory (ImmRegRegShift base index scale simm32 trap)) h =
        let p = and_parts (nat_lt base 16) _ h in
        let q = and_parts (nat_lt index 16) (not (index == 4)) p.1 in
        (below base 16 p.0, below index 16 q.0)
    by_place (place.TheVariants.Memory (RipRelative target)) h = (omega arith, omega arith)

-- a base alone has no index, and the number of an index is another: number 4 is none

no_index : (numbers : NumberedPlace) → numbers ≡ numbered_place plain (flags_named true None false false numbers) → numbers.index ≡ 4
no_index numbers e = ap (λ (p : NumberedPlace). p.index) e

index_other : (numbers : NumberedPlace) → place_is_real plain.settled plain.enc (flags_named true None false true numbers) ≡ true → (numbers.index == 4) ≡ false
index_other numbers h =
    let p = and_parts (nat_lt numbers.base 16) _ h in
    let q = and_parts (nat_lt numbers.index 16) (not (numbers.index == 4)) p.1 in
    is_not (numbers.index == 4) q.1
  where
    is_not : (b : Bool) → not b ≡ true → b ≡ false
    is_not true h = cc
    is_not false h = refl

-- Numbers that name a register, or an address of a base.
module _ (numbers : NumberedPlace) (e : IsNumbered numbers) (stands : numbers.stands ≡ true) (absent : numbers.relative ≡ None) where
  -- a register is the base too
  pub register_named : numbers.is_register ≡ true → place_named numbers ≡ place.TheVariants.Register (Settled numbers.base)
  register_named r =
      let is : place_named numbers ≡ place.TheVariants.Register (Settled numbers.register) = rw (stands, absent, r) refl in
      let own : numbers ≡ numbered_place plain (place.TheVariants.Register (Settled numbers.register)) = rw is at e in
      let base : numbers.base ≡ numbers.register = ap (λ (p : NumberedPlace). p.base) own in
      is ∙ ap (λ (n : ℕ). place.TheVariants.Register (Settled n)) (sym base)

  module _ (h : numbered.place_is_real numbers ≡ true) (r : numbers.is_register ≡ false) (disp : ℤ) (at_end : ℕ) where
    address_named : place_named numbers ≡ flags_named true None false numbers.has_index numbers
    address_named = rw (stands, absent, r) refl

    -- what is read for an address
    pub address_read : place_read plain.enc disp at_end (place_named numbers) ≡ Some (Mem (Some numbers.base) (index_named numbers.index numbers.scale) disp)
    address_read = rw address_named (by_index numbers.has_index (rw address_named at e) (rw address_named at h))
      where
        by_index : (i : Bool) → numbers ≡ numbered_place plain (flags_named true None false i numbers) → place_is_real plain.settled plain.enc (flags_named true None false i numbers) ≡ true → place_read plain.enc disp at_end (flags_named true None false i numbers) ≡ Some (Mem (Some numbers.base) (index_named numbers.index numbers.scale) disp)
        by_index false e h = rw (no_index numbers e) refl
        by_index true e h = rw (index_other numbers h) refl

    -- it has an index where the number of one isn't 4
    pub index_marked : numbers.has_index ≡ not (numbers.index == 4)
    index_marked = by_index numbers.has_index refl (rw address_named at e) (rw address_named at h)
      where
        by_index : (i : Bool) → numbers.has_index ≡ i → numbers ≡ numbered_place plain (flags_named true None false i numbers) → place_is_real plain.settled plain.enc (flags_named true None false i numbers) ≡ true → numbers.has_index ≡ not (numbers.index == 4)
        by_index false is e h = rw (is, no_index numbers e) refl
        by_index true is e h = rw (is, index_other numbers h) refl

    -- what is put for the tail of its base is its tail
    pub address_tail : (reg : ℕ) (acts : List Action) → TailOf (numbers.index / 8) (numbers.base / 8) 1 (reg % 8) (Mem (Some numbers.base) (index_named numbers.index numbers.scale) disp) (λ at. []) acts → TailPartOf plain.enc disp at_end reg (place_named numbers) acts
    address_tail reg acts tail = rw address_named (by_index numbers.has_index (rw address_named at e) (rw address_named at h))
      where
        by_index : (i : Bool) → numbers ≡ numbered_place plain (flags_named true None false i numbers) → place_is_real plain.settled plain.enc (flags_named true None false i numbers) ≡ true → TailPartOf plain.enc disp at_end reg (flags_named true None false i numbers) acts
        by_index false e h = rw (no_index numbers e) at tail
        by_index true e h = rw (index_other numbers h) at tail

-- What they stand for has the shape of the operands.

is_number : (a b : ℕ) → (a == b) ≡ true → a ≡ b
is_number a b h = grind (arith, nat_tests)

signed_fits : (k : ℕ) (v : ℤ) → signed_below k v ≡ true → (v ≤ℤ (pos k -ℤ pos 1)) × ((pos 0 -ℤ pos k) ≤ℤ v)
signed_fits k (pos v) h = let small : v < k = below v k h in (omega (arith, ints), omega (arith, ints))
signed_fits k (negsuc v) h = let small : v < k = below v k h in (omega (arith, ints), omega (arith, ints))

word_back : (field : ImmField) (imm : ImmOperand) → imm_has_size field imm ≡ true → imm_in_range imm ≡ true → imm_named field (imm_word imm) ≡ Some imm
word_back NoImm imm h r = cc
word_back (Imm size) (Imm8 v) h r = rw (is_number size 1 h) refl
word_back (Imm size) (Imm16 v) h r = rw (is_number size 2 h) refl
word_back (Imm size) (Imm32 v) h r = rw (is_number size 4 h) refl
word_back (Imm size) (Simm8 v) h r = cc
word_back (Imm size) (Simm32 v) h r = cc
word_back (Simm size) (Imm8 v) h r = cc
word_back (Simm size) (Imm16 v) h r = cc
word_back (Simm size) (Imm32 v) h r = cc
word_back (Simm size) (Simm8 v) h r =
    let fits : FitsSigned w8 v = let p = signed_fits (2 ^ 7) v r in omega (arith, ints, p) in
    rw (is_number size 1 h, to_z-of_z w8 v fits) refl
word_back (Simm size) (Simm32 v) h r =
    let fits : FitsSigned w32 v = let p = signed_fits (2 ^ 31) v r in omega (arith, ints, p) in
    rw (is_number size 4 h, to_z-of_z w32 v fits) refl

imm_back : (field : ImmField) (imm : Option ImmOperand) → imm_fits field imm ≡ true → imm_named field (optional_imm_word imm) ≡ imm
imm_back NoImm None h = refl
imm_back (Imm size) None h = cc
imm_back (Simm size) None h = cc
imm_back field (Some imm) h = let p = and_parts (imm_has_size field imm) (imm_in_range imm) h in word_back field imm p.0 p.1

-- the word of an immediate is put as it is
word_put : (field : ImmField) (imm : ImmOperand) → imm_has_size field imm ≡ true → imm_in_range imm ≡ true → word_actions (imm_bytes field) (imm_word imm) ≡ imm_actions imm
word_put NoImm imm h r = cc
word_put (Imm size) (Imm8 v) h r = let small : v < 256 = below v 256 r in let same : v % 256 ≡ v = omega (arith, small) in rw (is_number size 1 h, same) refl
word_put (Imm size) (Imm16 v) h r = let small : v < 65536 = below v 65536 r in let same : v % 65536 ≡ v = omega (arith, small) in rw (is_number size 2 h) (ap (λ (n : ℕ). put (to_le_bytes w16 n) ∷ []) same)
word_put (Imm size) (Imm32 v) h r = rw (is_number size 4 h) refl
word_put (Imm size) (Simm8 v) h r = cc
word_put (Imm size) (Simm32 v) h r = cc
word_put (Simm size) (Imm8 v) h r = cc
word_put (Simm size) (Imm16 v) h r = cc
word_put (Simm size) (Imm32 v) h r = cc
word_put (Simm size) (Simm8 v) h r =
    let p = signed_fits (2 ^ 7) v r in
    let same : cast_unsigned w8 v % 256 ≡ cast_unsigned w8 v = omega (arith, ints, p) in
    rw (is_number size 1 h) (ap (λ (n : ℕ). put (n ∷ []) ∷ []) same)
word_put (Simm size) (Simm32 v) h r = rw (is_number size 4 h) refl

none_put : (field : ImmField) → is_no_imm field ≡ true → word_actions (imm_bytes field) 0 ≡ []
none_put NoImm h = refl
none_put (Imm size) h = cc
none_put (Simm size) h = cc

pub imm_put : (field : ImmField) (imm : Option ImmOperand) → imm_fits field imm ≡ true → word_actions (imm_bytes field) (optional_imm_word imm) ≡ optional_imm_actions imm
imm_put field None h = none_put field h
imm_put field (Some imm) h = let p = and_parts (imm_has_size field imm) (imm_in_range imm) h in word_put field imm p.0 p.1

pub imm_fit : {M : Type 0} (line : Line) (form : Form M) → fits line form ≡ true → imm_fits line.imm form.imm ≡ true
imm_fit line form h = (and_parts (vvvv_fits line.prefix form.vvvv) (imm_fits line.imm form.imm) (and_parts (tail_fits line.tail form.reg form.place) _ h).1).1

absent_same : (reg : Option Number) → is_absent (option_map Settled (option_map number_value reg)) ≡ is_absent reg
absent_same None = refl
absent_same (Some number) = refl

reg_same : (field : RegField) (reg : Option Number) → reg_fits field (option_map Settled (option_map number_value reg)) ≡ reg_fits field reg
reg_same (Digit d) None = refl
reg_same (Digit d) (Some number) = refl
reg_same Register8 None = refl
reg_same Register8 (Some number) = refl
reg_same Register None = refl
reg_same Register (Some number) = refl

no_place_same : {M : Type 0} (n : Numbering M) (operand : PlaceOperand M) → is_no_place (place_named (numbered_place n operand)) ≡ is_no_place operand
no_place_same n place.TheVariants.NoPlace = refl
no_place_same n (place.TheVariants.Register number) = refl
no_place_same n (place.TheVariants.Memory (ImmReg base simm32 trap)) = refl
no_place_same n (place.TheVariants.Memory (ImmRegRegShift base index scale simm32 trap)) = refl
no_place_same n (place.TheVariants.Memory (RipRelative target)) = refl

place_same : {M : Type 0} (n : Numbering M) (field : PlaceField) (operand : PlaceOperand M) → place_fits field (place_named (numbered_place n operand)) ≡ place_fits field operand
place_same n field place.TheVariants.NoPlace = refl
place_same n Memory (place.TheVariants.Register number) = refl
place_same n RegisterOrMemory (place.TheVariants.Register number) = refl
place_same n Register8OrMemory (place.TheVariants.Register number) = refl
place_same n Memory (place.TheVariants.Memory (ImmReg base simm32 trap)) = refl
place_same n RegisterOrMemory (place.TheVariants.Memory (ImmReg base simm32 trap)) = refl
place_same n Register8OrMemory (place.TheVariants.Memory (ImmReg base simm32 trap)) = refl
place_same n Memory (place.TheVariants.Memory (ImmRegRegShift base index scale simm32 trap)) = refl
place_same n RegisterOrMemory (place.TheVariants.Memory (ImmRegRegShift base index scale simm32 trap)) = refl
place_same n Register8OrMemory (place.TheVariants.Memory (ImmRegRegShift base index scale simm32 trap)) = refl
place_same n Memory (place.TheVariants.Memory (RipRelative target)) = refl
place_same n RegisterOrMemory (place.TheVariants.Memory (RipRelative target)) = refl
place_same n Register8OrMemory (place.TheVariants.Memory (RipRelative target)) = refl

tail_same : {M : Type 0} (n : Numbering M) (tail : TailField) (reg : Option Number) (operand : PlaceOperand M) → tail_fits tail (option_map Settled (option_map number_value reg)) (place_named (numbered_place n operand)) ≡ tail_fits tail reg operand
tail_same n NoTail reg operand = rw (absent_same reg, no_place_same n operand) refl
tail_same n (Modrm field place_field) reg operand = rw (reg_same field reg, place_same n place_field operand) refl

vvvv_same : (prefix : PrefixField) (vvvv : Option Number) → vvvv_fits prefix (option_map Settled (option_map number_value vvvv)) ≡ vvvv_fits prefix vvvv
vvvv_same (LegacyField set rex) vvvv = absent_same vvvv
vvvv_same (VexField pp map l VvvvRegister) vvvv = ap not (absent_same vvvv)
vvvv_same (VexField pp map l Stored1111) vvvv = absent_same vvvv

fits_same : {M : Type 0} (n : Numbering M) (line : Line) (form : Form M) → fits line form ≡ true → fits line (form_named line (numbered_form n form)) ≡ true
fits_same n line form h = rw (tail_same n line.tail form.reg form.place, vvvv_same line.prefix form.vvvv, imm_back line.imm form.imm (imm_fit line form h)) h

-- It is real where the operands are.

value_is : {M : Type 0} (n : Numbering M) (reg : M) → is_real n.settled n.enc reg ≡ true → number_value (number n reg) ≡ n.enc reg
value_is n reg h = rw (and_parts (n.settled reg) (nat_lt (n.enc reg) 16) h).0 refl

number_real : (reg : Option Number) → is_absent_or_real reg ≡ true → is_absent_or_real (option_map Settled (option_map number_value reg)) ≡ true
number_real None h = refl
number_real (Some (Settled number)) h = h
number_real (Some Unsettled) h = cc

place_real : {M : Type 0} (n : Numbering M) (operand : PlaceOperand M) → place_is_real n.settled n.enc operand ≡ true → numbered.place_is_real (numbered_place n operand) ≡ true
place_real n place.TheVariants.NoPlace h = refl
place_real n (place.TheVariants.Register (Settled number)) h = h
place_real n (place.TheVariants.Register Unsettled) h = cc
place_real n (place.TheVariants.Memory (ImmReg base simm32 trap)) h = rw (value_is n base h, (and_parts (n.settled base) (nat_lt (n.enc base) 16) h).1) refl
place_real n (place.TheVariants.Memory (ImmRegRegShift base index scale simm32 trap)) h =
    let p = and_parts (is_real n.settled n.enc base) (is_real_non_rsp n.settled n.enc index) h in
    let q = and_parts (is_real n.settled n.enc index) (not (n.enc index == 4)) p.1 in
    let b = and_parts (n.settled base) (nat_lt (n.enc base) 16) p.0 in
    let i = and_parts (n.settled index) (nat_lt (n.enc index) 16) q.0 in
    rw (value_is n base p.0, value_is n index q.0, b.1, i.1, q.1) refl
place_real n (place.TheVariants.Memory (RipRelative target)) h = refl

form_real : {M : Type 0} (n : Numbering M) (form : Form M) → form_is_real n.settled n.enc form ≡ true → numbered.form_is_real (numbered_form n form) ≡ true
form_real n form h =
    let p = and_parts (is_absent_or_real form.reg) _ h in
    let q = and_parts (is_absent_or_real form.vvvv) (place_is_real n.settled n.enc form.place) p.1 in
    rw (number_real form.reg p.0, number_real form.vvvv q.0, place_real n form.place q.1) refl

-- It is read as they are, and tells what they tell.

reg_read : (reg : Option Number) → option_map low (option_map Settled (option_map number_value reg)) ≡ option_map low reg
reg_read None = refl
reg_read (Some number) = refl

vvvv_read : (vvvv : Option Number) → option_map number_value (option_map Settled (option_map number_value vvvv)) ≡ option_map number_value vvvv
vvvv_read None = refl
vvvv_read (Some number) = refl

place_reads : {M : Type 0} (n : Numbering M) (disp : ℤ) (k : ℕ) (operand : PlaceOperand M) → place_is_real n.settled n.enc operand ≡ true → place_read plain.enc disp k (place_named (numbered_place n operand)) ≡ place_read n.enc disp k operand
place_reads n disp k place.TheVariants.NoPlace h = refl
place_reads n disp k (place.TheVariants.Register number) h = refl
place_reads n disp k (place.TheVariants.Memory (ImmReg base simm32 trap)) h = rw (value_is n base h) refl
place_reads n disp k (place.TheVariants.Memory (ImmRegRegShift base index scale simm32 trap)) h =
    let p = and_parts (is_real n.settled n.enc base) (is_real_non_rsp n.settled n.enc index) h in
    let q = and_parts (is_real n.settled n.enc index) (not (n.enc index == 4)) p.1 in
    rw (value_is n base p.0, value_is n index q.0) refl
place_reads n disp k (place.TheVariants.Memory (RipRelative target)) h = refl

parts_same : {M : Type 0} (n : Numbering M) (line : Line) (row : Row) (disp : ℤ) (form : Form M) → form_is_real n.settled n.enc form ≡ true → fits line form ≡ true → form_parts plain.enc row disp (form_named line (numbered_form n form)) ≡ form_parts n.enc row disp form
parts_same n line row disp form h f =
    let p = and_parts (is_absent_or_real form.reg) _ h in
    let q = and_parts (is_absent_or_real form.vvvv) (place_is_real n.settled n.enc form.place) p.1 in
    rw (reg_read form.reg, vvvv_read form.vvvv, imm_back line.imm form.imm (imm_fit line form f), place_reads n disp (imm_size form.imm) form.place q.1) refl

notices_same : {M : Type 0} (n : Numbering M) (operand : PlaceOperand M) (at : ℕ) (reading : Reading) → notices_of (memory_in (place_named (numbered_place n operand))) at reading ≡ notices_of (memory_in operand) at reading
notices_same n place.TheVariants.NoPlace at reading = refl
notices_same n (place.TheVariants.Register number) at reading = refl
notices_same n (place.TheVariants.Memory (ImmReg base simm32 trap)) at reading = refl
notices_same n (place.TheVariants.Memory (ImmRegRegShift base index scale simm32 trap)) at reading = refl
notices_same n (place.TheVariants.Memory (RipRelative target)) at reading = refl

shortest_same : {M : Type 0} (n : Numbering M) (operand : PlaceOperand M) (bytes : List ℕ) (reading : Reading) → ShortestFor (memory_in (place_named (numbered_place n operand))) bytes reading → ShortestFor (memory_in operand) bytes reading
shortest_same n place.TheVariants.NoPlace bytes reading h = tt
shortest_same n (place.TheVariants.Register number) bytes reading h = tt
shortest_same n (place.TheVariants.Memory (ImmReg base simm32 trap)) bytes reading h = h
shortest_same n (place.TheVariants.Memory (ImmRegRegShift base index scale simm32 trap)) bytes reading h = h
shortest_same n (place.TheVariants.Memory (RipRelative target)) bytes reading h = h

-- what encodes the numbers encodes the operands
encodes_operands : {M : Type 0} (n : Numbering M) (line : Line) (row : Row) (disp : ℤ) (form : Form M) (acts : List Action) → form_is_real n.settled n.enc form ≡ true → fits line form ≡ true → EncodesParts (form_parts plain.enc row disp (form_named line (numbered_form n form))) (memory_in (place_named (numbered_place n form.place))) acts → EncodesParts (form_parts n.enc row disp form) (memory_in form.place) acts
encodes_operands n line row disp form acts h f written =
    let memory = memory_in (place_named (numbered_place n form.place)) in
    let w : EncodesParts (form_parts n.enc row disp form) memory acts = rw (parts_same n line row disp form h f) at written in
    record {
      are_bytes = w.are_bytes;
      reads = w.reads;
      notices = λ at. w.notices at ∙ notices_same n form.place at w.reads.reading;
      shortest = shortest_same n form.place _ w.reads.reading w.shortest;
      ends = w.ends;
    }

-- Its displacement is theirs.

offset_fits : {M : Type 0} (n : Numbering M) (offsets : ℕ → Option ℤ) (operand : PlaceOperand M) → place_is_addressable n.settled n.enc offsets operand ≡ true → sum_fits offsets (numbered_place n operand).displacement.offset (numbered_place n operand).displacement.simm32 ≡ true
offset_fits n offsets place.TheVariants.NoPlace h = refl
offset_fits n offsets (place.TheVariants.Register number) h = refl
offset_fits n offsets (place.TheVariants.Memory (ImmReg base simm32 trap)) h = (and_parts (is_real n.settled n.enc base) _ h).1
offset_fits n offsets (place.TheVariants.Memory (ImmRegRegShift base index scale simm32 trap)) h = refl
offset_fits n offsets (place.TheVariants.Memory (RipRelative target)) h = refl

displacement_is : {M : Type 0} (n : Numbering M) (offsets : ℕ → Option ℤ) (operand : PlaceOperand M) → sum_of offsets (numbered_place n operand).displacement.offset (numbered_place n operand).displacement.simm32 ≡ displacement_in offsets operand
displacement_is n offsets place.TheVariants.NoPlace = refl
displacement_is n offsets (place.TheVariants.Register number) = refl
displacement_is n offsets (place.TheVariants.Memory (ImmReg base simm32 trap)) = refl
displacement_is n offsets (place.TheVariants.Memory (ImmRegRegShift base index scale simm32 trap)) = refl
displacement_is n offsets (place.TheVariants.Memory (RipRelative target)) = refl

pub count_same : {M : Type 0} (n : Numbering M) (operand : PlaceOperand M) → notice_count (numbered_place n operand) ≡ memory_notices (memory_in operand)
count_same n place.TheVariants.NoPlace = refl
count_same n (place.TheVariants.Register number) = refl
count_same n (place.TheVariants.Memory (ImmReg base simm32 trap)) = refl
count_same n (place.TheVariants.Memory (ImmRegRegShift base index scale simm32 trap)) = refl
count_same n (place.TheVariants.Memory (RipRelative target)) = refl

-- The same of numbers that are those of operands.

module _ {M : Type 0} (n : Numbering M) (numbers : NumberedForm) (form : Form M) (e : numbers ≡ numbered_form n form) where
  pub numbered_of : IsNumbered numbers.place
  numbered_of = rw e (is_numbered n form.place)

  pub offset_of : (offsets : ℕ → Option ℤ) → place_is_addressable n.settled n.enc offsets form.place ≡ true → sum_fits offsets numbers.place.displacement.offset numbers.place.displacement.simm32 ≡ true
  offset_of offsets h = rw e (offset_fits n offsets form.place h)

  pub displacement_of : (offsets : ℕ → Option ℤ) → sum_of offsets numbers.place.displacement.offset numbers.place.displacement.simm32 ≡ displacement_in offsets form.place
  displacement_of offsets = rw e (displacement_is n offsets form.place)

  pub real_of : form_is_real n.settled n.enc form ≡ true → numbered.form_is_real numbers ≡ true
  real_of h = rw e (form_real n form h)

  module _ (line : Line) (f : fits line form ≡ true) where
    pub fits_of : fits line (form_named line numbers) ≡ true
    fits_of = rw e (fits_same n line form f)

    pub imm_of : HasImmWord line numbers
    imm_of = rw e (ap optional_imm_word (sym (imm_back line.imm form.imm (imm_fit line form f))))

    module _ (h : form_is_real n.settled n.enc form ≡ true) where
      pub encodes_of : (row : Row) (disp : ℤ) (acts : List Action) → EncodesParts (form_parts plain.enc row disp (form_named line numbers)) (memory_in (place_named numbers.place)) acts → EncodesParts (form_parts n.enc row disp form) (memory_in form.place) acts
      encodes_of row disp acts written = encodes_operands n line row disp form acts h f (rw e at written)

      pub length_of : (row : Row) (disp : ℤ) (length : ℕ) → length ≡ len_of (form_parts plain.enc row disp (form_named line numbers)) → length ≡ len_of (form_parts n.enc row disp form)
      length_of row disp length is = (rw e at is) ∙ ap len_of (parts_same n line row disp form h f)
