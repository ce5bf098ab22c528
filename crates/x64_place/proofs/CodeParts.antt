use Rattle.std.proofs.Common.{◌≡◌, ◌≢◌, ℕ, ◌+◌, ◌%◌, ◌<◌, refl, arith, Bool, true, false, Option, ℤ, List}
use Rattle.std.specs.Prelude.{◌==◌, nat_lt, not, option_map}
use Rattle.std.proofs.lemmas.Bool.{and_parts}
use Rattle.std.proofs.lemmas.Bool.Decides.{nat_tests}
use Rattle.cax64_machine_code.specs.declared.line.TailField.{TailField}
use Rattle.cax64_machine_code.specs.declared.line.TailField.TheVariants.{NoTail, Modrm}
use Rattle.cax64_sink.specs.Call.{Action}
use Rattle.cax64_table.specs.Numbers.{digit_of, has_register}
use Rattle.cax64_encoder.specs.Encodes.{TailPartOf}
use Rattle.cax64_encoder.specs.Form.{is_no_place, reg_fits, tail_fits}
use Rattle.cax64_encoder.specs.Numbered.{plain, form_is_real, place_is_real, place_named}
use Rattle.cax64_encoder.specs.Prefix.{register_number}
use Rattle.cax64_encoder.specs.Real.{is_absent_or_real}
use Rattle.cax64_encoder.specs.declared.number.Number.{Number}
use Rattle.cax64_encoder.specs.declared.number.Number.TheVariants.{Settled}
use Rattle.cax64_encoder.specs.declared.numbered.NumberedForm.{NumberedForm}
use Rattle.cax64_encoder.specs.declared.role.PlaceOperand as place
use Rattle.cax64_encoder.specs.declared.role.PlaceOperand.{PlaceOperand}
use Rattle.x64_place.specs.Kind.{is_present}
use Rattle.x64_place.specs.Kind.{has_index}
use Rattle.x64_place.specs.Operand.{placed, placed_by}
use Rattle.x64_place.specs.When.{when}
use Rattle.x64_place.specs.declared.place.FlatPlace.{FlatPlace}
use Rattle.x64_place.specs.declared.place.PlaceKind.{PlaceKind}
use Rattle.x64_place.specs.declared.place.PlaceKind.TheVariants.{Absent, Register, Base, BaseAndIndex, Label, Constant, NoTarget}

-- What the parts of the code ask of its numbers.

pub number_when : (present : Bool) (n : ℕ) → (present ≡ false → n ≡ 0) → n ≡ register_number (option_map Settled (when present n))
number_when true n h = refl
number_when false n h = h refl

pub real_when : (present : Bool) (n : ℕ) → (present ≡ false → n ≡ 0) → is_absent_or_real (option_map Settled (when present n)) ≡ true → n < 16
real_when true n h r = grind (arith, nat_tests, r)
real_when false n h r = let zero : n ≡ 0 = h refl in omega arith

pub record RealParts (form : NumberedForm) : Type 0 where
  pub reg : is_absent_or_real (option_map Settled form.reg) ≡ true
  pub vvvv : is_absent_or_real (option_map Settled form.vvvv) ≡ true
  pub place : place_is_real form.place ≡ true

pub real_parts : (form : NumberedForm) → form_is_real form ≡ true → RealParts form
real_parts form h =
    let p = and_parts (is_absent_or_real (option_map Settled form.reg)) _ h in
    let q = and_parts (is_absent_or_real (option_map Settled form.vvvv)) _ p.1 in
    record { reg = p.0; vvvv = q.0; place = q.1 }

not_true : (b : Bool) → not b ≡ true → b ≡ false
not_true true h = cc
not_true false h = refl

index_when : (kind : PlaceKind) (p : FlatPlace) → place_is_real (placed_by kind p) ≡ true → has_index kind ≡ true → p.index ≢ 4
index_when Absent p h i = cc
index_when Register p h i = cc
index_when Base p h i = cc
index_when BaseAndIndex p h i =
    let a = and_parts (nat_lt p.base 16) _ h in
    let b = and_parts (nat_lt p.index 16) (not (p.index == 4)) a.1 in
    let no : (p.index == 4) ≡ false = not_true (p.index == 4) b.1 in
    grind (arith, nat_tests, no)
index_when Label p h i = cc
index_when Constant p h i = cc
index_when NoTarget p h i = cc

pub index_not_four : (p : FlatPlace) → place_is_real (placed p) ≡ true → has_index p.kind ≡ true → p.index ≢ 4
index_not_four p h i = index_when p.kind p h i

-- where there is no place, there is neither a register nor a digit

none_when : (kind : PlaceKind) (p : FlatPlace) → is_present kind ≡ false → is_no_place (place_named (placed_by kind p)) ≡ true
none_when Absent p h = refl
none_when Register p h = cc
none_when Base p h = cc
none_when BaseAndIndex p h = cc
none_when Label p h = cc
none_when Constant p h = cc
none_when NoTarget p h = cc

tail_none : (tail : TailField) (number : Option Number) (o : PlaceOperand ℕ) → tail_fits tail number o ≡ true → is_no_place o ≡ true → (has_register tail ≡ false) × (digit_of tail ≡ 0)
tail_none NoTail number o h k = (refl, refl)
tail_none (Modrm reg field) number place.TheVariants.NoPlace h k =
    let bad = (and_parts (reg_fits reg number) _ h).1 in cc
tail_none (Modrm reg field) number (place.TheVariants.Register n) h k = cc
tail_none (Modrm reg field) number (place.TheVariants.Memory amode) h k = cc

pub bare_reg : (tail : TailField) (number : Option Number) (p : FlatPlace) (reg digit : ℕ) → tail_fits tail number (place_named (placed p)) ≡ true → (has_register tail ≡ false → reg ≡ 0) → digit ≡ digit_of tail → is_present p.kind ≡ false → (reg + digit) % 8 ≡ 0
bare_reg tail number p reg digit h zero d k =
    let n = tail_none tail number (place_named (placed p)) h (none_when p.kind p k) in
    let a : reg ≡ 0 = zero n.0 in
    let b : digit_of tail ≡ 0 = n.1 in
    omega (arith, a, b, d)

-- of the number in reg a tail has the low bits
pub low_reg : (operand : PlaceOperand ℕ) (v : ℤ) (at_end reg : ℕ) (acts : List Action) → TailPartOf plain.enc v at_end (reg % 8) operand acts → TailPartOf plain.enc v at_end reg operand acts
low_reg place.TheVariants.NoPlace v at_end reg acts h = h
low_reg (place.TheVariants.Register n) v at_end reg acts h = let e : reg % 8 % 8 ≡ reg % 8 = omega arith in rw e at h
low_reg (place.TheVariants.Memory amode) v at_end reg acts h = let e : reg % 8 % 8 ≡ reg % 8 = omega arith in rw e at h
