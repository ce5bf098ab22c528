use Rattle.std.proofs.Common.{◌≡◌, ℕ, ◌^◌, ◌≤ℤ◌, refl, arith, Bool, true, Option, Some, None, ℤ, pos, negsuc, w8, w32, FitsSigned}
use Rattle.std.specs.Prelude.{◌-ℤ◌, ◌==◌, ◌&&◌, not, nat_lt, option_map}
use Rattle.std.proofs.lemmas.Bool.{and_parts}
use Rattle.std.proofs.lemmas.Bool.Decides.{nat_tests}
use Rattle.std.proofs.lemmas.Int.{ints, to_z-of_z}
use Rattle.cax64_address.specs.declared.amode.Amode.{Amode}
use Rattle.cax64_address.specs.declared.amode.Amode.TheVariants.{ImmReg, ImmRegRegShift, RipRelative}
use Rattle.cax64_encoder.specs.EncodesLine.{line_notices_of}
use Rattle.cax64_encoder.specs.Fault.{all_met, late_offset_fits}
use Rattle.cax64_encoder.specs.ImmActions.{imm_named, imm_word, optional_imm_word}
use Rattle.cax64_encoder.specs.Meant.{low}
use Rattle.cax64_encoder.specs.Number.{number_value}
use Rattle.cax64_encoder.specs.Numbered.{numbered_place, place_named, plain}
use Rattle.cax64_encoder.specs.Place.{displacement_in, memory_in, place_read}
use Rattle.cax64_encoder.specs.Real.{is_absent_or_real, place_is_real}
use Rattle.cax64_encoder.specs.Role.{number}
use Rattle.cax64_encoder.specs.declared.number.Number.{Number}
use Rattle.cax64_encoder.specs.declared.number.Number.TheVariants.{Settled, Unsettled}
use Rattle.cax64_encoder.specs.declared.role.PlaceOperand as place
use Rattle.cax64_encoder.specs.declared.role.PlaceOperand.{PlaceOperand}
use Rattle.cax64_machine_code.specs.ReadLine.{LineReading}
use Rattle.cax64_machine_code.specs.declared.line.ImmField.{ImmField}
use Rattle.cax64_machine_code.specs.declared.line.ImmField.TheVariants.{NoImm, Imm, Simm}
use Rattle.cax64_machine_code.specs.declared.reading.RegView.TheVariants.{Low}
use Rattle.cax64_operand.specs.Family.{Numbering}
use Rattle.cax64_operand.specs.Immediate.{imm_in_range, signed_below}
use Rattle.cax64_operand.specs.Shape.{imm_fits, imm_has_size}
use Rattle.cax64_operand.specs.declared.immediate.ImmOperand.{ImmOperand}
use Rattle.cax64_operand.specs.declared.immediate.ImmOperand.TheVariants.{Imm8, Imm16, Imm32, Simm8, Simm32}
use Rattle.cax64_register.specs.Real.{is_real, is_real_non_rsp}
use Rattle.x64_core.specs.Core.{place_visited, register_before}
use Rattle.x64_of_port.specs.Numbers.{numbered_amode}

-- What numbers of operands stand for is read as the operands, and names the same memory.

pub as_low : (reg : Option Number) → option_map Low (option_map number_value reg) ≡ option_map low reg
as_low None = refl
as_low (Some number) = refl

-- Immediates.

is_number : (a b : ℕ) → (a == b) ≡ true → a ≡ b
is_number a b h = grind (arith, nat_tests)

pub signed_fits : (k : ℕ) (v : ℤ) → signed_below k v ≡ true → (v ≤ℤ (pos k -ℤ pos 1)) × ((pos 0 -ℤ pos k) ≤ℤ v)
signed_fits k (pos v) h = (grind (arith, nat_tests, ints, h), grind (arith, nat_tests, ints, h))
signed_fits k (negsuc v) h = (grind (arith, nat_tests, ints, h), grind (arith, nat_tests, ints, h))

word_back : (field : ImmField) (imm : ImmOperand) → imm_has_size field imm ≡ true → imm_in_range imm ≡ true → imm_named field (imm_word imm) ≡ Some imm
word_back NoImm imm h r = cc
word_back (Imm size) (Imm8 v) h r = rw (is_number size 1 h) refl
word_back (Imm size) (Imm16 v) h r = rw (is_number size 2 h) refl
word_back (Imm size) (Imm32 v) h r = rw (is_number size 4 h) refl
word_back (Imm size) (Simm8 v) h r = cc
word_back (Imm size) (Simm32 v) h r = cc
word_back (Simm size) (Imm8 v) h r = cc
word_back (Simm size) (Imm16 v) h r = cc
word_back (Simm size) (Imm32 v) h r = cc
word_back (Simm size) (Simm8 v) h r =
    let fits : FitsSigned w8 v = let p = signed_fits (2 ^ 7) v r in omega (arith, ints, p) in
    rw (is_number size 1 h, to_z-of_z w8 v fits) refl
word_back (Simm size) (Simm32 v) h r =
    let fits : FitsSigned w32 v = let p = signed_fits (2 ^ 31) v r in omega (arith, ints, p) in
    rw (is_number size 4 h, to_z-of_z w32 v fits) refl

pub imm_back : (field : ImmField) (imm : Option ImmOperand) → imm_fits field imm ≡ true → imm_named field (optional_imm_word imm) ≡ imm
imm_back NoImm None h = refl
imm_back (Imm size) None h = cc
imm_back (Simm size) None h = cc
imm_back field (Some imm) h = let p = and_parts (imm_has_size field imm) (imm_in_range imm) h in word_back field imm p.0 p.1

-- Places of real registers.
module _ {M : Type 0} (n : Numbering M) where
  value_is : (reg : M) → is_real n.settled n.enc reg ≡ true → number_value (number n reg) ≡ n.enc reg
  value_is reg h = rw (and_parts (n.settled reg) (nat_lt (n.enc reg) 16) h).0 refl

  index_is : (index : M) → is_real_non_rsp n.settled n.enc index ≡ true → number_value (number n index) ≡ n.enc index
  index_is index h = value_is index (and_parts (is_real n.settled n.enc index) (not (n.enc index == 4)) h).0

  pub place_reads : (disp : ℤ) (k : ℕ) (operand : PlaceOperand M) → place_is_real n.settled n.enc operand ≡ true → place_read plain.enc disp k (place_named (numbered_place n operand)) ≡ place_read n.enc disp k operand
  place_reads disp k place.TheVariants.NoPlace h = refl
  place_reads disp k (place.TheVariants.Register number) h = refl
  place_reads disp k (place.TheVariants.Memory (ImmReg base simm32 trap)) h = rw (value_is base h) refl
  place_reads disp k (place.TheVariants.Memory (ImmRegRegShift base index scale simm32 trap)) h =
      let p = and_parts (is_real n.settled n.enc base) (is_real_non_rsp n.settled n.enc index) h in
      rw (value_is base p.0, index_is index p.1) refl
  place_reads disp k (place.TheVariants.Memory (RipRelative target)) h = refl

  pub memory_same : (operand : PlaceOperand M) → place_is_real n.settled n.enc operand ≡ true → memory_in (place_named (numbered_place n operand)) ≡ option_map (λ amode. numbered_amode n amode) (memory_in operand)
  memory_same place.TheVariants.NoPlace h = refl
  memory_same (place.TheVariants.Register number) h = refl
  memory_same (place.TheVariants.Memory (ImmReg base simm32 trap)) h = rw (value_is base h) refl
  memory_same (place.TheVariants.Memory (ImmRegRegShift base index scale simm32 trap)) h =
      let p = and_parts (is_real n.settled n.enc base) (is_real_non_rsp n.settled n.enc index) h in
      rw (value_is base p.0, index_is index p.1) refl
  memory_same (place.TheVariants.Memory (RipRelative target)) h = refl

  pub displacement_same : (offsets : ℕ → Option ℤ) (operand : PlaceOperand M) → displacement_in offsets (place_named (numbered_place n operand)) ≡ displacement_in offsets operand
  displacement_same offsets place.TheVariants.NoPlace = refl
  displacement_same offsets (place.TheVariants.Register number) = refl
  displacement_same offsets (place.TheVariants.Memory (ImmReg base simm32 trap)) = refl
  displacement_same offsets (place.TheVariants.Memory (ImmRegRegShift base index scale simm32 trap)) = refl
  displacement_same offsets (place.TheVariants.Memory (RipRelative target)) = refl

  pub late_same : (offsets : ℕ → Option ℤ) (operand : PlaceOperand M) → late_offset_fits offsets (memory_in (place_named (numbered_place n operand))) ≡ late_offset_fits offsets (memory_in operand)
  late_same offsets place.TheVariants.NoPlace = refl
  late_same offsets (place.TheVariants.Register number) = refl
  late_same offsets (place.TheVariants.Memory (ImmReg base simm32 trap)) = refl
  late_same offsets (place.TheVariants.Memory (ImmRegRegShift base index scale simm32 trap)) = refl
  late_same offsets (place.TheVariants.Memory (RipRelative target)) = refl

-- Numbers that are real are as they have to be.

and_true : (b : Bool) → b ≡ true → (b && true) ≡ true
and_true b h = rw h refl

place_met : (p : PlaceOperand ℕ) → place_is_real plain.settled plain.enc p ≡ true → all_met (place_visited p) ≡ true
place_met place.TheVariants.NoPlace h = refl
place_met (place.TheVariants.Register (Settled number)) h = and_true (nat_lt number 16) h
place_met (place.TheVariants.Register Unsettled) h = cc
place_met (place.TheVariants.Memory (ImmReg base simm32 trap)) h = and_true (nat_lt base 16) h
place_met (place.TheVariants.Memory (ImmRegRegShift base index scale simm32 trap)) h =
    let p = and_parts (nat_lt base 16) (nat_lt index 16 && not (index == 4)) h in
    rw (p.0, p.1) refl
place_met (place.TheVariants.Memory (RipRelative target)) h = refl

pub numbers_met : (reg vvvv : Option ℕ) (p : PlaceOperand ℕ) → (is_absent_or_real (option_map Settled reg) && (is_absent_or_real (option_map Settled vvvv) && place_is_real plain.settled plain.enc p)) ≡ true → all_met (register_before reg (register_before vvvv (place_visited p))) ≡ true
numbers_met None None p h = place_met p h
numbers_met None (Some v) p h =
    let a = and_parts (nat_lt v 16) (place_is_real plain.settled plain.enc p) h in
    rw (a.0, place_met p a.1) refl
numbers_met (Some r) None p h =
    let a = and_parts (nat_lt r 16) (place_is_real plain.settled plain.enc p) h in
    rw (a.0, place_met p a.1) refl
numbers_met (Some r) (Some v) p h =
    let a = and_parts (nat_lt r 16) _ h in
    let b = and_parts (nat_lt v 16) (place_is_real plain.settled plain.enc p) a.1 in
    rw (a.0, b.0, place_met p b.1) refl

-- Memory with numbers has the same notices.
pub notices_same : {M : Type 0} (n : Numbering M) (memory : Option (Amode M)) (at : ℕ) (reading : LineReading) → line_notices_of (option_map (λ amode. numbered_amode n amode) memory) at reading ≡ line_notices_of memory at reading
notices_same n None at reading = refl
notices_same n (Some (ImmReg base simm32 trap)) at reading = refl
notices_same n (Some (ImmRegRegShift base index scale simm32 trap)) at reading = refl
notices_same n (Some (RipRelative target)) at reading = refl
