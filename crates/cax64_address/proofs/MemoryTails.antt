use Rattle.std.proofs.Common.{◌≡◌, ◌≢◌, ℕ, ◌+◌, ◌*◌, ◌/◌, ◌%◌, ◌^◌, ◌<◌, ◌≤◌, arith, refl, ◌∙◌, ap, sym, subst, List, [], ◌∷◌, ◌++◌, ℤ, pos, Some, Bool, true, false, length, Option}
use Rattle.std.specs.Prelude as std
use Rattle.std.specs.Prelude.{◌==◌, ◌&&◌, ◌||◌, not, if◌then◌else◌, nat_lt}
use Rattle.std.specs.Int.{from_bool, cast_unsigned, w8, w32, to_le_bytes}
use Rattle.std.specs.Int.RustNames.{FitsSigned}
use Rattle.std.proofs.lemmas.Bool.Decides.{nat_tests}
use Rattle.std.proofs.lemmas.Int.{ints}
use Rattle.cax64_machine_code.specs.declared.reading.Place.TheVariants.{Mem}
use Rattle.cax64_sink.specs.Run.{all_bytes}
use Rattle.cax64_sink.specs.Call.{Action, put}
use Rattle.cax64_address.specs.Displacement.{IsClassOf, mode_of, disp_actions, forced}
use Rattle.cax64_address.specs.Emitted.{TailOf, byte_actions}
use Rattle.cax64_sink.specs.Rest.{long_actions}
use Rattle.cax64_address.specs.Length.{least_tail_under}
use Rattle.cax64_address.specs.Memory.{option_when}
use Rattle.cax64_address.specs.declared.disp.Disp.{Disp}
use Rattle.cax64_address.specs.declared.disp.Disp.TheVariants.{None, Imm8, Imm32}
use Rattle.cax64_address.proofs.Classes.{alone, class_back}
use Rattle.cax64_address.proofs.Emits.{Chosen, chosen_five, chosen_other, emits_base, emits_index, emits_stack}
use Rattle.cax64_address.proofs.TailLengths.{base_length, stack_length, index_length}

-- The tail of bytes that stand or don't is the tail of a class.

-- some class of the displacement, a byte forced beside low bits 5, has this mod field and puts this
pub record Displaced (base : ℕ) (v : ℤ) (mode : ℕ) (field : List Action) : Type 0 where
  pub class : Disp
  pub put_class : Disp
  pub chosen : Chosen 1 base v class put_class
  pub mode_is : mode ≡ mode_of put_class
  pub field_is : field ≡ disp_actions put_class

chosen_at : (base : ℕ) (v : ℤ) (d e : Disp) (five : Bool) → (base % 8 == 5) ≡ five → FitsSigned w32 v → IsClassOf 1 v d → e ≡ (if five then forced d else d) → Chosen 1 base v d e
chosen_at base v d e true is f k ee =
    let low : base % 8 ≡ 5 = grind (arith, nat_tests) in
    rw ee (chosen_five 1 base v d k (class_back 1 v d f k) low)
chosen_at base v d e false is f k ee =
    let low : base % 8 ≢ 5 = grind (arith, nat_tests) in
    rw ee (chosen_other 1 base v d k (class_back 1 v d f k) low)

zero_value : (v : ℤ) (word : ℕ) → FitsSigned w32 v → word ≡ cast_unsigned w32 v → word ≡ 0 → v ≡ pos 0
zero_value v word f e z = omega (arith, ints)

zero_word : (v : ℤ) (word : ℕ) → FitsSigned w32 v → word ≡ cast_unsigned w32 v → v ≡ pos 0 → word ≡ 0
zero_word v word f e z = omega (arith, ints)

small_value : (v : ℤ) (word : ℕ) → FitsSigned w32 v → word ≡ cast_unsigned w32 v → (word + 128) % 4294967296 < 256 → FitsSigned w8 v
small_value v word f e h = omega (arith, ints)

small_word : (v : ℤ) (word : ℕ) → FitsSigned w8 v → word ≡ cast_unsigned w32 v → (word + 128) % 4294967296 < 256
small_word v word f e = omega (arith, ints)

too_large : (v : ℤ) (word : ℕ) → FitsSigned w8 v → word ≡ cast_unsigned w32 v → 256 ≤ (word + 128) % 4294967296 → ⊥
too_large v word fits e h = omega (arith, small_word v word fits e)

low_byte : (v : ℤ) (word : ℕ) → FitsSigned w8 v → word ≡ cast_unsigned w32 v → word % 256 ≡ cast_unsigned w8 v
low_byte v word f e = omega (arith, ints)

byte_either : (v : ℤ) (t : Bool) → Imm8 v ≡ (if t then forced (Imm8 v) else Imm8 v)
byte_either v true = refl
byte_either v false = refl

long_either : (v : ℤ) (t : Bool) → Imm32 v ≡ (if t then forced (Imm32 v) else Imm32 v)
long_either v true = refl
long_either v false = refl

byte_put : (a b : ℕ) → a ≡ b → ◌≡◌ {A = List Action} (put (a ∷ []) ∷ []) (put (b ∷ []) ∷ [])
byte_put a b e = ap (λ (x : ℕ). put (x ∷ []) ∷ []) e

-- a displacement that a byte holds: whether the byte stands
small_by : (base word : ℕ) (v : ℤ) (zero five : Bool) → (word == 0) ≡ zero → (base % 8 == 5) ≡ five → FitsSigned w32 v → FitsSigned w8 v → word ≡ cast_unsigned w32 v → Displaced base v (from_bool (not zero || five)) (byte_actions (option_when (not zero || five) (word % 256)) ++ [])
small_by base word v false five z l f s e =
    let not_zero : word ≢ 0 = grind (arith, nat_tests) in
    let k : IsClassOf 1 v (Imm8 v) = (λ (n : v ≡ pos 0). not_zero (zero_word v word f e n), s, alone v) in
    record { class = Imm8 v; put_class = Imm8 v; chosen = chosen_at base v (Imm8 v) (Imm8 v) five l f k (byte_either v five); mode_is = refl; field_is = byte_put _ _ (low_byte v word s e) }
small_by base word v true true z l f s e =
    let is_zero : word ≡ 0 = grind (arith, nat_tests) in
    let k : v ≡ pos 0 = zero_value v word f e is_zero in
    let none : word % 256 ≡ 0 = omega arith in
    record { class = None; put_class = Imm8 (pos 0); chosen = chosen_at base v None (Imm8 (pos 0)) true l f k refl; mode_is = refl; field_is = byte_put _ _ none }
small_by base word v true false z l f s e =
    let is_zero : word ≡ 0 = grind (arith, nat_tests) in
    let k : v ≡ pos 0 = zero_value v word f e is_zero in
    record { class = None; put_class = None; chosen = chosen_at base v None None false l f k refl; mode_is = refl; field_is = refl }

-- one that no byte holds
large_by : (base word : ℕ) (v : ℤ) (five : Bool) → (base % 8 == 5) ≡ five → FitsSigned w32 v → (FitsSigned w8 v → ⊥) → word ≡ cast_unsigned w32 v → Displaced base v 2 (long_actions (Some word))
large_by base word v five l f s e =
    let not_zero : v ≢ pos 0 = λ n. s (omega (arith, ints)) in
    let k : IsClassOf 1 v (Imm32 v) = (not_zero, refl, λ (q : ℤ) (fq : FitsSigned w8 q) (eq : _). s (subst (λ (x : ℤ). FitsSigned w8 x) (sym (alone q) ∙ eq) fq)) in
    record { class = Imm32 v; put_class = Imm32 v; chosen = chosen_at base v (Imm32 v) (Imm32 v) five l f k (long_either v five); mode_is = refl; field_is = ap (λ (x : ℕ). put (to_le_bytes w32 x) ∷ []) e }

-- the displacement as the program tests it: 128 more, without its carry, is below 256 where a byte holds it
pub short : (base low word : ℕ) (v : ℤ) → low ≡ base % 8 → FitsSigned w32 v → word ≡ cast_unsigned w32 v → (word + 128) % 4294967296 < 256 → (stands is_byte : Bool) → is_byte ≡ nat_lt ((word + 128) % 4294967296) 256 → stands ≡ (is_byte && (not (word == 0) || (low == 5))) → Displaced base v (from_bool stands + 2 * from_bool (not is_byte)) (byte_actions (option_when stands (word % 256)) ++ [])
short base low word v el f e h stands is_byte ei es =
    let yes : is_byte ≡ true = grind (arith, nat_tests) in
    let same : stands ≡ (not (word == 0) || (base % 8 == 5)) = rw (es, yes, el) refl in
    let s : FitsSigned w8 v = small_value v word f e h in
    let d = small_by base word v (word == 0) (base % 8 == 5) refl refl f s e in
    let zero : from_bool (not (word == 0) || (base % 8 == 5)) + 2 * 0 ≡ from_bool (not (word == 0) || (base % 8 == 5)) = omega arith in
    rw (yes, same, zero) d

pub long : (base low word : ℕ) (v : ℤ) → low ≡ base % 8 → FitsSigned w32 v → word ≡ cast_unsigned w32 v → 256 ≤ (word + 128) % 4294967296 → (stands is_byte : Bool) → is_byte ≡ nat_lt ((word + 128) % 4294967296) 256 → stands ≡ (is_byte && (not (word == 0) || (low == 5))) → Displaced base v (from_bool stands + 2 * from_bool (not is_byte)) (byte_actions (option_when stands (word % 256)) ++ long_actions (Some word))
long base low word v el f e h stands is_byte ei es =
    let no : is_byte ≡ false = grind (arith, nat_tests) in
    let same : stands ≡ false = rw (es, no) refl in
    let s : FitsSigned w8 v → ⊥ = λ (fits : FitsSigned w8 v). too_large v word fits e h in
    rw (no, same) (large_by base word v (base % 8 == 5) refl f s e)

-- a tail of these actions, of as many bytes as are needed
pub record Tailed (reg base index : ℕ) (named : Option (ℕ × ℕ)) (v : ℤ) (acts : List Action) : Type 0 where
  pub tail : TailOf (index / 8) (base / 8) 1 reg (Mem (Some base) named v) (λ at. []) acts
  pub length : length (all_bytes acts) ≡ least_tail_under 1 (Mem (Some base) named v)

positive : 0 < 1
positive = omega arith

by_tests : (reg base index scale mode rm m sib : ℕ) (v : ℤ) (field : List Action) (four low_four : Bool) → (index == 4) ≡ four → (base % 8 == 4) ≡ low_four → reg < 8 → Displaced base v mode field → m ≡ mode * 64 + reg * 8 + rm → rm ≡ (if not four || low_four then 4 else base % 8) → sib ≡ scale * 64 + index % 8 * 8 + base % 8 → Tailed reg base index (if four then std.None else Some (index, 2 ^ scale)) v (put (m ∷ []) ∷ (byte_actions (option_when (not four || low_four) sib) ++ field))
by_tests reg base index scale mode rm m sib v field false low_four ei el hr d em er es =
    let not_four : index ≢ 4 = grind (arith, nat_tests) in
    let first : m ≡ mode_of d.put_class * 64 + reg * 8 + 4 = omega (arith, d.mode_is, er) in
    rw d.field_is (record {
      tail = emits_index 1 reg base index scale m sib v d.class d.put_class d.chosen hr not_four first es;
      length = index_length 1 base (index, 2 ^ scale) v d.class d.put_class positive d.chosen;
    })
by_tests reg base index scale mode rm m sib v field true true ei el hr d em er es =
    let is_four : index ≡ 4 = grind (arith, nat_tests) in
    let low : base % 8 ≡ 4 = grind (arith, nat_tests) in
    let first : m ≡ mode_of d.put_class * 64 + reg * 8 + 4 = omega (arith, d.mode_is, er) in
    let second : sib ≡ scale * 64 + 4 * 8 + 4 = omega arith in
    let zero : index / 8 ≡ 0 = omega arith in
    rw d.field_is (record {
      tail = rw zero (emits_stack 1 reg base scale m sib v d.class d.put_class d.chosen hr first second low);
      length = stack_length 1 base v d.class d.put_class positive d.chosen low;
    })
by_tests reg base index scale mode rm m sib v field true false ei el hr d em er es =
    let is_four : index ≡ 4 = grind (arith, nat_tests) in
    let low : base % 8 ≢ 4 = grind (arith, nat_tests) in
    let first : m ≡ mode_of d.put_class * 64 + reg * 8 + base % 8 = omega (arith, d.mode_is, er) in
    let zero : index / 8 ≡ 0 = omega arith in
    rw d.field_is (record {
      tail = rw zero (emits_base 1 reg base m v d.class d.put_class d.chosen hr first low);
      length = base_length 1 base v d.class d.put_class positive d.chosen low;
    })

-- the bytes of a base, an index and a displacement
pub tailed : (reg base index scale mode rm m sib low : ℕ) (v : ℤ) (field : List Action) → low ≡ base % 8 → reg < 8 → Displaced base v mode field → m ≡ mode * 64 + reg * 8 + rm → rm ≡ (if not (index == 4) || (low == 4) then 4 else low) → sib ≡ scale * 64 + index % 8 * 8 + low → Tailed reg base index (if index == 4 then std.None else Some (index, 2 ^ scale)) v (put (m ∷ []) ∷ (byte_actions (option_when (not (index == 4) || (low == 4)) sib) ++ field))
tailed reg base index scale mode rm m sib low v field el hr d em er es =
    rw el (by_tests reg base index scale mode rm m sib v field (index == 4) (base % 8 == 4) refl refl hr d em (rw el at er) (rw el at es))
