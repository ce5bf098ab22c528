use Rattle.std.proofs.Common.{◌≡◌, ℕ, zero, suc, take, w64, slice_index_or, ◌+◌, ◌*◌, ◌/◌, ◌%◌, ◌^◌, ◌<◌, ◌≤◌, refl, ◌∙◌, sym, ap, arith, Bool, true, false, List, [], ◌∷◌, ◌++◌, ℤ, Some, length, Option}
use Rattle.std.specs.Prelude as std
use Rattle.std.specs.Prelude.{◌==◌, ◌&&◌, ◌||◌, not, nat_lt, if◌then◌else◌}
use Rattle.std.specs.Int.{from_bool, cast_unsigned, w32, to_le_bytes}
use Rattle.std.specs.Int.RustNames.{FitsSigned}
use Rattle.std.proofs.lemmas.Bool.Decides.{nat_tests}
use Rattle.cax64_machine_code.specs.Fields.{IsBytes}
use Rattle.cax64_machine_code.specs.declared.reading.Place.{Place}
use Rattle.cax64_machine_code.specs.declared.reading.Place.TheVariants.{Mem}
use Rattle.cax64_machine_code.specs.Len.{least_tail}
use Rattle.cax64_sink.specs.Call.{Action}
use Rattle.cax64_sink.specs.Puts.{puts}
use Rattle.cax64_sink.specs.Rest.{long_actions}
use Rattle.cax64_sink.specs.Run.{all_bytes}
use Rattle.cax64_address.specs.Emitted.{TailOf, byte_actions}
use Rattle.cax64_address.specs.Emitted as address
use Rattle.cax64_address.specs.Memory.{option_when}
use Rattle.cax64_address.specs.declared.tail.TailCode.{TailCode}
use Rattle.cax64_address.proofs.MemoryTails.{Displaced, short, long, tailed}
use Rattle.cax64_address.proofs.TailLengths.{alone_length}
use Rattle.cax64_encoder.specs.Tails.{width_with, width_of_word, mode_of, memory_front, memory_entry, base_entry}
use Rattle.cax64_encoder.proofs.Bytes.{no_bytes, more_bytes, one_byte}
use Rattle.cax64_encoder.proofs.Fronts.{tail_puts}

-- The tail of a base that is looked up is the tail of its displacement's width.

record Moded (zero small five : Bool) : Type 0 where
  pub mode : (if width_with zero small == 0 then from_bool five else width_with zero small) ≡ from_bool (small && (not zero || five)) + 2 * from_bool (not small)
  pub byte : ((if width_with zero small == 0 then from_bool five else width_with zero small) == 1) ≡ (small && (not zero || five))
  pub four : (width_with zero small == 2) ≡ not small

moded : (zero small five : Bool) → (zero ≡ true → small ≡ true) → Moded zero small five
moded true true true h = record { mode = refl; byte = refl; four = refl }
moded true true false h = record { mode = refl; byte = refl; four = refl }
moded false true true h = record { mode = refl; byte = refl; four = refl }
moded false true false h = record { mode = refl; byte = refl; four = refl }
moded false false true h = record { mode = refl; byte = refl; four = refl }
moded false false false h = record { mode = refl; byte = refl; four = refl }
moded true false five h = let bad : false ≡ true = h refl in cc

zero_is_small : (word : ℕ) → (word == 0) ≡ true → nat_lt ((word + 128) % 4294967296) 256 ≡ true
zero_is_small word h =
    let zero : word ≡ 0 = grind (arith, nat_tests, h) in
    rw zero refl

by_small : (base low word : ℕ) (v : ℤ) (small : Bool) → nat_lt ((word + 128) % 4294967296) 256 ≡ small → low ≡ base % 8 → FitsSigned w32 v → word ≡ cast_unsigned w32 v → Displaced base v (from_bool (small && (not (word == 0) || (low == 5))) + 2 * from_bool (not small)) (byte_actions (option_when (small && (not (word == 0) || (low == 5))) (word % 256)) ++ long_actions (option_when (not small) word))
by_small base low word v true is el f e =
    let h : (word + 128) % 4294967296 < 256 = grind (arith, nat_tests, is) in
    short base low word v el f e h (true && (not (word == 0) || (low == 5))) true (sym is) refl
by_small base low word v false is el f e =
    let h : 256 ≤ (word + 128) % 4294967296 = grind (arith, nat_tests, is) in
    long base low word v el f e h (false && (not (word == 0) || (low == 5))) false (sym is) refl

pub displaced : (base low word : ℕ) (v : ℤ) → low ≡ base % 8 → FitsSigned w32 v → word ≡ cast_unsigned w32 v → Displaced base v (mode_of (width_of_word word) low) (byte_actions (option_when (mode_of (width_of_word word) low == 1) (word % 256)) ++ long_actions (option_when (width_of_word word == 2) word))
displaced base low word v el f e =
    let m = moded (word == 0) (nat_lt ((word + 128) % 4294967296) 256) (low == 5) (zero_is_small word) in
    rw (m.byte, m.four, m.mode) (by_small base low word v (nat_lt ((word + 128) % 4294967296) 256) refl el f e)

-- ModR/M, SIB and a displacement of one byte as one word

abbrev pub word_of : List ℕ → ℕ → ℕ → ℕ → ℕ
word_of entry reg sib byte = slice_index_or entry 0 0 + reg * 8 + sib * slice_index_or entry 1 0 + byte * slice_index_or entry 2 0

pub record Front (entry : List ℕ) (reg sib byte : ℕ) (front : List ℕ) : Type 0 where
  pub fits : word_of entry reg sib byte < 16777216
  pub below : word_of entry reg sib byte < 256 ^ slice_index_or entry 3 0
  pub bytes : take (slice_index_or entry 3 0) (to_le_bytes w64 (word_of entry reg sib byte)) ≡ front
  pub few : slice_index_or entry 3 0 ≤ 3

one_of : (n a : ℕ) → n ≡ a → a < 256 → take 1 (to_le_bytes w64 n) ≡ a ∷ []
one_of n a e h =
    let e0 : n % 256 ≡ a = omega (arith, e, h) in
    rw e0 refl

two_of : (n a b : ℕ) → n ≡ a + b * 256 → a < 256 → b < 256 → take 2 (to_le_bytes w64 n) ≡ a ∷ b ∷ []
two_of n a b e h k =
    let e0 : n % 256 ≡ a = omega (arith, e, h, k) in
    let e1 : n / 256 % 256 ≡ b = omega (arith, e, h, k) in
    rw (e0, e1) refl

three_of : (n a b c : ℕ) → n ≡ a + b * 256 + c * 65536 → a < 256 → b < 256 → c < 256 → take 3 (to_le_bytes w64 n) ≡ a ∷ b ∷ c ∷ []
three_of n a b c e h k l =
    let e0 : n % 256 ≡ a = omega (arith, e, h, k, l) in
    let e1 : n / 256 % 256 ≡ b = omega (arith, e, h, k, l) in
    let e2 : n / 65536 % 256 ≡ c = omega (arith, e, h, k, l) in
    rw (e0, e1, e2) refl

pub front_is : (has_sib : Bool) (mode rm reg sib byte : ℕ) → mode < 3 → rm < 8 → reg < 8 → sib < 256 → byte < 256 → Front (memory_entry has_sib mode rm) reg sib byte (memory_front has_sib mode rm reg sib byte)
front_is false zero rm reg sib byte hm hr hg hs hb = record { fits = omega arith; below = omega arith; bytes = one_of _ (0 * 64 + reg * 8 + rm) (omega arith) (omega arith); few = omega arith }
front_is false (suc zero) rm reg sib byte hm hr hg hs hb = record { fits = omega arith; below = omega arith; bytes = two_of _ (1 * 64 + reg * 8 + rm) byte (omega arith) (omega arith) hb; few = omega arith }
front_is false (suc (suc zero)) rm reg sib byte hm hr hg hs hb = record { fits = omega arith; below = omega arith; bytes = one_of _ (2 * 64 + reg * 8 + rm) (omega arith) (omega arith); few = omega arith }
front_is true zero rm reg sib byte hm hr hg hs hb = record { fits = omega arith; below = omega arith; bytes = two_of _ (0 * 64 + reg * 8 + rm) sib (omega arith) (omega arith) hs; few = omega arith }
front_is true (suc zero) rm reg sib byte hm hr hg hs hb = record { fits = omega arith; below = omega arith; bytes = three_of _ (1 * 64 + reg * 8 + rm) sib byte (omega arith) (omega arith) hs hb; few = omega arith }
front_is true (suc (suc zero)) rm reg sib byte hm hr hg hs hb = record { fits = omega arith; below = omega arith; bytes = two_of _ (2 * 64 + reg * 8 + rm) sib (omega arith) (omega arith) hs; few = omega arith }
front_is has_sib (suc (suc (suc mode))) rm reg sib byte hm hr hg hs hb = absurd (omega (arith, hm))

-- what is put are bytes

four_bytes : (n : ℕ) → IsBytes (to_le_bytes w32 n)
four_bytes n = more_bytes (n % 256) (n / 256 % 256 ∷ n / 65536 % 256 ∷ n / 16777216 % 256 ∷ []) (omega arith) (more_bytes (n / 256 % 256) (n / 65536 % 256 ∷ n / 16777216 % 256 ∷ []) (omega arith) (more_bytes (n / 65536 % 256) (n / 16777216 % 256 ∷ []) (omega arith) (one_byte (n / 16777216 % 256) (omega arith))))

abbrev code_with : ℕ → Bool → ℕ → Bool → ℕ → Bool → ℕ → TailCode
code_with m s sib d byte l word = record { modrm = m; sib = option_when s sib; byte = option_when d byte; target = std.None; long = option_when l word }

long_bytes : (l : Bool) (word : ℕ) → IsBytes (all_bytes (long_actions (option_when l word)))
long_bytes true word = four_bytes word
long_bytes false word = no_bytes

byte_bytes : (d : Bool) (byte : ℕ) (l : Bool) (word : ℕ) → byte < 256 → IsBytes (all_bytes (byte_actions (option_when d byte) ++ long_actions (option_when l word)))
byte_bytes true byte l word h = more_bytes byte (all_bytes (long_actions (option_when l word))) h (long_bytes l word)
byte_bytes false byte l word h = long_bytes l word

code_bytes : (m : ℕ) (s : Bool) (sib : ℕ) (d : Bool) (byte : ℕ) (l : Bool) (word : ℕ) → m < 256 → sib < 256 → byte < 256 → IsBytes (all_bytes (address.tail_actions (code_with m s sib d byte l word)))
code_bytes m true sib d byte l word hm hs hb = more_bytes m (sib ∷ all_bytes (byte_actions (option_when d byte) ++ long_actions (option_when l word))) hm (more_bytes sib (all_bytes (byte_actions (option_when d byte) ++ long_actions (option_when l word))) hs (byte_bytes d byte l word hb))
code_bytes m false sib d byte l word hm hs hb = more_bytes m (all_bytes (byte_actions (option_when d byte) ++ long_actions (option_when l word))) hm (byte_bytes d byte l word hb)

-- the tail of a base, an index and a displacement
pub record Done (reg base index : ℕ) (named : Option (ℕ × ℕ)) (v : ℤ) (acts : List Action) : Type 0 where
  pub tail : TailOf (index / 8) (base / 8) 1 reg (Mem (Some base) named v) (λ at. []) acts
  pub bytes : IsBytes (all_bytes acts)
  pub length : length (all_bytes acts) ≡ least_tail (Mem (Some base) named v)

mode_below : (zero five : Bool) (width : ℕ) → width < 3 → (if zero then from_bool five else width) < 3
mode_below true true width h = omega arith
mode_below true false width h = omega arith
mode_below false five width h = h

width_below : (zero small : Bool) → width_with zero small < 3
width_below true true = omega arith
width_below true false = omega arith
width_below false true = omega arith
width_below false false = omega arith

field_below : (s : Bool) (low rm : ℕ) → rm ≡ (if s then 4 else low) → low < 8 → rm < 8
field_below true low rm e h = omega arith
field_below false low rm e h = omega arith

pub done : (reg base index scale word sib rm : ℕ) (v : ℤ) (s four : Bool) → (index == 4) ≡ four → (not four || (base % 8 == 4)) ≡ s → reg < 8 → scale < 4 → FitsSigned w32 v → word ≡ cast_unsigned w32 v → sib ≡ scale * 64 + index % 8 * 8 + base % 8 → rm ≡ (if s then 4 else base % 8) → (front : List ℕ) → front ≡ memory_front s (mode_of (width_of_word word) (base % 8)) rm reg sib (word % 256)
    → Done reg base index (if four then std.None else Some (index, 2 ^ scale)) v (puts front ++ long_actions (option_when (width_of_word word == 2) word))
done reg base index scale word sib rm v s four i e hr hc f w es er front ef =
    let mode = mode_of (width_of_word word) (base % 8) in
    let m = mode * 64 + reg * 8 + rm in
    let small : mode < 3 = mode_below (width_of_word word == 0) (base % 8 == 5) (width_of_word word) (width_below (word == 0) (nat_lt ((word + 128) % 4294967296) 256)) in
    let rm_small : rm < 8 = field_below s (base % 8) rm er (omega arith) in
    let code : TailCode = code_with m s sib (mode == 1) (word % 256) (width_of_word word == 2) word in
    let same : puts front ++ long_actions (option_when (width_of_word word == 2) word) ≡ address.tail_actions code = tail_puts code front ef in
    let d = displaced base (base % 8) word v refl f w in
    let t = tailed reg base index scale mode rm m sib (base % 8) v _ refl hr d refl (rw (i, e) er) es in
    let place : Place = Mem (Some base) (if four then std.None else Some (index, 2 ^ scale)) v in
    rw same (record {
      tail = rw (i, e) at t.tail;
      bytes = code_bytes m s sib (mode == 1) (word % 256) (width_of_word word == 2) word (omega arith) (omega arith) (omega arith);
      length = (rw (i, e) at t.length) ∙ alone_length place;
    })

-- Of a base whose index is 4, where it has none, or another.
module _ (reg base index scale word : ℕ) (has_index : Bool) (sib : ℕ) (v : ℤ) (marked : has_index ≡ not (index == 4)) (hr : reg < 8) (hc : scale < 4) (f : FitsSigned w32 v) (w : word ≡ cast_unsigned w32 v) (es : sib ≡ scale * 64 + index % 8 * 8 + base % 8) where
  abbrev has_sib : Bool
  has_sib = has_index || (base % 8 == 4)

  abbrev rm : ℕ
  rm = if has_sib then 4 else base % 8

  pub looked_up_front : Front (base_entry has_index (width_of_word word) (base % 8)) reg sib (word % 256) (memory_front has_sib (mode_of (width_of_word word) (base % 8)) rm reg sib (word % 256))
  looked_up_front =
      let small : mode_of (width_of_word word) (base % 8) < 3 = mode_below (width_of_word word == 0) (base % 8 == 5) (width_of_word word) (width_below (word == 0) (nat_lt ((word + 128) % 4294967296) 256)) in
      front_is has_sib (mode_of (width_of_word word) (base % 8)) rm reg sib (word % 256) small (field_below has_sib (base % 8) rm refl (omega arith)) hr (omega arith) (omega arith)

  pub looked_up : (front : List ℕ) → front ≡ memory_front has_sib (mode_of (width_of_word word) (base % 8)) rm reg sib (word % 256) → Done reg base index (if index == 4 then std.None else Some (index, 2 ^ scale)) v (puts front ++ long_actions (option_when (width_of_word word == 2) word))
  looked_up front e = done reg base index scale word sib rm v has_sib (index == 4) refl (ap (λ (b : Bool). b || (base % 8 == 4)) (sym marked)) hr hc f w es refl front e

pub width_small : (word : ℕ) → width_of_word word < 3
width_small word = width_below (word == 0) (nat_lt ((word + 128) % 4294967296) 256)

-- whether four bytes follow
pub long_is : (word : ℕ) → (width_of_word word == 2) ≡ not (nat_lt ((word + 128) % 4294967296) 256)
long_is word = (moded (word == 0) (nat_lt ((word + 128) % 4294967296) 256) true (zero_is_small word)).four
