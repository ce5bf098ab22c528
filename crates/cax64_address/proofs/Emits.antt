use Rattle.std.proofs.Common.{◌≡◌, ◌≢◌, ℕ, ◌+◌, ◌*◌, ◌/◌, ◌%◌, ◌^◌, ◌<◌, ◌≤◌, arith, refl, ◌∙◌, ap, sym, List, [], ◌∷◌, ◌++◌, ℤ, pos, Some, Bool, true, false, length, Option}
use Rattle.std.specs.Prelude as std
use Rattle.std.specs.Prelude.{◌==◌, ◌&&◌, if◌then◌else◌, ◌-ℤ◌, ◌*ℤ◌}
use Rattle.std.specs.Int.{cast_unsigned, cast_signed, w8, w32, to_le_bytes}
use Rattle.std.specs.Int.RustNames.{FitsSigned}
use Rattle.std.proofs.lemmas.Bool.Decides.{nat_tests}
use Rattle.std.proofs.lemmas.Int.{ints}
use Rattle.std.proofs.lemmas.Option.{some_pair_parts}
use Rattle.cax64_machine_code.specs.Tail.{disp_at, disp8_at, disp32_at}
use Rattle.cax64_machine_code.specs.Fields.{IsBytes, s8, number_at}
use Rattle.cax64_machine_code.specs.declared.reading.Place.TheVariants.{Mem, Rip}
use Rattle.cax64_machine_code.proofs.Tails.{base_back, sib_back, relative_back}
use Rattle.cax64_machine_code.proofs.Bytes.{four_back, s32_back}
use Rattle.cax64_machine_code.proofs.Forms.{MemForm, mem_form, rip_length, disp32_length, first_byte}
use Rattle.cax64_sink.specs.Run.{all_bytes, all_notices}
use Rattle.cax64_sink.specs.Call.{put, target}
use Rattle.cax64_sink.specs.Ends.{EndsInBytes}
use Rattle.cax64_sink.specs.declared.Notice.TheVariants.{Target}
use Rattle.cax64_sink.specs.declared.DeferredTarget.{DeferredTarget}
use Rattle.cax64_address.specs.Displacement.{GivesBack, IsClassOf, mode_of, disp_actions, disp_byte, disp_long, forced}
use Rattle.cax64_address.specs.Emitted.{TailOf, byte_actions}
use Rattle.cax64_sink.specs.Rest.{long_actions}
use Rattle.cax64_address.specs.declared.disp.Disp.{Disp}
use Rattle.cax64_address.specs.declared.disp.Disp.TheVariants.{None, Imm8, Imm32}
use Rattle.cax64_address.proofs.Classes.{byte_class}

split : (d : Disp) → byte_actions (disp_byte d) ++ long_actions (disp_long d) ≡ disp_actions d
split None = refl
split (Imm8 v) = refl
split (Imm32 v) = refl

-- the byte and the four bytes of a class are what is put for it
pub parts : {byte long : std.Option ℕ} (d : Disp) → byte ≡ disp_byte d → long ≡ disp_long d → byte_actions byte ++ long_actions long ≡ disp_actions d
parts d byte long = rw (byte, long) (split d)

-- a class tells nothing
quiet : (d : Disp) (at : ℕ) → all_notices (disp_actions d) at ≡ []
quiet None at = refl
quiet (Imm8 v) at = refl
quiet (Imm32 v) at = refl

pub mode_below : (d : Disp) → mode_of d < 3
mode_below None = omega arith
mode_below (Imm8 v) = omega arith
mode_below (Imm32 v) = omega arith

pub forced_mode : (d : Disp) → mode_of (forced d) ≢ 0
forced_mode None e = omega arith
forced_mode (Imm8 v) e = omega arith
forced_mode (Imm32 v) e = omega arith

-- the number of bytes of a class
abbrev pub disp_length : Disp → ℕ
disp_length d = length (all_bytes (disp_actions d))

four_at_most : (d : Disp) → disp_length d ≤ 4
four_at_most None = omega arith
four_at_most (Imm8 v) = omega arith
four_at_most (Imm32 v) = omega arith

ends_with : (d : Disp) (byte : ℕ) → EndsInBytes (put (byte ∷ []) ∷ disp_actions d)
ends_with None byte = omega arith
ends_with (Imm8 v) byte = omega arith
ends_with (Imm32 v) byte = omega arith

ends_behind : (d : Disp) (first byte : ℕ) → EndsInBytes (put (first ∷ []) ∷ put (byte ∷ []) ∷ disp_actions d)
ends_behind None first byte = omega arith
ends_behind (Imm8 v) first byte = omega arith
ends_behind (Imm32 v) first byte = omega arith

from_none : (n : ℕ) (v : ℤ) → GivesBack n v None → pos 0 ≡ v
unfolding disp_at
from_none n v h = let p = some_pair_parts (pos 0) v [] [] (h.reads []) in p.0

-- forcing a byte of 0 keeps what is read
pub forced_back : (n : ℕ) (v : ℤ) (d : Disp) → GivesBack n v d → GivesBack n v (forced d)
forced_back n v (Imm8 z) h = h
forced_back n v (Imm32 z) h = h
forced_back n v None h =
    let e : pos 0 ≡ v = from_none n v h in
    let z : (pos 0 *ℤ pos n) ≡ pos 0 = omega (arith, ints) in
    byte_class n v (pos 0) (omega (arith, ints)) (z ∙ e)

-- A displacement field that reads as the same value is no shorter than the class.

byte_fits : (c : ℕ) → c < 256 → FitsSigned w8 (s8 c)
byte_fits c h = grind (arith, ints)

one_byte : (n : ℕ) (v : ℤ) (field : List ℕ) → disp8_at n field ≡ Some (v, []) → IsBytes field → (c : ℕ) × (c < 256) × (s8 c *ℤ pos n ≡ v) × (length field ≡ 1)
unfolding number_at
one_byte n v [] h hb = cc
one_byte n v (c ∷ []) h hb =
    let p = some_pair_parts (s8 (c + 256 * 0) *ℤ pos n) v [] [] h in
    let same : c + 256 * 0 ≡ c = omega arith in
    (c, first_byte c [] hb, rw same at p.0, refl)
one_byte n v (c ∷ d ∷ field) h hb =
    let p = some_pair_parts (s8 (c + 256 * 0) *ℤ pos n) v (d ∷ field) [] h in cc p.1

none_then : (v : ℤ) (field : List ℕ) → ◌≡◌ {A = Option (ℤ × List ℕ)} (Some (pos 0, field)) (Some (v, [])) → (v ≡ pos 0) × (length field ≡ 0)
none_then v field h =
    let p = some_pair_parts (pos 0) v field [] h in
    (sym p.0, ap length p.1)

class_least : (n : ℕ) (v : ℤ) (d : Disp) (field : List ℕ) (t0 t1 : Bool) → IsClassOf n v d → IsBytes field → (if t0 then Some (pos 0, field) else (if t1 then disp8_at n field else disp32_at field)) ≡ Some (v, []) → disp_length d ≤ length field
class_least n v None field t0 t1 k hb h = omega arith
class_least n v (Imm8 q) field true t1 k hb h = absurd (k.0 (none_then v field h).0)
class_least n v (Imm8 q) field false true k hb h = let o = one_byte n v field h hb in omega (arith, o.3)
class_least n v (Imm8 q) field false false k hb h = let four = disp32_length field (v, []) h in omega arith
class_least n v (Imm32 w) field true t1 k hb h = absurd (k.0 (none_then v field h).0)
class_least n v (Imm32 w) field false true k hb h = let o = one_byte n v field h hb in absurd (k.2 (s8 o.0) (byte_fits o.0 o.1) o.2)
class_least n v (Imm32 w) field false false k hb h = let four = disp32_length field (v, []) h in omega arith

forced_least : (n : ℕ) (v : ℤ) (d : Disp) (field : List ℕ) (t1 : Bool) → IsClassOf n v d → IsBytes field → (if t1 then disp8_at n field else disp32_at field) ≡ Some (v, []) → disp_length (forced d) ≤ length field
forced_least n v None field true k hb h = let o = one_byte n v field h hb in omega (arith, o.3)
forced_least n v None field false k hb h = let four = disp32_length field (v, []) h in omega arith
forced_least n v (Imm8 q) field t1 k hb h = class_least n v (Imm8 q) field false t1 k hb h
forced_least n v (Imm32 w) field t1 k hb h = class_least n v (Imm32 w) field false t1 k hb h

pub differ : (a b : ℕ) → a ≢ b → (a == b) ≡ false
differ a b h = grind (arith, nat_tests)

-- what is put for a class where the base's low bits are these
pub record Chosen (n base : ℕ) (v : ℤ) (d put_d : Disp) : Type 0 where
  pub class : IsClassOf n v d
  pub back : GivesBack n v put_d
  pub five : base % 8 ≡ 5 → put_d ≡ forced d
  pub other : base % 8 ≢ 5 → put_d ≡ d

chosen_mode : (n base : ℕ) (v : ℤ) (d e : Disp) → Chosen n base v d e → base % 8 ≡ 5 → mode_of e ≢ 0
chosen_mode n base v d e h five = rw (h.five five) (forced_mode d)

by_low : (x b n base : ℕ) (index : std.Option (ℕ × ℕ)) (v : ℤ) (d e : Disp) (u : List ℕ) (five : Bool) → (base % 8 == 5) ≡ five → Chosen n base v d e → (m : MemForm x b n base index v u) → disp_length e ≤ length m.field
unfolding disp_at
by_low x b n base index v d e u true is h m =
    let low : base % 8 ≡ 5 = grind (arith, nat_tests) in
    let not_zero : (m.mode == 0) ≡ false = differ m.mode 0 (m.base_five low) in
    rw (h.five low) (forced_least n v d m.field (m.mode == 1) h.class m.bytes (rw not_zero at m.reads))
by_low x b n base index v d e u false is h m =
    let low : base % 8 ≢ 5 = grind (arith, nat_tests) in
    rw (h.other low) (class_least n v d m.field (m.mode == 0) (m.mode == 1) h.class m.bytes m.reads)

-- the displacement of any string that reads the same is no shorter
field_least : (x b n base : ℕ) (index : std.Option (ℕ × ℕ)) (v : ℤ) (d e : Disp) (u : List ℕ) → Chosen n base v d e → (m : MemForm x b n base index v u) → disp_length e ≤ length m.field
field_least x b n base index v d e u h m = by_low x b n base index v d e u (base % 8 == 5) refl h m

whole : (base : ℕ) → base % 8 + 8 * (base / 8) ≡ base
whole base = omega arith

-- a base and no SIB byte
pub emits_base : (n reg base m : ℕ) (v : ℤ) (d e : Disp) → Chosen n base v d e → reg < 8 → m ≡ mode_of e * 64 + reg * 8 + base % 8 → base % 8 ≢ 4 → TailOf 0 (base / 8) n reg (Mem (Some base) std.None v) (λ at. []) (put (m ∷ []) ∷ disp_actions e)
emits_base n reg base m v d e h hf em h4 = record {
  tail = record {
    reads = λ rest.
        let hl : base % 8 < 8 = omega arith in
        rw em (base_back 0 (base / 8) n (mode_of e) reg (base % 8) (all_bytes (disp_actions e)) rest v hf hl (mode_below e) h4 (chosen_mode n base v d e h) (h.back.reads rest)
        ∙ ap (λ (k : ℕ). Some (record { reg = reg; place = Mem (Some k) std.None v; rest = rest })) (whole base));
  };
  shortest = record {
    least = λ u hb hu.
        let form = mem_form 0 (base / 8) n base std.None v u _ hb refl refl hu in
        omega (arith, field_least 0 (base / 8) n base std.None v d e u h form, form.length_is, form.before_least);
  };
  notices = λ at. quiet e (at + 1);
  ends = ends_with e m;
  most = omega (arith, four_at_most e);
}

-- a base like the stack pointer, and a SIB byte with no index, whose scale says nothing
pub emits_stack : (n reg base scale m sib : ℕ) (v : ℤ) (d e : Disp) → Chosen n base v d e → reg < 8 → m ≡ mode_of e * 64 + reg * 8 + 4 → sib ≡ scale * 64 + 4 * 8 + 4 → base % 8 ≡ 4 → TailOf 0 (base / 8) n reg (Mem (Some base) std.None v) (λ at. []) (put (m ∷ []) ∷ put (sib ∷ []) ∷ disp_actions e)
emits_stack n reg base scale m sib v d e h hf em es h4 = record {
  tail = record {
    reads = λ rest.
        let hl : 4 < 8 = omega arith in
        let same : 4 + 8 * (base / 8) ≡ base = omega arith in
        rw (em, es) (sib_back 0 (base / 8) n (mode_of e) reg scale 4 4 (all_bytes (disp_actions e)) rest v hf hl (mode_below e) hl (λ f. omega arith) (h.back.reads rest)
        ∙ ap (λ (k : ℕ). Some (record { reg = reg; place = Mem (Some k) std.None v; rest = rest })) same);
  };
  shortest = record {
    least = λ u hb hu.
        let form = mem_form 0 (base / 8) n base std.None v u _ hb refl refl hu in
        omega (arith, field_least 0 (base / 8) n base std.None v d e u h form, form.length_is, form.base_four h4);
  };
  notices = λ at. quiet e (at + 1 + 1);
  ends = ends_behind e m sib;
  most = omega (arith, four_at_most e);
}

not_four : (index : ℕ) → index ≢ 4 → ((index % 8 == 4) && (index / 8 == 0)) ≡ false
not_four index h = grind (arith, nat_tests)

-- a base and an index
pub emits_index : (n reg base index scale m sib : ℕ) (v : ℤ) (d e : Disp) → Chosen n base v d e → reg < 8 → index ≢ 4 → m ≡ mode_of e * 64 + reg * 8 + 4 → sib ≡ scale * 64 + index % 8 * 8 + base % 8 → TailOf (index / 8) (base / 8) n reg (Mem (Some base) (Some (index, 2 ^ scale)) v) (λ at. []) (put (m ∷ []) ∷ put (sib ∷ []) ∷ disp_actions e)
emits_index n reg base index scale m sib v d e h hf h4 em es = record {
  tail = record {
    reads = λ rest.
        let hl : base % 8 < 8 = omega arith in
        let hi : index % 8 < 8 = omega arith in
        rw (em, es) (sib_back (index / 8) (base / 8) n (mode_of e) reg scale (index % 8) (base % 8) (all_bytes (disp_actions e)) rest v hf hl (mode_below e) hi (chosen_mode n base v d e h) (h.back.reads rest)
        ∙ rw (not_four index h4, whole base, whole index) refl);
  };
  shortest = record {
    least = λ u hb hu.
        let form = mem_form (index / 8) (base / 8) n base (Some (index, 2 ^ scale)) v u _ hb refl refl hu in
        omega (arith, field_least (index / 8) (base / 8) n base (Some (index, 2 ^ scale)) v d e u h form, form.length_is, form.indexed refl);
  };
  notices = λ at. quiet e (at + 1 + 1);
  ends = ends_behind e m sib;
  most = omega (arith, four_at_most e);
}

-- a relative place
pub emits_relative : (n reg k m word : ℕ) (place : DeferredTarget) → reg < 8 → k < 256 → m ≡ reg * 8 + 5 → word ≡ cast_unsigned w32 (pos 0 -ℤ pos k) → TailOf 0 0 n reg (Rip (pos 0 -ℤ pos k)) (λ at. Target (at + 1) place ∷ []) (put (m ∷ []) ∷ target place ∷ put (to_le_bytes w32 word) ∷ [])
emits_relative n reg k m word place hf hk em ew = record {
  tail = record {
    reads = λ rest.
        let fits : FitsSigned w32 (pos 0 -ℤ pos k) = omega (arith, ints) in
        let small : word < 2 ^ 32 = omega (arith, ints) in
        let back : disp32_at (to_le_bytes w32 word ++ rest) ≡ Some (pos 0 -ℤ pos k, rest) = rw (four_back word rest small, ew, s32_back (pos 0 -ℤ pos k) fits) refl in
        let e : m ≡ 0 * 64 + reg * 8 + 5 = omega arith in
        rw e (relative_back 0 0 n reg (to_le_bytes w32 word) rest (pos 0 -ℤ pos k) hf back);
  };
  shortest = record { least = λ u hb hu. rip_length 0 0 n (pos 0 -ℤ pos k) u _ refl refl hu };
  notices = λ at. refl;
  ends = omega arith;
  most = omega arith;
}

-- a small number negated
pub negated : (k word : ℕ) (from : ℤ) → k < 256 → from ≡ pos k → word ≡ cast_unsigned w32 (cast_signed w32 (cast_unsigned w32 (pos 0 -ℤ cast_signed w32 (cast_unsigned w32 from)))) → word ≡ cast_unsigned w32 (pos 0 -ℤ pos k)
negated k word from hk ef e = omega (arith, ints)

pub chosen_five : (n base : ℕ) (v : ℤ) (d : Disp) → IsClassOf n v d → GivesBack n v d → base % 8 ≡ 5 → Chosen n base v d (forced d)
chosen_five n base v d k b e = record { class = k; back = forced_back n v d b; five = λ _. refl; other = λ f. absurd (f e) }

pub chosen_other : (n base : ℕ) (v : ℤ) (d : Disp) → IsClassOf n v d → GivesBack n v d → base % 8 ≢ 5 → Chosen n base v d d
chosen_other n base v d k b f = record { class = k; back = b; five = λ e. absurd (f e); other = λ _. refl }
