use Rattle.std.proofs.Common.{◌≡◌, ◌≢◌, ℕ, zero, suc, ◌+◌, ◌-◌, ◌*◌, ◌<◌, ◌≤◌, arith, List, [], ◌∷◌, refl, ap, sym, ◌∙◌, Option, Some, None, Fits, w8, slice_index, take, drop, length, ℤ, pos, ◌*ℤ◌}
use Rattle.std.proofs.lemmas.Int.{ints, to_z-of_z}
use Rattle.std.specs.Int.{cast_signed, cast_unsigned, w32}
use Rattle.std.specs.Int.RustNames.{FitsSigned}
use Rattle.cax64_machine_code.specs.Fields.{s8}
use Rattle.std.specs.Prelude.{option_map, option_and_then}
use Rattle.cax64_machine_code.specs.Fields.{number_at}
use Rattle.cax64_table.specs.Cursor.{next_byte}

some_same : {A : Type 0} (a b : A) → ◌≡◌ {A = Option A} (Some a) (Some b) → a ≡ b
some_same a b e = cc

-- the parts of what is read
pub parts_same : {A B : Type 0} (a c : A) (b d : B) → ◌≡◌ {A = Option (A × B)} (Some (a, b)) (Some (c, d)) → (a ≡ c) × (b ≡ d)
parts_same {A} {B} a c b d e = let h : ◌≡◌ {A = A × B} (a, b) (c, d) = some_same _ _ e in (ap (λ (z : A × B). z.0) h, ap (λ (z : A × B). z.1) h)

-- the first of some bytes is a byte
pub byte_below : (bytes : List ℕ) (byte : ℕ) (rest : List ℕ) → ((i : ℕ) → Fits w8 (slice_index bytes i)) → ◌≡◌ {A = Option (ℕ × List ℕ)} (Some (byte, rest)) (next_byte bytes) → byte < 256
byte_below [] byte rest f h = cc
byte_below (first ∷ bytes) byte rest f h =
    let p = parts_same byte first rest bytes h in
    let g : Fits w8 first = f 0 in
    let b : first < 256 = grind arith in
    rw (p.0) b

-- a number is its lowest byte, and the number in the others

one_less : (n : ℕ) → suc n - 1 ≡ n
one_less n = omega arith

pub number_none : (bytes : List ℕ) → number_at 0 bytes ≡ Some (0, bytes)
unfolding number_at
number_none bytes = refl

pub number_step : (size : ℕ) (bytes : List ℕ) → size ≢ 0 → number_at size bytes ≡ option_and_then (λ lowest. option_map (λ higher. (lowest.0 + 256 * higher.0, higher.1)) (number_at (size - 1) lowest.1)) (next_byte bytes)
unfolding number_at
number_step zero bytes h = absurd (h refl)
number_step (suc size) [] h = refl
number_step (suc size) (byte ∷ bytes) h = rw (one_less size) refl

pub nothing_left : (bytes : List ℕ) → None ≡ next_byte bytes → bytes ≡ []
nothing_left [] h = refl
nothing_left (byte ∷ bytes) h = cc

one_byte : (byte : ℕ) → byte + 256 * 0 ≡ byte
one_byte byte = omega arith

pub number_one : (bytes : List ℕ) → number_at 1 bytes ≡ next_byte bytes
unfolding number_at
number_one [] = refl
number_one (byte ∷ bytes) = rw (one_byte byte) refl

-- a byte as a signed displacement
byte_signed : (n : ℕ) → n < 256 → cast_signed w8 n ≡ s8 n
byte_signed n h = grind (arith, ints)

byte_fits : (n : ℕ) → n < 256 → FitsSigned w8 (s8 n)
byte_fits n h = grind (arith, ints)

byte_fits_wide : (n : ℕ) → n < 256 → FitsSigned w32 (s8 n)
byte_fits_wide n h = grind (arith, ints)

times_one : (z : ℤ) → z *ℤ pos 1 ≡ z
times_one z = grind (arith, ints)

pub widened : (n : ℕ) (z w : ℤ) → n < 256 → z ≡ cast_signed w8 n → w ≡ cast_signed w8 (cast_unsigned w8 z) → cast_signed w32 (cast_unsigned w32 w) ≡ s8 n *ℤ pos 1
widened n z w h e f =
    let first : z ≡ s8 n = e ∙ byte_signed n h in
    let second : w ≡ s8 n = f ∙ ap (λ y. cast_signed w8 (cast_unsigned w8 y)) first ∙ to_z-of_z w8 (s8 n) (byte_fits n h) in
    ap (λ y. cast_signed w32 (cast_unsigned w32 y)) second ∙ to_z-of_z w32 (s8 n) (byte_fits_wide n h) ∙ sym (times_one (s8 n))

-- a number in two and in four bytes, of which all are there or not

all_taken : (bytes : List ℕ) → take (length bytes) bytes ≡ bytes
all_taken [] = refl
all_taken (byte ∷ bytes) = ap (λ z. byte ∷ z) (all_taken bytes)

two_less : (n : ℕ) → suc (suc n) - 2 ≡ n
two_less n = omega arith

four_less : (n : ℕ) → suc (suc (suc (suc n))) - 4 ≡ n
four_less n = omega arith

pub two_missing : (bytes : List ℕ) → length bytes < 2 → ◌≡◌ {A = Option (ℕ × List ℕ)} None (number_at 2 bytes)
unfolding number_at
two_missing [] h = refl
two_missing (a ∷ []) h = refl
two_missing (a ∷ b ∷ rest) h = absurd (omega arith)

pub two_stand : (bytes : List ℕ) → 2 ≤ length bytes → ◌≡◌ {A = Option (ℕ × List ℕ)} (Some (slice_index bytes 0 + 256 * slice_index bytes 1, take (length bytes - 2) (drop 2 bytes))) (number_at 2 bytes)
unfolding number_at
two_stand [] h = absurd (omega arith)
two_stand (a ∷ []) h = absurd (omega arith)
two_stand (a ∷ b ∷ rest) h = rw (two_less (length rest), all_taken rest, one_byte b) refl

pub four_missing : (bytes : List ℕ) → length bytes < 4 → ◌≡◌ {A = Option (ℕ × List ℕ)} None (number_at 4 bytes)
unfolding number_at
four_missing [] h = refl
four_missing (a ∷ []) h = refl
four_missing (a ∷ b ∷ []) h = refl
four_missing (a ∷ b ∷ c ∷ []) h = refl
four_missing (a ∷ b ∷ c ∷ d ∷ rest) h = absurd (omega arith)

pub four_stand : (bytes : List ℕ) → 4 ≤ length bytes → ◌≡◌ {A = Option (ℕ × List ℕ)} (Some (slice_index bytes 0 + 256 * (slice_index bytes 1 + 256 * (slice_index bytes 2 + 256 * slice_index bytes 3)), take (length bytes - 4) (drop 4 bytes))) (number_at 4 bytes)
unfolding number_at
four_stand [] h = absurd (omega arith)
four_stand (a ∷ []) h = absurd (omega arith)
four_stand (a ∷ b ∷ []) h = absurd (omega arith)
four_stand (a ∷ b ∷ c ∷ []) h = absurd (omega arith)
four_stand (a ∷ b ∷ c ∷ d ∷ rest) h = rw (four_less (length rest), all_taken rest, one_byte d) refl

pub three_not_none : ◌≢◌ {A = ℕ} 3 0
three_not_none h = absurd (omega arith)
