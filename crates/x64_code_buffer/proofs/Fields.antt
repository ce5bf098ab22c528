use Rattle.std.proofs.Common.{◌≡◌, ◌⊎◌, inl, inr, ℕ, ◌+◌, ◌*◌, ◌^◌, ◌<◌, ◌≤◌, arith, refl, ◌∙◌, ap, sym, List, [], ◌∷◌, Option, Some, None, length, drop, get_or, ℤ}
use Rattle.std.proofs.lemmas.Bool.{cases_lt}
use Rattle.std.proofs.lemmas.Int.{ints, to_z-of_z}
use Rattle.std.proofs.lemmas.List.{drop_more, length-drop}
use Rattle.std.specs.Int.{cast_signed, cast_unsigned, w32}
use Rattle.std.specs.Int.RustNames.{FitsSigned}
use Rattle.cax64_machine_code.specs.Fields.{number_at, s32}
use Rattle.x64_code_buffer.specs.Field.{stored_at}

-- Four bytes.

pub number_of_four : (a b c d : ℕ) (rest : List ℕ) → number_at 4 (a ∷ b ∷ c ∷ d ∷ rest) ≡ Some (a + 256 * (b + 256 * (c + 256 * (d + 256 * 0))), rest)
unfolding number_at
number_of_four a b c d rest = refl

number_of_less : (bytes : List ℕ) → length bytes < 4 → number_at 4 bytes ≡ None
unfolding number_at
number_of_less [] h = refl
number_of_less (a ∷ []) h = refl
number_of_less (a ∷ b ∷ []) h = refl
number_of_less (a ∷ b ∷ c ∷ []) h = refl
number_of_less (a ∷ b ∷ c ∷ d ∷ rest) h = absurd (omega arith)

-- the four bytes at a position, and what follows them
pub four_at : (bytes : List ℕ) (at : ℕ) → at + 4 ≤ length bytes → drop at bytes ≡ get_or bytes at 0 ∷ get_or bytes (at + 1) 0 ∷ get_or bytes (at + 2) 0 ∷ get_or bytes (at + 3) 0 ∷ drop (at + 4) bytes
four_at bytes at h =
    let one : at + 1 + 1 ≡ at + 2 = omega arith in
    let two : at + 2 + 1 ≡ at + 3 = omega arith in
    let three : at + 3 + 1 ≡ at + 4 = omega arith in
    let a : drop at bytes ≡ get_or bytes at 0 ∷ drop (at + 1) bytes = drop_more bytes at 0 (omega arith) in
    let b : drop (at + 1) bytes ≡ get_or bytes (at + 1) 0 ∷ drop (at + 2) bytes = rw one at (drop_more bytes (at + 1) 0 (omega arith)) in
    let c : drop (at + 2) bytes ≡ get_or bytes (at + 2) 0 ∷ drop (at + 3) bytes = rw two at (drop_more bytes (at + 2) 0 (omega arith)) in
    let d : drop (at + 3) bytes ≡ get_or bytes (at + 3) 0 ∷ drop (at + 4) bytes = rw three at (drop_more bytes (at + 3) 0 (omega arith)) in
    cc

-- what is stored where four bytes are there
pub stored_is : (bytes : List ℕ) (at : ℕ) → at + 4 ≤ length bytes → stored_at bytes at ≡ Some (s32 (get_or bytes at 0 + 256 * (get_or bytes (at + 1) 0 + 256 * (get_or bytes (at + 2) 0 + 256 * (get_or bytes (at + 3) 0 + 256 * 0)))))
stored_is bytes at h =
    rw (four_at bytes at h, number_of_four (get_or bytes at 0) (get_or bytes (at + 1) 0) (get_or bytes (at + 2) 0) (get_or bytes (at + 3) 0) (drop (at + 4) bytes)) refl

-- and where they aren't
pub none_stored : (bytes : List ℕ) (at : ℕ) → length bytes < at + 4 → stored_at bytes at ≡ None
none_stored bytes at h =
    let less : length (drop at bytes) < 4 = omega (arith, length-drop at bytes) in
    rw (number_of_less (drop at bytes) less) refl

signed_is : (n : ℕ) → n < 2 ^ 32 → cast_signed w32 n ≡ s32 n
signed_is n h = grind (arith, ints)

signed_fits : (n : ℕ) → n < 2 ^ 32 → FitsSigned w32 (s32 n)
signed_fits n h = grind (arith, ints)

pub signed_again : (n : ℕ) (z : ℤ) → n < 2 ^ 32 → z ≡ cast_signed w32 n → cast_signed w32 (cast_unsigned w32 z) ≡ s32 n
signed_again n z h e = ap (λ y. cast_signed w32 (cast_unsigned w32 y)) (e ∙ signed_is n h) ∙ to_z-of_z w32 (s32 n) (signed_fits n h)

pub in_places : (a b c d : ℕ) → a + b * 256 + c * 65536 + d * 16777216 ≡ a + 256 * (b + 256 * (c + 256 * (d + 256 * 0)))
in_places a b c d = omega arith

pub four_fit : (a b c d : ℕ) → a < 256 → b < 256 → c < 256 → d < 256 → a + 256 * (b + 256 * (c + 256 * (d + 256 * 0))) < 2 ^ 32
four_fit a b c d ha hb hc hd = omega arith

stored_there : (bytes : List ℕ) (at : ℕ) (z : ℤ) → (length bytes < at + 4) ⊎ (at + 4 ≤ length bytes) → stored_at bytes at ≡ Some z → at + 4 ≤ length bytes
stored_there bytes at z (inl h) e = let n : ◌≡◌ {A = Option ℤ} None (Some z) = sym (none_stored bytes at h) ∙ e in cc
stored_there bytes at z (inr h) e = h

-- what is stored is there
pub all_there : (bytes : List ℕ) (at : ℕ) (z : ℤ) → stored_at bytes at ≡ Some z → at + 4 ≤ length bytes
all_there bytes at z e = stored_there bytes at z (cases_lt (length bytes) (at + 4)) e
