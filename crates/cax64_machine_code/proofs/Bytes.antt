use Rattle.std.proofs.Common.{◌≡◌, ℕ, ◌+◌, ◌*◌, ◌/◌, ◌%◌, ◌^◌, ◌<◌, arith, ℤ, List, ◌∷◌, ◌++◌, Some, refl}
use Rattle.std.proofs.lemmas.Int.{ints}
use Rattle.std.specs.Int.{cast_unsigned, w8, w16, w32, to_le_bytes}
use Rattle.std.specs.Int.RustNames.{FitsSigned}
use Rattle.cax64_machine_code.specs.Fields.{mod_of, reg_of, rm_of, s8, s32, number_at}

-- the fields of a byte that is put together of three
pub mod_is : (m g r : ℕ) → g < 8 → r < 8 → mod_of (m * 64 + g * 8 + r) ≡ m
mod_is m g r hg hr = omega arith

pub reg_is : (m g r : ℕ) → g < 8 → r < 8 → reg_of (m * 64 + g * 8 + r) ≡ g
reg_is m g r hg hr = omega arith

pub rm_is : (m g r : ℕ) → g < 8 → r < 8 → rm_of (m * 64 + g * 8 + r) ≡ r
rm_is m g r hg hr = omega arith

-- a signed number and its bits
pub s8_back : (v : ℤ) → FitsSigned w8 v → s8 (cast_unsigned w8 v) ≡ v
s8_back v h = grind (arith, ints)

pub s32_back : (v : ℤ) → FitsSigned w32 v → s32 (cast_unsigned w32 v) ≡ v
s32_back v h = grind (arith, ints)

-- the bytes of a number read back, whatever follows
pub one_back : (n : ℕ) (rest : List ℕ) → number_at 1 (n ∷ rest) ≡ Some (n, rest)
unfolding number_at
one_back n rest = let e : n + 256 * 0 ≡ n = omega arith in rw e refl

four_places : (n : ℕ) → n < 2 ^ 32 → n % 256 + 256 * (n / 256 % 256 + 256 * (n / 65536 % 256 + 256 * (n / 16777216 % 256 + 256 * 0))) ≡ n
four_places n h = omega arith

two_places : (n : ℕ) → n < 2 ^ 16 → n % 256 + 256 * (n / 256 % 256 + 256 * 0) ≡ n
two_places n h = omega arith

pub two_back : (n : ℕ) (rest : List ℕ) → n < 2 ^ 16 → number_at 2 (to_le_bytes w16 n ++ rest) ≡ Some (n, rest)
unfolding number_at
two_back n rest h = rw (two_places n h) refl

pub four_back : (n : ℕ) (rest : List ℕ) → n < 2 ^ 32 → number_at 4 (to_le_bytes w32 n ++ rest) ≡ Some (n, rest)
unfolding number_at
four_back n rest h = rw (four_places n h) refl
