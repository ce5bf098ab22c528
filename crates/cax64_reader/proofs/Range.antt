use Rattle.std.proofs.Common.{◌≡◌, ℕ, zero, suc, ◌+◌, ◌*◌, ◌-◌, ◌^◌, ◌<◌, ◌≤◌, Bool, true, false, refl, arith, ℤ, pos, negsuc, ◌-ℤ◌, ◌<ℤ◌, ◌≤ℤ◌}
use Rattle.std.specs.Prelude.{if◌then◌else◌, nat_lt}
use Rattle.std.proofs.lemmas.Bool.Decides.{nat_tests}
use Rattle.std.proofs.lemmas.Int.{ints}
use Rattle.cax64_machine_code.specs.Fields.{signed_of}
use Rattle.cax64_reader.specs.Range.{signed_below}

-- A signed number of so many bytes is in their range.

negative : (half : ℕ) (v : ℤ) → v <ℤ pos 0 → (pos 0 -ℤ pos half) ≤ℤ v → signed_below half v ≡ true
negative half (pos m) a b = absurd (omega (arith, ints, a))
negative half (negsuc m) a b = let k : m < half = omega (arith, ints, b) in grind (arith, nat_tests, k)

below_signed : (half n : ℕ) → n < half + half → signed_below half (if nat_lt n half then pos n else (pos n -ℤ pos (half + half))) ≡ true
below_signed half n h = by_test (nat_lt n half) refl
  where
    by_test : (t : Bool) → nat_lt n half ≡ t → signed_below half (if t then pos n else (pos n -ℤ pos (half + half))) ≡ true
    by_test true e = e
    by_test false e = negative half (pos n -ℤ pos (half + half)) (omega (arith, ints, h)) (let k : half ≤ n = grind (arith, nat_tests, e) in omega (arith, ints, k, h))

pub signed_in_range : (size n : ℕ) → 1 ≤ size → size ≤ 4 → n < 256 ^ size → signed_below (2 ^ (8 * size - 1)) (signed_of size n) ≡ true
signed_in_range zero n l m h = absurd (omega arith)
signed_in_range (suc zero) n l m h = below_signed 128 n h
signed_in_range (suc (suc zero)) n l m h = below_signed 32768 n h
signed_in_range (suc (suc (suc zero))) n l m h = below_signed 8388608 n h
signed_in_range (suc (suc (suc (suc zero)))) n l m h = below_signed 2147483648 n h
signed_in_range (suc (suc (suc (suc (suc size))))) n l m h = absurd (omega arith)
