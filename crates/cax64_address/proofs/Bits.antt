use Rattle.std.proofs.Common.{◌≡◌, ℕ, ◌+◌, ◌*◌, ◌%◌, ◌^◌, ◌<◌, arith, refl}
use Rattle.std.specs.Prelude.{bit_or}
use Rattle.std.proofs.lemmas.Nat.{or_shifted}

-- three fields joined by bits are their sum by places
pub joined : (m g r : ℕ) → m < 4 → g < 8 → r < 8 → bit_or (bit_or (m * 64 % 256) (g * 8 % 256)) r ≡ m * 64 + g * 8 + r
joined m g r hm hg hr =
    let e1 : m * 64 % 256 ≡ m * 64 = omega arith in
    let e2 : g * 8 % 256 ≡ g * 8 = omega arith in
    let b : g * 8 < 2 ^ 6 = omega arith in
    let e4 : m * 64 + g * 8 ≡ (m * 8 + g) * 2 ^ 3 = omega arith in
    rw (e1, e2, or_shifted m 6 (g * 8) b, e4, or_shifted (m * 8 + g) 3 r hr) refl
