use Rattle.std.proofs.Common.{◌≡◌, ℕ, Bool, true, false, refl, arith, bit_or}
use Rattle.std.specs.Prelude.{◌&&◌, nat_lt}
use Rattle.std.specs.Int.Bits.{or_lt}
use Rattle.std.proofs.lemmas.Bool.{lt-ltb, le-ltb, ltb-true, ltb-false}
use Rattle.std.proofs.lemmas.Nat.{le_or_l, le_or_r}

-- Two numbers are below a power of two where what their bits make together is.

pub or_below : (a b : ℕ) → nat_lt (bit_or a b) 16 ≡ (nat_lt a 16 && nat_lt b 16)
or_below a b = by_tests (nat_lt a 16) refl (nat_lt b 16) refl
  where
    by_tests : (p : Bool) → nat_lt a 16 ≡ p → (q : Bool) → nat_lt b 16 ≡ q → nat_lt (bit_or a b) 16 ≡ (p && q)
    by_tests true e true h = lt-ltb (bit_or a b) 16 (or_lt 4 a b (ltb-true a 16 e) (ltb-true b 16 h))
    by_tests true e false h = le-ltb (bit_or a b) 16 (omega (arith, le_or_r a b, ltb-false b 16 h))
    by_tests false e q h = le-ltb (bit_or a b) 16 (omega (arith, le_or_l a b, ltb-false a 16 e))
