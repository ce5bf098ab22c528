use Rattle.std.proofs.Common.{◌≡◌, ℕ, refl, sym, Bool, true, false, arith}
use Rattle.std.proofs.lemmas.Bool.Decides.{nat_tests}
use Rattle.std.specs.Prelude.{◌==◌}
use Rattle.cax64_machine_code.specs.Line.{same_bool}

-- What the tests of the parts of a prefix tell.

pub equal : (a b : ℕ) → (a == b) ≡ true → a ≡ b
equal a b h = grind (arith, nat_tests)

pub itself : (a : ℕ) → (a == a) ≡ true
itself a = grind (arith, nat_tests)

pub same_are : (a b : Bool) → same_bool a b ≡ true → a ≡ b
same_are true b h = sym h
same_are false true h = cc
same_are false false h = refl
