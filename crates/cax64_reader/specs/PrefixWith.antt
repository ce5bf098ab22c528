use Rattle.std.specs.Prelude.{◌≡◌, ℕ, Bool}
use Rattle.std.specs.Int.{from_bool}
use Rattle.cax64_machine_code.specs.Prefix.{Prefix, has_rex, r_of, x_of, b_of, vvvv_of}
use Rattle.cax64_table.specs.PrefixNumbers.{AreNumbers}
use Rattle.cax64_table.specs.declared.prefix.PrefixNumbers.{PrefixNumbers}

-- what is kept of a prefix is what the definitions say of it
pub record AreOf (numbers : PrefixNumbers) (rex r x b : Bool) (vvvv : ℕ) (prefix : Prefix) : Type 0 where
  pub numbers_are : AreNumbers numbers prefix
  pub rex_is : rex ≡ has_rex prefix
  pub r_is : from_bool r ≡ r_of prefix
  pub x_is : from_bool x ≡ x_of prefix
  pub b_is : from_bool b ≡ b_of prefix
  pub vvvv_is : vvvv ≡ vvvv_of prefix
