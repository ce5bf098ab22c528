use Rattle.std.proofs.Common.{◌≡◌, ℕ, ◌<◌, refl, Bool, true, false, None}
use Rattle.std.specs.Int.{from_bool}
use Rattle.cax64_machine_code.specs.Prefix.{legacy_prefix, vex_prefix, is_vex_map}
use Rattle.cax64_machine_code.specs.declared.line.LegacySet.{LegacySet}
use Rattle.cax64_table.specs.PrefixNumbers.{AreNumbers, rex_with, prefix_with}
use Rattle.cax64_table.specs.declared.prefix.PrefixNumbers.{PrefixNumbers}
use Rattle.cax64_table.proofs.Again.{legacy_again, vex_again}
use Rattle.cax64_reader.specs.PrefixWith.{AreOf}

-- What is kept of a prefix beside its numbers.

pub without_rex_are : (numbers : PrefixNumbers) (set : LegacySet) → AreNumbers numbers (legacy_prefix set None) → AreOf numbers false false false false 0 (prefix_with numbers false false false false 0)
without_rex_are numbers set n = rw (legacy_again numbers set false false false false false n) (record {
  numbers_are = n;
  rex_is = refl;
  r_is = refl;
  x_is = refl;
  b_is = refl;
  vvvv_is = refl;
})

pub with_rex_are : (numbers : PrefixNumbers) (set : LegacySet) (w r x b : Bool) → AreNumbers numbers (legacy_prefix set (rex_with true (from_bool w) r x b)) → AreOf numbers true r x b 0 (prefix_with numbers true r x b 0)
with_rex_are numbers set w r x b n = rw (legacy_again numbers set true w r x b n) (record {
  numbers_are = n;
  rex_is = refl;
  r_is = refl;
  x_is = refl;
  b_is = refl;
  vvvv_is = refl;
})

pub with_vex_are : (numbers : PrefixNumbers) (pp map l vvvv : ℕ) (w r x b : Bool) → pp < 4 → is_vex_map map ≡ true → AreNumbers numbers (vex_prefix (record { w = from_bool w; r = from_bool r; x = from_bool x; b = from_bool b; vvvv = vvvv; l = l; pp = pp; map = map })) → AreOf numbers false r x b vvvv (prefix_with numbers false r x b vvvv)
with_vex_are numbers pp map l vvvv w r x b h m n = rw (vex_again numbers pp map l vvvv w r x b h m n) (record {
  numbers_are = n;
  rex_is = refl;
  r_is = refl;
  x_is = refl;
  b_is = refl;
  vvvv_is = refl;
})
