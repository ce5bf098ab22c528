use Rattle.std.proofs.Common.{◌≡◌, ℕ, ◌+◌, ◌*◌, ◌/◌, ◌%◌, ◌<◌, arith, refl, Bool, true, false}
use Rattle.std.proofs.lemmas.Bool.Decides.{nat_tests}
use Rattle.std.specs.Int.{from_bool}
use Rattle.cax64_machine_code.specs.Prefix.{legacy_prefix, vex_prefix, is_vex_map}
use Rattle.cax64_machine_code.specs.declared.line.LegacySet.{LegacySet}
use Rattle.cax64_table.specs.PrefixNumbers.{AreNumbers, map_number, rex_with, prefix_with}
use Rattle.cax64_table.specs.declared.prefix.PrefixNumbers.{PrefixNumbers}
use Rattle.cax64_table.proofs.Sets.{set_again}

-- The prefix of the numbers of a prefix is that prefix.

pub legacy_again : (numbers : PrefixNumbers) (set : LegacySet) (rex w r x b : Bool) → AreNumbers numbers (legacy_prefix set (rex_with rex (from_bool w) r x b)) → prefix_with numbers rex r x b 0 ≡ legacy_prefix set (rex_with rex (from_bool w) r x b)
unfolding prefix_with
legacy_again numbers set true true r x b h = rw (h.are, set_again set) refl
legacy_again numbers set true false r x b h = rw (h.are, set_again set) refl
legacy_again numbers set false w r x b h = rw (h.are, set_again set) refl

pp_is : (pp map : ℕ) → pp < 4 → (pp + 16 * map) % 16 ≡ pp
pp_is pp map h = omega arith

map_is : (pp map : ℕ) → pp < 4 → (pp + 16 * map) / 16 ≡ map
map_is pp map h = omega arith

number_is : (pp map : ℕ) → pp < 4 → is_vex_map map ≡ true → map_number pp map ≡ pp + 16 * map
number_is pp map h m = grind (arith, nat_tests)

pub vex_again : (numbers : PrefixNumbers) (pp map l vvvv : ℕ) (w r x b : Bool) → pp < 4 → is_vex_map map ≡ true → AreNumbers numbers (vex_prefix (record { w = from_bool w; r = from_bool r; x = from_bool x; b = from_bool b; vvvv = vvvv; l = l; pp = pp; map = map })) → prefix_with numbers false r x b vvvv ≡ vex_prefix (record { w = from_bool w; r = from_bool r; x = from_bool x; b = from_bool b; vvvv = vvvv; l = l; pp = pp; map = map })
unfolding prefix_with
vex_again numbers pp map l vvvv true r x b h m n = rw (n.are, number_is pp map h m, pp_is pp map h, map_is pp map h) refl
vex_again numbers pp map l vvvv false r x b h m n = rw (n.are, number_is pp map h m, pp_is pp map h, map_is pp map h) refl
