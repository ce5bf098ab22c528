use Rattle.std.specs.Prelude.{◌≡◌, ℕ, ◌+◌, ◌*◌, ◌/◌, ◌%◌, ◌==◌, ◌&&◌, nat_lt, not, Bool, true, if◌then◌else◌, Option, Some, None}
use Rattle.std.specs.Int.{from_bool}
use Rattle.cax64_machine_code.specs.Prefix.{Prefix, Rex, legacy_prefix, vex_prefix, has_rex, w_of}
use Rattle.cax64_table.specs.LegacyNumber.{set_number, set_of}
use Rattle.cax64_table.specs.declared.prefix.PrefixNumbers.{PrefixNumbers}

-- A prefix as the numbers that are compared with a line's.

-- the number of pp and map, which no set of legacy prefixes has; 63 of those that no prefix has
abbrev pub map_number : ℕ → ℕ → ℕ
map_number pp map = if nat_lt pp 4 && (nat_lt 0 map && nat_lt map 4) then (pp + 16 * map) else 63

abbrev pub numbers_of : Prefix → PrefixNumbers
numbers_of (legacy_prefix set rex) = record {
  low = set_number set;
  high = 1;
  has_high = has_rex (legacy_prefix set rex);
  w = w_of (legacy_prefix set rex) == 1;
}
numbers_of (vex_prefix vex) = record {
  low = map_number vex.pp vex.map;
  high = vex.l;
  has_high = true;
  w = vex.w == 1;
}

-- numbers are those of a prefix, whose W is a bit
pub record AreNumbers (numbers : PrefixNumbers) (prefix : Prefix) : Type 0 where
  pub are : numbers ≡ numbers_of prefix
  pub w_is : from_bool numbers.w ≡ w_of prefix

abbrev pub rex_with : Bool → ℕ → Bool → Bool → Bool → Option Rex
rex_with stands w r x b = if stands then Some (record { w = w; r = from_bool r; x = from_bool x; b = from_bool b }) else None

-- the prefix of these numbers, and of what isn't among them; L counts without a REX byte where it is VEX
unfoldable pub prefix_with : PrefixNumbers → Bool → Bool → Bool → Bool → ℕ → Prefix
prefix_with numbers rex r x b vvvv =
    if numbers.has_high && not rex
    then vex_prefix (record {
      w = from_bool numbers.w;
      r = from_bool r;
      x = from_bool x;
      b = from_bool b;
      vvvv = vvvv;
      l = numbers.high;
      pp = numbers.low % 16;
      map = numbers.low / 16;
    })
    else legacy_prefix (set_of numbers.low) (rex_with rex (from_bool numbers.w) r x b)
