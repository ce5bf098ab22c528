use Rattle.std.proofs.Common.{◌≡◌, ℕ, ◌+◌, ◌*◌, ◌/◌, ◌%◌, ◌<◌, ◌≤◌, refl, ap, Bool, true, false, arith}
use Rattle.std.proofs.lemmas.Bool.{and_parts, ltb-true}
use Rattle.std.specs.Int.{from_bool}
use Rattle.std.specs.Prelude.{◌==◌, ◌&&◌, ◌||◌, not, nat_lt, if◌then◌else◌}
use Rattle.cax64_machine_code.specs.Line.{field_matches, prefix_matches, same_legacy, vvvv_matches, w_matches}
use Rattle.cax64_machine_code.specs.Prefix.{Prefix, has_rex, legacy_prefix, vex_prefix}
use Rattle.cax64_machine_code.specs.declared.line.Line.{Line}
use Rattle.cax64_machine_code.specs.declared.line.PrefixField.{PrefixField}
use Rattle.cax64_machine_code.specs.declared.line.PrefixField.TheVariants.{LegacyField, VexField}
use Rattle.cax64_machine_code.proofs.Uniqueness.{legacy_same}
use Rattle.cax64_reader.specs.PrefixWith.{AreOf}
use Rattle.cax64_table.specs.LegacyNumber.{set_number, set_of}
use Rattle.cax64_table.specs.PrefixNumbers.{map_number, numbers_of, prefix_with, rex_with}
use Rattle.cax64_table.specs.declared.prefix.PrefixNumbers.{PrefixNumbers}
use Rattle.cax64_table.proofs.PrefixNumbers.{equal, itself}
use Rattle.x64_reader.specs.Others.{others_match}
use Rattle.x64_reader.proofs.Table.{asked_low, is_asked}

-- A prefix matches a line where its low is the one that the line asks for, and W and what the key leaves open match.

-- Of a line that matches, all of this is so.

map_asked : (pp map : ℕ) (t : Bool) → (nat_lt pp 4 && (nat_lt 0 map && nat_lt map 4)) ≡ t → t ≡ true → pp + 16 * map ≡ (if t then (pp + 16 * map) else 63)
map_asked pp map true e h = refl
map_asked pp map false e h = cc

pub low_asked : (field : PrefixField) (p : Prefix) → is_asked field ≡ true → field_matches field p ≡ true → asked_low field ≡ (numbers_of p).low
unfolding asked_low is_asked
low_asked (LegacyField set rex) (legacy_prefix found byte) a h =
    ap set_number (legacy_same set found (and_parts (same_legacy set found) (rex || not (has_rex (legacy_prefix found byte))) h).0)
low_asked (LegacyField set rex) (vex_prefix found) a h = cc
low_asked (VexField pp map l vvvv) (legacy_prefix found byte) a h = cc
low_asked (VexField pp map l vvvv) (vex_prefix found) a h =
    let p = and_parts (found.pp == pp) ((found.map == map) && ((found.l == l) && vvvv_matches vvvv found.vvvv)) h in
    let q = and_parts (found.map == map) ((found.l == l) && vvvv_matches vvvv found.vvvv) p.1 in
    rw (equal found.pp pp p.0, equal found.map map q.0) (map_asked pp map (nat_lt pp 4 && (nat_lt 0 map && nat_lt map 4)) refl a)

pub others_asked : (field : PrefixField) (numbers : PrefixNumbers) (rex : Bool) (vvvv : ℕ) (r x b : Bool) (p : Prefix) → AreOf numbers rex r x b vvvv p → field_matches field p ≡ true → others_match field numbers rex vvvv ≡ true
others_asked (LegacyField set may) numbers rex vvvv r x b (legacy_prefix found byte) h m =
    rw h.rex_is (and_parts (same_legacy set found) (may || not (has_rex (legacy_prefix found byte))) m).1
others_asked (LegacyField set may) numbers rex vvvv r x b (vex_prefix found) h m = cc
others_asked (VexField pp map l stored) numbers rex vvvv r x b (legacy_prefix found byte) h m = cc
others_asked (VexField pp map l stored) numbers rex vvvv r x b (vex_prefix found) h m =
    let p = and_parts (found.pp == pp) ((found.map == map) && ((found.l == l) && vvvv_matches stored found.vvvv)) m in
    let q = and_parts (found.map == map) ((found.l == l) && vvvv_matches stored found.vvvv) p.1 in
    let s = and_parts (found.l == l) (vvvv_matches stored found.vvvv) q.1 in
    rw (h.numbers_are.are, h.vvvv_is, s.0) s.1

-- And where all of this is so, the line matches.

set_below : (n : ℕ) → n ≡ set_number (set_of n) → n < 16
unfolding set_of
set_below n h = bits (n % 2 == 1) (n / 2 % 2 == 1) (n / 4 % 2 == 1) (n / 8 % 2 == 1) h
  where
    bit : (b : Bool) → from_bool b < 2
    bit true = omega arith
    bit false = omega arith

    bits : (a b c d : Bool) → n ≡ from_bool a + 2 * from_bool b + 4 * from_bool c + 8 * from_bool d → n < 16
    bits a b c d e = omega (arith, bit a, bit b, bit c, bit d, e)

-- pp and map have numbers from 16 on, and what has another has 63
pub record Mapped (low pp map : ℕ) : Type 0 where
  pub above : 16 ≤ low % 64
  pub below : low < 64
  pub is : low < 63 → low ≡ pp + 16 * map

mapped_by : (low pp map : ℕ) (t : Bool) → (nat_lt pp 4 && (nat_lt 0 map && nat_lt map 4)) ≡ t → low ≡ (if t then (pp + 16 * map) else 63) → Mapped low pp map
mapped_by low pp map true e h =
    let s = and_parts (nat_lt pp 4) (nat_lt 0 map && nat_lt map 4) e in
    let u = and_parts (nat_lt 0 map) (nat_lt map 4) s.1 in
    let below_pp : pp < 4 = ltb-true pp 4 s.0 in
    let above : 0 < map = ltb-true 0 map u.0 in
    let below_map : map < 4 = ltb-true map 4 u.1 in
    record { above = omega arith; below = omega arith; is = λ _. h }
mapped_by low pp map false e h = record { above = omega arith; below = omega arith; is = λ l. absurd (omega (arith, l, h)) }

mapped : (low pp map : ℕ) → low ≡ map_number pp map → Mapped low pp map
mapped low pp map h = mapped_by low pp map (nat_lt pp 4 && (nat_lt 0 map && nat_lt map 4)) refl h

rex_stands : (rex : Bool) (w : ℕ) (r x b : Bool) (low : ℕ) → has_rex (legacy_prefix (set_of low) (rex_with rex w r x b)) ≡ rex
rex_stands true w r x b low = refl
rex_stands false w r x b low = refl

matches_by : (field : PrefixField) (numbers : PrefixNumbers) (rex r x b : Bool) (vvvv : ℕ) (t : Bool) → (numbers.has_high && not rex) ≡ t → numbers ≡ numbers_of (prefix_with numbers rex r x b vvvv) → is_asked field ≡ true → asked_low field ≡ numbers.low % 64 → others_match field numbers rex vvvv ≡ true → field_matches field (prefix_with numbers rex r x b vvvv) ≡ true
unfolding asked_low is_asked prefix_with
matches_by (LegacyField set may) numbers rex r x b vvvv true e are a l o =
    let m = mapped numbers.low (numbers.low % 16) (numbers.low / 16) (rw e at (ap (λ (n : PrefixNumbers). n.low) are)) in
    let below : set_number set < 16 = ltb-true (set_number set) 16 (and_parts (same_legacy set (set_of (set_number set))) (nat_lt (set_number set) 16) a).1 in
    absurd (omega (arith, m.above, below, l))
matches_by (LegacyField set may) numbers rex r x b vvvv false e are a l o =
    let small : numbers.low < 16 = set_below numbers.low (rw e at (ap (λ (n : PrefixNumbers). n.low) are)) in
    let low : set_number set ≡ numbers.low = omega (arith, small, l) in
    let same : same_legacy set (set_of numbers.low) ≡ true = rw low at (and_parts (same_legacy set (set_of (set_number set))) (nat_lt (set_number set) 16) a).0 in
    rw (e, same, rex_stands rex (from_bool numbers.w) r x b numbers.low, o) refl
matches_by (VexField pp map l stored) numbers rex r x b vvvv false e are a h o =
    let small : numbers.low < 16 = set_below numbers.low (rw e at (ap (λ (n : PrefixNumbers). n.low) are)) in
    let above : 0 < map = ltb-true 0 map (and_parts (nat_lt 0 map) (nat_lt map 4) (and_parts (nat_lt pp 4) (nat_lt 0 map && nat_lt map 4) a).1).0 in
    absurd (omega (arith, small, above, h))
matches_by (VexField pp map l stored) numbers rex r x b vvvv true e are a h o =
    let m = mapped numbers.low (numbers.low % 16) (numbers.low / 16) (rw e at (ap (λ (n : PrefixNumbers). n.low) are)) in
    let s = and_parts (nat_lt pp 4) (nat_lt 0 map && nat_lt map 4) a in
    let u = and_parts (nat_lt 0 map) (nat_lt map 4) s.1 in
    let below_pp : pp < 4 = ltb-true pp 4 s.0 in
    let below_map : map < 4 = ltb-true map 4 u.1 in
    let low : numbers.low ≡ pp + 16 * map = omega (arith, m.below, h) in
    let is_pp : numbers.low % 16 ≡ pp = omega (arith, low, below_pp) in
    let is_map : numbers.low / 16 ≡ map = omega (arith, low, below_pp) in
    let q = and_parts (numbers.has_high && (numbers.high == l)) (vvvv_matches stored vvvv) o in
    let v = and_parts numbers.has_high (numbers.high == l) q.0 in
    rw (e, is_pp, itself pp, is_map, itself map, v.1, q.1) refl

pub key_matches : (line : Line) (numbers : PrefixNumbers) (rex r x b : Bool) (vvvv : ℕ) → AreOf numbers rex r x b vvvv (prefix_with numbers rex r x b vvvv) → is_asked line.prefix ≡ true → asked_low line.prefix ≡ numbers.low % 64 → w_matches line.w (from_bool numbers.w) ≡ true → others_match line.prefix numbers rex vvvv ≡ true → prefix_matches line (prefix_with numbers rex r x b vvvv) ≡ true
key_matches line numbers rex r x b vvvv h a l w o =
    rw (matches_by line.prefix numbers rex r x b vvvv (numbers.has_high && not rex) refl h.numbers_are.are a l o, ← h.numbers_are.w_is) w
