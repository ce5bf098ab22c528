use Rattle.std.proofs.Common.{◌≡◌, ℕ, zero, suc, ◌+◌, ◌-◌, ◌*◌, ◌/◌, ◌%◌, ◌<◌, ◌≤◌, refl, ap, ◌∙◌, Bool, true, false, List, [], ◌∷◌, length, slice_index, slice_index_or, arith}
use Rattle.std.specs.Prelude.{◌&&◌, ◌||◌, ◌==◌, not, nat_lt, if◌then◌else◌, is_none}
use Rattle.std.specs.Int.{from_bool}
use Rattle.std.proofs.lemmas.Bool.{agree_below, agree_below_at, and_parts, ltb-true}
use Rattle.std.proofs.lemmas.Bool.Decides.{nat_tests}
use Rattle.cax64_machine_code.specs.Line.{digit_matches, same_bool, same_legacy, w_matches}
use Rattle.cax64_machine_code.specs.Rows.{line_of, all_rows}
use Rattle.cax64_machine_code.specs.declared.line.Line.{Line}
use Rattle.cax64_machine_code.specs.declared.line.Opcode.{Opcode}
use Rattle.cax64_machine_code.specs.declared.line.PrefixField.{PrefixField}
use Rattle.cax64_machine_code.specs.declared.line.PrefixField.TheVariants.{LegacyField, VexField}
use Rattle.cax64_machine_code.specs.declared.line.RegField.TheVariants.{Digit, Register8, Register}
use Rattle.cax64_machine_code.specs.declared.line.TailField.{TailField}
use Rattle.cax64_machine_code.specs.declared.line.TailField.TheVariants.{NoTail, Modrm}
use Rattle.cax64_reader.proofs.Longest.{one, count, prefix_most, tail_most, imm_size, line_most, has_size, is_short}
use Rattle.cax64_table.specs.Digit.{digit_of}
use Rattle.cax64_table.specs.LegacyNumber.{set_number, set_of}
use Rattle.cax64_table.proofs.Matching.{is_clean}
use Rattle.cax64_table.proofs.PrefixNumbers.{equal, same_are}
use Rattle.x64_lines.specs.Line.{core_line, no_line}
use Rattle.x64_lines.specs.Lines.{core_lines, arithmetic_lines, moves_lines, multiplication_lines, shifts_lines, conditions_lines, control_lines, bits_lines, scalar_lines}
use Rattle.x64_lines.specs.declared.lines.TheConstants.{COUNT}
use Rattle.x64_reader.specs.Index.{Fits, entry_for, entry_in, number_in, number_of_key, place_of, slot_with}
use Rattle.x64_reader.specs.declared.index.TheConstants.{INDEX, PLACES, SLOTS}
use Rattle.x64_reader.specs.declared.lines.TheConstants.{LINES}

-- What the checker computes of the lines and of their index.

pub lines_are : LINES ≡ core_lines
unfolding core_lines arithmetic_lines moves_lines multiplication_lines shifts_lines conditions_lines control_lines bits_lines scalar_lines line_of all_rows
lines_are = refl

pub line_is : (n : ℕ) → slice_index_or LINES n no_line ≡ core_line n
line_is n = ap (λ (lines : List Line). slice_index_or lines n no_line) lines_are

pub so_many : length LINES ≡ COUNT
so_many = refl

-- the index has slots and places for what it is asked

fits_in : ℕ → Bool
fits_in entry = if nat_lt entry 32768 then nat_lt entry (length INDEX) else nat_lt (entry - 32768 + 7) (length INDEX)

entries_fit : agree_below (λ map. agree_below (λ byte. fits_in (slice_index (slice_index_or SLOTS map []) byte)) (λ _. true) 256) (λ _. true) 8 ≡ true
unfolding fits_in
entries_fit = refl

not_below : (a b : ℕ) → a < b → nat_lt a b ≡ false → ⊥
not_below a b h e = grind (arith, nat_tests)

below_not : (a b : ℕ) → b ≤ a → nat_lt a b ≡ true → ⊥
below_not a b h e = grind (arith, nat_tests)

below_is : (a b : ℕ) → a < b → nat_lt a b ≡ true
below_is a b h = grind (arith, nat_tests)

fit_by : (entry : ℕ) (t : Bool) → nat_lt entry 32768 ≡ t → (if t then nat_lt entry (length INDEX) else nat_lt (entry - 32768 + 7) (length INDEX)) ≡ true → Fits entry
fit_by entry true e h = record { alone = λ _. ltb-true entry (length INDEX) h; by_digit = λ l. absurd (below_not entry 32768 l e) }
fit_by entry false e h = record { alone = λ l. absurd (not_below entry 32768 l e); by_digit = λ _. ltb-true (entry - 32768 + 7) (length INDEX) h }

map_below : (low : ℕ) (escape : Bool) → 2 * (low / 16 % 4) + from_bool escape < 8
map_below low true = omega arith
map_below low false = omega arith

pub entry_fits : (low : ℕ) (o : Opcode) → o.byte < 256 → Fits (entry_for low o)
unfolding fits_in
entry_fits low o b =
    let map = 2 * (low / 16 % 4) + from_bool o.escape in
    let of_map : agree_below (λ byte. fits_in (slice_index (slice_index_or SLOTS map []) byte)) (λ _. true) 256 ≡ true = agree_below_at (λ map. agree_below (λ byte. fits_in (slice_index (slice_index_or SLOTS map []) byte)) (λ _. true) 256) (λ _. true) 8 map entries_fit (map_below low o.escape) in
    fit_by (entry_for low o) (nat_lt (entry_for low o) 32768) refl (agree_below_at (λ byte. fits_in (slice_index (slice_index_or SLOTS map []) byte)) (λ _. true) 256 o.byte of_map b)

places_are : agree_below (λ n. nat_lt (slice_index PLACES n) 8) (λ _. true) 16 ≡ true
places_are = refl

pub place_below : (low : ℕ) → place_of low < 8
place_below low = ltb-true (place_of low) 8 (agree_below_at (λ n. nat_lt (slice_index PLACES n) 8) (λ _. true) 16 (low % 16) places_are (omega arith))

-- each line stands by its key, in the place of each digit that it matches and of each W that it takes

-- the number of a set of legacy prefixes, or of pp and map
unfoldable pub asked_low : PrefixField → ℕ
asked_low (LegacyField set rex) = set_number set
asked_low (VexField pp map l vvvv) = pp + 16 * map

-- the number is that of its set, or of its pp and map
unfoldable pub is_asked : PrefixField → Bool
is_asked (LegacyField set rex) = same_legacy set (set_of (set_number set)) && nat_lt (set_number set) 16
is_asked (VexField pp map l vvvv) = nat_lt pp 4 && (nat_lt 0 map && nat_lt map 4)

stands_for : ℕ → Line → ℕ → ℕ → Bool
stands_for n line digit w = not (w_matches line.w w) || (number_of_key (asked_low line.prefix) (w == 1) line.opcode digit == n)

stands_at : ℕ → Line → ℕ → Bool
stands_at n line digit = not (digit_matches line.tail ((8 * digit) ∷ [])) || agree_below (stands_for n line digit) (λ _. true) 2

stands : ℕ → Line → Bool
stands n line =
    agree_below (stands_at n line) (λ _. true) 8
    && (is_asked line.prefix && (is_clean line.opcode.escape line.opcode.byte && is_short line))

all_stand : ℕ → List Line → Bool
all_stand n [] = true
all_stand n (line ∷ lines) = stands n line && all_stand (suc n) lines

all_do : all_stand 0 LINES ≡ true
unfolding all_stand stands stands_at stands_for asked_low is_asked set_of is_clean is_short line_most has_size one count prefix_most tail_most imm_size
all_do = refl

stand_at : (k : ℕ) (lines : List Line) (n m : ℕ) → all_stand k lines ≡ true → n < length lines → m ≡ n + k → stands m (slice_index_or lines n no_line) ≡ true
unfolding all_stand
stand_at k [] n m h l e = absurd (omega (arith, l))
stand_at k (line ∷ lines) zero m h l e = let same : m ≡ k = omega (arith, e) in rw same (and_parts (stands k line) (all_stand (suc k) lines) h).0
stand_at k (line ∷ lines) (suc n) m h l e = stand_at (suc k) lines n m (and_parts (stands k line) (all_stand (suc k) lines) h).1 (omega (arith, l)) (omega (arith, e))

pub record Standing (n : ℕ) (line : Line) : Type 0 where
  pub stands : (digit w : ℕ) → digit < 8 → w < 2 → digit_matches line.tail ((8 * digit) ∷ []) ≡ true → w_matches line.w w ≡ true → number_of_key (asked_low line.prefix) (w == 1) line.opcode digit ≡ n
  pub asked : is_asked line.prefix ≡ true
  pub clean : is_clean line.opcode.escape line.opcode.byte ≡ true
  pub short : is_short line ≡ true

where_true : (t u : Bool) → (not t || u) ≡ true → t ≡ true → u ≡ true
where_true true u h e = h
where_true false u h e = cc

stands_by : (n : ℕ) (line : Line) → agree_below (stands_at n line) (λ _. true) 8 ≡ true → (digit w : ℕ) → digit < 8 → w < 2 → digit_matches line.tail ((8 * digit) ∷ []) ≡ true → w_matches line.w w ≡ true → number_of_key (asked_low line.prefix) (w == 1) line.opcode digit ≡ n
unfolding stands_at stands_for
stands_by n line all digit w d b m t =
    let at : stands_at n line digit ≡ true = agree_below_at (stands_at n line) (λ _. true) 8 digit all d in
    let each : agree_below (stands_for n line digit) (λ _. true) 2 ≡ true = where_true (digit_matches line.tail ((8 * digit) ∷ [])) (agree_below (stands_for n line digit) (λ _. true) 2) at m in
    let one : stands_for n line digit w ≡ true = agree_below_at (stands_for n line digit) (λ _. true) 2 w each b in
    equal (number_of_key (asked_low line.prefix) (w == 1) line.opcode digit) n (where_true (w_matches line.w w) (number_of_key (asked_low line.prefix) (w == 1) line.opcode digit == n) one t)

pub standing : (n : ℕ) → n < COUNT → Standing n (core_line n)
unfolding stands
standing n below =
    let line = core_line n in
    let all : stands n line ≡ true = rw (line_is n) at (stand_at 0 LINES n n all_do below (omega arith)) in
    let p = and_parts (agree_below (stands_at n line) (λ _. true) 8) (is_asked line.prefix && (is_clean line.opcode.escape line.opcode.byte && is_short line)) all in
    let q = and_parts (is_asked line.prefix) (is_clean line.opcode.escape line.opcode.byte && is_short line) p.1 in
    let r = and_parts (is_clean line.opcode.escape line.opcode.byte) (is_short line) q.1 in
    record {
      stands = stands_by n line p.0;
      asked = q.0;
      clean = r.0;
      short = r.1;
    }

-- and only lines of a key stand in its place

pub opcode_of : Bool → ℕ → Opcode
opcode_of escape byte = record { escape = escape; byte = byte }

-- of an opcode in a map, with a tail of some kind, a prefix and W
is_of : ℕ → Opcode → (TailField → Bool) → ℕ → ℕ → Line → Bool
is_of map o has place w line =
    (same_bool line.opcode.escape o.escape && (line.opcode.byte == o.byte))
    && (has line.tail && ((asked_low line.prefix == place + 16 * map) && w_matches line.w w))

number_is : ℕ → Opcode → (TailField → Bool) → ℕ → ℕ → ℕ → Bool
number_is map o has place w n = not (nat_lt n COUNT) || is_of map o has place w (slice_index_or LINES n no_line)

place_is : ℕ → Opcode → (TailField → Bool) → ℕ → ℕ → Bool
place_is map o has slot place = agree_below (λ w. number_is map o has place w (number_in slot (slice_index PLACES place) (w == 1))) (λ _. true) 2

slot_is : ℕ → Opcode → (TailField → Bool) → ℕ → Bool
slot_is map o has slot = agree_below (place_is map o has slot) (λ _. true) 16

-- a tail without a digit, and one that may have this digit
no_digit : TailField → Bool
no_digit tail = is_none (digit_of tail)

this_digit : ℕ → TailField → Bool
this_digit digit tail = digit_matches tail ((8 * digit) ∷ [])

entry_is : ℕ → Opcode → ℕ → Bool
entry_is map o entry =
    (entry == 0)
    || (if nat_lt entry 32768
    then slot_is map o no_digit entry
    else agree_below (λ digit. slot_is map o (this_digit digit) (entry - 32768 + digit)) (λ _. true) 8)

byte_is : Bool → ℕ → ℕ → Bool
byte_is escape map byte = entry_is map (opcode_of escape byte) (entry_in map (opcode_of escape byte))

map_is : Bool → ℕ → Bool
map_is escape map = agree_below (byte_is escape map) (λ _. true) 256

plain_map : map_is false 0 ≡ true
unfolding map_is byte_is entry_is slot_is place_is number_is is_of opcode_of asked_low no_digit this_digit
plain_map = refl

escaped_map : map_is true 0 ≡ true
unfolding map_is byte_is entry_is slot_is place_is number_is is_of opcode_of asked_low no_digit this_digit
escaped_map = refl

vex_maps : (escape : Bool) → agree_below (λ map. map_is escape (suc map)) (λ _. true) 3 ≡ true
unfolding map_is byte_is entry_is slot_is place_is number_is is_of opcode_of asked_low no_digit this_digit
vex_maps true = refl
vex_maps false = refl

map_at : (escape : Bool) (map : ℕ) → map < 4 → map_is escape map ≡ true
map_at true zero l = escaped_map
map_at false zero l = plain_map
map_at escape (suc map) l = agree_below_at (λ map. map_is escape (suc map)) (λ _. true) 3 map (vex_maps escape) (omega (arith, l))

-- none stands in the first slot
none_in : ℕ → ℕ → Bool
none_in place w = not (nat_lt (number_in 0 (slice_index PLACES place) (w == 1)) COUNT)

none_in_first : agree_below (λ place. agree_below (none_in place) (λ _. true) 2) (λ _. true) 16 ≡ true
unfolding none_in
none_in_first = refl

no_first : (place w : ℕ) → place < 16 → w < 2 → number_in 0 (slice_index PLACES place) (w == 1) < COUNT → ⊥
unfolding none_in
no_first place w p b l =
    let at : agree_below (none_in place) (λ _. true) 2 ≡ true = agree_below_at (λ place. agree_below (none_in place) (λ _. true) 2) (λ _. true) 16 place none_in_first p in
    let none : none_in place w ≡ true = agree_below_at (none_in place) (λ _. true) 2 w at b in
    let no : false ≡ true = rw (below_is _ COUNT l) at none in
    cc

-- what the test says of a cell

cell_is : (map : ℕ) (o : Opcode) (has : TailField → Bool) (slot place w : ℕ) → slot_is map o has slot ≡ true → place < 16 → w < 2 → number_in slot (slice_index PLACES place) (w == 1) < COUNT → is_of map o has place w (core_line (number_in slot (slice_index PLACES place) (w == 1))) ≡ true
unfolding slot_is place_is number_is
cell_is map o has slot place w h p b l =
    let n = number_in slot (slice_index PLACES place) (w == 1) in
    let there : place_is map o has slot place ≡ true = agree_below_at (place_is map o has slot) (λ _. true) 16 place h p in
    let one : number_is map o has place w n ≡ true = agree_below_at (λ w. number_is map o has place w (number_in slot (slice_index PLACES place) (w == 1))) (λ _. true) 2 w there b in
    rw (line_is n) at (where_true (nat_lt n COUNT) (is_of map o has place w (slice_index_or LINES n no_line)) one (below_is n COUNT l))

any_digit : (digit : ℕ) (tail : TailField) → no_digit tail ≡ true → this_digit digit tail ≡ true
unfolding no_digit this_digit
any_digit digit NoTail h = refl
any_digit digit (Modrm (Digit d) place) h = cc
any_digit digit (Modrm Register8 place) h = refl
any_digit digit (Modrm Register place) h = refl

with_digit : (map : ℕ) (o : Opcode) (digit place w : ℕ) (line : Line) → is_of map o no_digit place w line ≡ true → is_of map o (this_digit digit) place w line ≡ true
unfolding is_of
with_digit map o digit place w line h =
    let p = and_parts (same_bool line.opcode.escape o.escape && (line.opcode.byte == o.byte)) (no_digit line.tail && ((asked_low line.prefix == place + 16 * map) && w_matches line.w w)) h in
    let q = and_parts (no_digit line.tail) ((asked_low line.prefix == place + 16 * map) && w_matches line.w w) p.1 in
    rw (p.0, any_digit digit line.tail q.0, q.1) refl

is_by : (map : ℕ) (o : Opcode) (entry digit place w : ℕ) (t u : Bool) → (entry == 0) ≡ t → nat_lt entry 32768 ≡ u → (t || (if u then slot_is map o no_digit entry else agree_below (λ digit. slot_is map o (this_digit digit) (entry - 32768 + digit)) (λ _. true) 8)) ≡ true → digit < 8 → place < 16 → w < 2 → number_in (slot_with entry digit) (slice_index PLACES place) (w == 1) < COUNT → is_of map o (this_digit digit) place w (core_line (number_in (slot_with entry digit) (slice_index PLACES place) (w == 1))) ≡ true
is_by map o entry digit place w true u e f h d p b l =
    let zero : entry ≡ 0 = equal entry 0 e in
    absurd (no_first place w p b (rw zero at l))
is_by map o entry digit place w false true e f h d p b l =
    let below : number_in entry (slice_index PLACES place) (w == 1) < COUNT = rw f at l in
    rw f (with_digit map o digit place w (core_line (number_in entry (slice_index PLACES place) (w == 1))) (cell_is map o no_digit entry place w h p b below))
is_by map o entry digit place w false false e f h d p b l =
    let slot : slot_is map o (this_digit digit) (entry - 32768 + digit) ≡ true = agree_below_at (λ digit. slot_is map o (this_digit digit) (entry - 32768 + digit)) (λ _. true) 8 digit h d in
    let below : number_in (entry - 32768 + digit) (slice_index PLACES place) (w == 1) < COUNT = rw f at l in
    rw f (cell_is map o (this_digit digit) (entry - 32768 + digit) place w slot p b below)

-- what the test says of a line
pub record IsOf (low : ℕ) (o : Opcode) (digit w : ℕ) (line : Line) : Type 0 where
  pub opcode_is : line.opcode ≡ o
  pub digit_is : digit_matches line.tail ((8 * digit) ∷ []) ≡ true
  pub low_is : asked_low line.prefix ≡ low % 64
  pub w_is : w_matches line.w w ≡ true

opcode_same : (o found : Opcode) → same_bool found.escape o.escape ≡ true → found.byte ≡ o.byte → found ≡ o
opcode_same o found s b =
    let same : ◌≡◌ {A = Opcode} (record { escape = found.escape; byte = found.byte }) (record { escape = o.escape; byte = o.byte }) = rw (same_are found.escape o.escape s, b) refl in
    same

key_by : (low : ℕ) (o : Opcode) (digit w : ℕ) → o.byte < 256 → digit < 8 → w < 2 → number_of_key low (w == 1) o digit < COUNT → IsOf low o digit w (core_line (number_of_key low (w == 1) o digit))
unfolding map_is byte_is entry_is opcode_of is_of this_digit
key_by low o digit w b d bit l =
    let map = low / 16 % 4 in
    let line = core_line (number_of_key low (w == 1) o digit) in
    let entry : entry_is map o (entry_in map o) ≡ true = agree_below_at (byte_is o.escape map) (λ _. true) 256 o.byte (map_at o.escape map (omega arith)) b in
    let all : is_of map o (this_digit digit) (low % 16) w line ≡ true = is_by map o (entry_in map o) digit (low % 16) w (entry_in map o == 0) (nat_lt (entry_in map o) 32768) refl refl entry d (omega arith) bit l in
    let p = and_parts (same_bool line.opcode.escape o.escape && (line.opcode.byte == o.byte)) (digit_matches line.tail ((8 * digit) ∷ []) && ((asked_low line.prefix == low % 16 + 16 * map) && w_matches line.w w)) all in
    let q = and_parts (same_bool line.opcode.escape o.escape) (line.opcode.byte == o.byte) p.0 in
    let r = and_parts (digit_matches line.tail ((8 * digit) ∷ [])) ((asked_low line.prefix == low % 16 + 16 * map) && w_matches line.w w) p.1 in
    let s = and_parts (asked_low line.prefix == low % 16 + 16 * map) (w_matches line.w w) r.1 in
    let sum : low % 16 + 16 * map ≡ low % 64 = omega arith in
    record {
      opcode_is = opcode_same o line.opcode q.0 (equal _ _ q.1);
      digit_is = r.0;
      low_is = equal _ _ s.0 ∙ sum;
      w_is = s.1;
    }

pub key_is : (low : ℕ) (o : Opcode) (digit : ℕ) (w : Bool) → o.byte < 256 → digit < 8 → number_of_key low w o digit < COUNT → IsOf low o digit (from_bool w) (core_line (number_of_key low w o digit))
key_is low o digit true b d l = key_by low o digit 1 b d (omega arith) l
key_is low o digit false b d l = key_by low o digit 0 b d (omega arith) l
