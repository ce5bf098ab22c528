use Rattle.std.proofs.Common.{◌≡◌, ℕ, ◌+◌, ◌/◌, ◌<◌, ◌≤◌, arith, Bool, true, false, refl, ◌∙◌, ap, sym, Option, Some, None, List, [], ◌∷◌, ◌++◌, length, append_assoc}
use Rattle.std.specs.Prelude.{◌==◌, ◌&&◌, ◌||◌, not, nat_lt, nat_le, if◌then◌else◌, IsTrue, IsSome, IfSome, is_some, ◌↔◌, option_map, unwrap_or}
use Rattle.std.specs.Int.{from_bool}
use Rattle.std.proofs.lemmas.Bool.{and_parts}
use Rattle.std.proofs.lemmas.Bool.Decides.{nat_tests}
use Rattle.std.proofs.lemmas.List.{length-append}
use Rattle.cax64_register.specs.Real.{is_real, is_real_non_rsp}
use Rattle.cax64_address.specs.Address.{registers_are_real, index_bit, base_bit}
use Rattle.cax64_address.specs.declared.amode.Amode.{Amode}
use Rattle.cax64_address.specs.declared.amode.Amode.TheVariants.{ImmReg, ImmRegRegShift, RipRelative}
use Rattle.cax64_machine_code.specs.Fields.{IsBytes}
use Rattle.cax64_machine_code.specs.Len.{one_if, is_w1, legacy_len}
use Rattle.cax64_machine_code.specs.Prefix.{legacy_prefix, vex_prefix, Rex, rex_bits, prefix_at}
use Rattle.cax64_machine_code.specs.Line.{w_matches, vvvv_matches}
use Rattle.cax64_machine_code.specs.Reading.{vvvv_register_of}
use Rattle.cax64_machine_code.specs.declared.line.LegacySet.{LegacySet}
use Rattle.cax64_machine_code.specs.declared.line.Opcode.{Opcode}
use Rattle.cax64_machine_code.specs.declared.line.Line.{Line}
use Rattle.cax64_machine_code.specs.declared.line.PrefixField.{PrefixField}
use Rattle.cax64_machine_code.specs.declared.line.PrefixField.TheVariants.{LegacyField, VexField}
use Rattle.cax64_machine_code.specs.declared.line.VvvvField.{VvvvField}
use Rattle.cax64_machine_code.specs.declared.line.VvvvField.TheVariants.{VvvvRegister, Stored1111}
use Rattle.cax64_machine_code.specs.declared.line.TailField.{TailField}
use Rattle.cax64_machine_code.proofs.Uniqueness.{legacy_self}
use Rattle.cax64_prefix.specs.Rex.{rex_bytes, is_special_if_8bit}
use Rattle.cax64_prefix.specs.Vex.{vex_bytes, vex_fields, VexReadsAs, fits_two_bytes}
use Rattle.cax64_prefix.specs.declared.vex.VexPrefix.{VexPrefix}
use Rattle.cax64_prefix.specs.declared.vex.VexPrefix.TheVariants.{TwoByte, ThreeByte}
use Rattle.cax64_prefix.proofs.RexBits.{AreBits}
use Rattle.cax64_prefix.proofs.Prefixes.{legacy_bytes, prefix_back, prefix_vex}
use Rattle.cax64_encoder.specs.Form.{is_no_place, is_absent, vvvv_fits}
use Rattle.cax64_table.specs.Entry.{first_byte, is_line, is_prefix_field, is_w0, has_tail}
use Rattle.cax64_table.specs.Numbers.{byte_when, set_bytes, legacy_bytes_of, is_vex, has_pp, has_map, has_l, has_8bit, uses_8bit_reg, uses_8bit_place}
use Rattle.cax64_encoder.specs.Number.{number_value, is_real_number}
use Rattle.cax64_encoder.specs.Prefix.{PrefixFor, rex_stands, place_special, place_high, amode_high}
use Rattle.cax64_encoder.specs.Real.{place_is_real, place_x, place_b}
use Rattle.cax64_encoder.specs.declared.number.Number.{Number}
use Rattle.cax64_encoder.specs.declared.number.Number.TheVariants.{Settled, Unsettled}
use Rattle.cax64_encoder.specs.declared.role.PlaceOperand as place
use Rattle.cax64_encoder.specs.declared.role.PlaceOperand.{PlaceOperand}
use Rattle.cax64_encoder.proofs.Bytes.{no_bytes, one_byte, both_bytes, rex_are_bytes}
use Rattle.cax64_encoder.proofs.Lines.{line_facts, plain_byte}

set_same : (set : LegacySet) → set_bytes set ≡ legacy_bytes set
set_same set = rw (when_same set.lock 0xF0, when_same set.operand_size 0x66, when_same set.repne 0xF2, when_same set.rep 0xF3) refl
  where
    when_same : (b : Bool) (c : ℕ) → byte_when b c ≡ (if b then c ∷ [] else [])
    when_same true c = refl
    when_same false c = refl

one_length : (b : Bool) (c : ℕ) → length (if b then c ∷ [] else []) ≡ one_if b
one_length true c = refl
one_length false c = refl

four_lengths : (a b c d : List ℕ) → length (a ++ (b ++ (c ++ d))) ≡ length a + (length b + (length c + length d))
four_lengths a b c d = omega (arith, length-append a (b ++ (c ++ d)), length-append b (c ++ d), length-append c d)

set_are_bytes : (set : LegacySet) → IsBytes (legacy_bytes set)
set_are_bytes set =
    both_bytes _ _ (stands set.lock 0xF0 (omega arith)) (both_bytes _ _ (stands set.operand_size 0x66 (omega arith)) (both_bytes _ _ (stands set.repne 0xF2 (omega arith)) (stands set.rep 0xF3 (omega arith))))
  where
    stands : (b : Bool) (c : ℕ) → c < 256 → IsBytes (if b then c ∷ [] else [])
    stands true c h = one_byte c h
    stands false c h = no_bytes

set_length : (set : LegacySet) → length (legacy_bytes set) ≡ legacy_len set
set_length set =
    let e = four_lengths (if set.lock then 0xF0 ∷ [] else []) (if set.operand_size then 0x66 ∷ [] else []) (if set.repne then 0xF2 ∷ [] else []) (if set.rep then 0xF3 ∷ [] else []) in
    omega (arith, e, one_length set.lock 0xF0, one_length set.operand_size 0x66, one_length set.repne 0xF2, one_length set.rep 0xF3)

rex_length : (rex : Option Rex) → length (rex_bytes rex) ≤ 1
rex_length None = omega arith
rex_length (Some rex) = omega arith

below : (a b : ℕ) → nat_lt a b ≡ true → a < b
below a b h = grind (arith, nat_tests)

half : (n : ℕ) → n < 16 → n / 8 < 2
half n h = omega arith

bool_below : (b : Bool) → from_bool b < 2
bool_below true = omega arith
bool_below false = omega arith

real_below : {R : Type 0} (settled : R → Bool) (enc : R → ℕ) (r : R) → is_real settled enc r ≡ true → enc r < 16
real_below settled enc r h = below (enc r) 16 (and_parts (settled r) (nat_lt (enc r) 16) h).1

number_below : (number : Number) → is_real_number number ≡ true → number_value number < 16
number_below (Settled n) h = below n 16 h
number_below Unsettled h = cc

amode_bits : {M : Type 0} (settled : M → Bool) (enc : M → ℕ) (amode : Amode M) → registers_are_real settled enc amode ≡ true → (index_bit enc amode < 2) × (base_bit enc amode < 2)
amode_bits settled enc (ImmReg base simm32 trap) h = (omega arith, half (enc base) (real_below settled enc base h))
amode_bits settled enc (ImmRegRegShift base index scale simm32 trap) h =
    let p = and_parts (is_real settled enc base) (is_real_non_rsp settled enc index) h in
    let q = and_parts (is_real settled enc index) _ p.1 in
    (half (enc index) (real_below settled enc index q.0), half (enc base) (real_below settled enc base p.0))
amode_bits settled enc (RipRelative target) h = (omega arith, omega arith)

pub place_bits : {M : Type 0} (settled : M → Bool) (enc : M → ℕ) (operand : PlaceOperand M) → place_is_real settled enc operand ≡ true → (place_x enc operand < 2) × (place_b enc operand < 2)
place_bits settled enc place.TheVariants.NoPlace h = (omega arith, omega arith)
place_bits settled enc (place.TheVariants.Register number) h = (omega arith, half (number_value number) (number_below number h))
place_bits settled enc (place.TheVariants.Memory amode) h = amode_bits settled enc amode h

-- the bits of a REX prefix are bits
bits_of : (rex : Option Rex) (w r x b : ℕ) → rex_bits rex ≡ record { w = w; r = r; x = x; b = b } → w < 2 → r < 2 → x < 2 → b < 2 → IfSome rex AreBits
bits_of None w r x b e hw hr hx hb = tt
bits_of (Some rex) w r x b e hw hr hx hb =
    let ew : rex.w ≡ w = ap (λ (z : Rex). z.w) e in
    let er : rex.r ≡ r = ap (λ (z : Rex). z.r) e in
    let ex : rex.x ≡ x = ap (λ (z : Rex). z.x) e in
    let eb : rex.b ≡ b = ap (λ (z : Rex). z.b) e in
    record { w = omega arith; r = omega arith; x = omega arith; b = omega arith }

some_is : (rex : Option Rex) → IsSome rex → is_some rex ≡ true
some_is None h = h
some_is (Some rex) h = refl

none_is : (rex : Option Rex) (stands : Bool) → (IsSome rex ↔ IsTrue stands) → stands ≡ false → is_some rex ≡ false
none_is None stands h e = refl
none_is (Some rex) stands h e = let bad : stands ≡ true = h.0 refl in cc

-- a REX byte is there where it stands
rex_there : (rex : Option Rex) (stands : Bool) → (IsSome rex ↔ IsTrue stands) → length (rex_bytes rex) ≡ one_if stands
rex_there None true h = let bad : IsSome {T = Rex} None = h.1 refl in cc
rex_there None false h = refl
rex_there (Some rex) true h = refl
rex_there (Some rex) false h = let bad : false ≡ true = h.0 refl in cc

or_true_left : (a b : Bool) → a ≡ true → (a || b) ≡ true
or_true_left a b e = rw e refl

or_true_right : (a b : Bool) → b ≡ true → (a || b) ≡ true
or_true_right true b e = refl
or_true_right false b e = e

and_true : (a b : Bool) → a ≡ true → b ≡ true → (a && b) ≡ true
and_true a b e f = rw (e, f) refl

-- where an 8-bit register of number 4 to 7 stands in reg or as the place, a REX byte stands
stands_for : {M : Type 0} (enc : M → ℕ) (w u : Bool) (reg : ℕ) (operand : PlaceOperand M) → u ≡ true → (is_special_if_8bit reg || place_special operand) ≡ true → rex_stands enc w u reg operand ≡ true
stands_for enc w u reg operand e f =
    or_true_right w _ (or_true_right (nat_le 8 reg) _ (or_true_right (place_high enc operand) _ (and_true u _ e f)))

bare_stands : {M : Type 0} (enc : M → ℕ) (reg : ℕ) (operand : PlaceOperand M) → is_no_place operand ≡ true → reg ≡ 0 → (u : Bool) → rex_stands enc false u reg operand ≡ false
bare_stands enc reg place.TheVariants.NoPlace h e true = rw e refl
bare_stands enc reg place.TheVariants.NoPlace h e false = rw e refl
bare_stands enc reg (place.TheVariants.Register number) h e u = cc
bare_stands enc reg (place.TheVariants.Memory amode) h e u = cc

number_is : (a b : ℕ) → (a == b) ≡ true → a ≡ b
number_is a b h = grind (arith, nat_tests)

-- the legacy prefixes of a row without VEX
pub record LegacyIs (prefix : PrefixField) : Type 0 where
  pub set : LegacySet
  pub rexed : Bool
  pub is : prefix ≡ LegacyField set rexed
  pub bytes : legacy_bytes_of prefix ≡ legacy_bytes set

pub legacy_is : (prefix : PrefixField) → is_vex prefix ≡ false → LegacyIs prefix
legacy_is (LegacyField set rexed) h = record { set = set; rexed = rexed; is = refl; bytes = set_same set }
legacy_is (VexField pp map l field) h = cc

no_rex_matches : (rexed tailed : Bool) (stands : Bool) → (rexed || not tailed) ≡ true → (tailed ≡ false → stands ≡ false) → (rexed || not stands) ≡ true
no_rex_matches true tailed stands h k = refl
no_rex_matches false true stands h k = cc
no_rex_matches false false stands h k = rw (k refl) refl

bare_case : {M : Type 0} (enc : M → ℕ) (tailed w0 w : Bool) (u : Bool) (reg : ℕ) (operand : PlaceOperand M) → (tailed || w0) ≡ true → (w0 ≡ true → w ≡ false) → (tailed || (is_no_place operand && (reg == 0))) ≡ true → tailed ≡ false → rex_stands enc w u reg operand ≡ false
bare_case enc true w0 w u reg operand hw hz hb e = cc
bare_case enc false w0 w u reg operand hw hz hb e =
    let p = and_parts (is_no_place operand) (reg == 0) hb in
    let zero : w ≡ false = hz hw in
    rw zero (bare_stands enc reg operand p.0 (number_is reg 0 p.1) u)

no_vvvv : (vvvv : Option Number) → is_absent vvvv ≡ true → None ≡ option_map number_value vvvv
no_vvvv None h = refl
no_vvvv (Some number) h = cc

-- legacy prefixes and REX
pub legacy_for : {M : Type 0} (settled : M → Bool) (enc : M → ℕ) (line : Line) (reg : ℕ) (vvvv : Option Number) (operand : PlaceOperand M) (set : LegacySet) (rexed w : Bool) (rex : Option Rex) → line.prefix ≡ LegacyField set rexed → is_line line ≡ true → reg < 16 → place_is_real settled enc operand ≡ true → vvvv_fits line.prefix vvvv ≡ true → (has_tail line.tail || (is_no_place operand && (reg == 0))) ≡ true → w_matches line.w (from_bool w) ≡ true → (is_w0 line.w ≡ true → w ≡ false) → w ≡ is_w1 line.w → rex_bits rex ≡ record { w = from_bool w; r = reg / 8; x = place_x enc operand; b = place_b enc operand } → (IsSome rex ↔ IsTrue (rex_stands enc w (has_8bit line.tail) reg operand)) → PrefixFor enc line reg vvvv operand (legacy_bytes set ++ rex_bytes rex)
legacy_for settled enc line reg vvvv operand set rexed w rex is hl hr hp hv hb hw hz hv1 bits stands =
    let facts = line_facts line hl in
    let parts = and_parts (not (set.repne && set.rep)) (rexed || not (has_tail line.tail)) (rw is at facts.prefix) in
    let once : (set.repne && set.rep) ≡ false = not_true_is (set.repne && set.rep) parts.0 in
    let place_bits_are = place_bits settled enc operand hp in
    let are_bits = bits_of rex (from_bool w) (reg / 8) (place_x enc operand) (place_b enc operand) bits (bool_below w) (half reg hr) place_bits_are.0 place_bits_are.1 in
    let rexed_or_none : (rexed || not (is_some rex)) ≡ true = no_rex_matches rexed (has_tail line.tail) (is_some rex) parts.1 (λ e. none_is rex _ stands (bare_case enc (has_tail line.tail) (is_w0 line.w) w (has_8bit line.tail) reg operand facts.bare_w hz hb e)) in
    let w_is : (rex_bits rex).w ≡ from_bool w = ap (λ (z : Rex). z.w) bits in
    record {
      prefix = legacy_prefix set rex;
      reads = λ rest. (ap prefix_at (append_assoc (legacy_bytes set) (rex_bytes rex) (first_byte line.opcode ∷ rest)) ∙ prefix_back set rex (first_byte line.opcode) rest once are_bits (plain_byte (first_byte line.opcode) facts.plain));
      matches = rw (is, legacy_self set, rexed_or_none, w_is, hw) refl;
      x = ap (λ (z : Rex). z.x) bits;
      b = ap (λ (z : Rex). z.b) bits;
      r = ap (λ (z : Rex). z.r) bits;
      vvvv_is = rw is (no_vvvv vvvv (rw is at hv));
      low_reg = λ e f. some_is rex (stands.1 (stands_for enc w (has_8bit line.tail) reg operand (or_true_left (uses_8bit_reg line.tail) (uses_8bit_place line.tail) e) (or_true_left (is_special_if_8bit reg) (place_special operand) f)));
      low_place = λ e f. some_is rex (stands.1 (stands_for enc w (has_8bit line.tail) reg operand (or_true_right (uses_8bit_reg line.tail) (uses_8bit_place line.tail) e) (or_true_right (is_special_if_8bit reg) (place_special operand) f)));
      are_bytes = both_bytes (legacy_bytes set) (rex_bytes rex) (set_are_bytes set) (rex_are_bytes rex are_bits);
      size = rw is (omega (arith, length-append (legacy_bytes set) (rex_bytes rex), set_length set, rex_length rex));
      length = rw (is, ← hv1) (omega (arith, length-append (legacy_bytes set) (rex_bytes rex), set_length set, rex_there rex (rex_stands enc w (has_8bit line.tail) reg operand) stands));
    }
  where
    not_true_is : (a : Bool) → not a ≡ true → a ≡ false
    not_true_is true h = cc
    not_true_is false h = refl

-- the fields of a VEX row
vex_field_facts : (pp map l : ℕ) (escape tailed : Bool) → (nat_lt pp 4 && (nat_le 1 map && (nat_le map 3 && (nat_lt l 2 && (not escape && tailed))))) ≡ true → (pp < 4) × (1 ≤ map) × (map ≤ 3) × (l < 2)
vex_field_facts pp map l escape tailed h =
    let p1 = and_parts (nat_lt pp 4) _ h in
    let p2 = and_parts (nat_le 1 map) _ p1.1 in
    let p3 = and_parts (nat_le map 3) _ p2.1 in
    let p4 = and_parts (nat_lt l 2) _ p3.1 in
    (below pp 4 p1.0, at_most 1 map p2.0, at_most map 3 p3.0, below l 2 p4.0)
  where
    at_most : (a b : ℕ) → nat_le a b ≡ true → a ≤ b
    at_most a b h = grind (arith, nat_tests)

-- the fields of a row with VEX are these numbers
pub record VexIs (prefix : PrefixField) (pp map l : ℕ) : Type 0 where
  pub field : VvvvField
  pub is : prefix ≡ VexField pp map l field
  pub pp_below : pp < 4
  pub map_least : 1 ≤ map
  pub map_most : map ≤ 3
  pub l_below : l < 2

vex_by_prefix : (prefix : PrefixField) (opcode : Opcode) (tail : TailField) (pp map l : ℕ) → is_prefix_field prefix opcode tail ≡ true → is_vex prefix ≡ true → has_pp prefix pp ≡ true → has_map prefix map ≡ true → has_l prefix l ≡ true → VexIs prefix pp map l
vex_by_prefix (LegacyField set rexed) opcode tail pp map l h v hp hm hl = cc
vex_by_prefix (VexField p m k field) opcode tail pp map l h v hp hm hl =
    let facts = vex_field_facts p m k opcode.escape (has_tail tail) h in
    let ep : pp ≡ p = number_is pp p hp in
    let em : map ≡ m = number_is map m hm in
    let el : l ≡ k = number_is l k hl in
    record {
      field = field;
      is = rw (ep, em, el) refl;
      pp_below = omega (arith, ep, facts.0);
      map_least = omega (arith, em, facts.1);
      map_most = omega (arith, em, facts.2);
      l_below = omega (arith, el, facts.3);
    }

pub vex_is : (line : Line) (pp map l : ℕ) → is_line line ≡ true → is_vex line.prefix ≡ true → has_pp line.prefix pp ≡ true → has_map line.prefix map ≡ true → has_l line.prefix l ≡ true → VexIs line.prefix pp map l
vex_is line pp map l h = vex_by_prefix line.prefix line.opcode line.tail pp map l (line_facts line h).prefix

itself : (a : ℕ) → (a == a) ≡ true
itself a = grind (arith, nat_tests)

pub vex_length : (vex : VexPrefix) → length (vex_bytes vex) ≤ 3
vex_length (TwoByte last) = omega arith
vex_length (ThreeByte second last) = omega arith

-- two bytes or three
vex_there : (vex : VexPrefix) (two : Bool) → ((length (vex_bytes vex) ≡ 2) ↔ IsTrue two) → length (vex_bytes vex) ≡ (if two then 2 else 3)
vex_there (TwoByte last) true h = refl
vex_there (TwoByte last) false h = let bad : false ≡ true = h.0 refl in cc
vex_there (ThreeByte second last) true h = let bad : ◌≡◌ {A = ℕ} 3 2 = h.1 refl in absurd (omega (arith, bad))
vex_there (ThreeByte second last) false h = refl

low_half : (n : ℕ) → (n / 8 == 0) ≡ not (nat_le 8 n)
low_half n = by_test (nat_le 8 n) refl
  where
    by_test : (high : Bool) → nat_le 8 n ≡ high → (n / 8 == 0) ≡ not high
    by_test true h = grind (arith, nat_tests)
    by_test false h = grind (arith, nat_tests)

neither_high : (x b w : ℕ) (map : ℕ) → ((x / 8 == 0) && ((b / 8 == 0) && ((w == 0) && (map == 1)))) ≡ ((map == 1) && (not (nat_le 8 x || nat_le 8 b) && (w == 0)))
neither_high x b w map = rw (low_half x, low_half b) (turned (nat_le 8 x) (nat_le 8 b) (w == 0) (map == 1))
  where
    turned : (x b w m : Bool) → (not x && (not b && (w && m))) ≡ (m && (not (x || b) && w))
    turned true b w true = refl
    turned true b w false = refl
    turned false true w true = refl
    turned false true w false = refl
    turned false false true true = refl
    turned false false true false = refl
    turned false false false true = refl
    turned false false false false = refl

no_w : (w : Bool) → (from_bool w == 0) ≡ not w
no_w true = refl
no_w false = refl

amode_low : {M : Type 0} (enc : M → ℕ) (amode : Amode M) (w map : ℕ) → ((index_bit enc amode == 0) && ((base_bit enc amode == 0) && ((w == 0) && (map == 1)))) ≡ ((map == 1) && (not (amode_high enc amode) && (w == 0)))
amode_low enc (ImmReg base simm32 trap) w map = neither_high 0 (enc base) w map
amode_low enc (ImmRegRegShift base index scale simm32 trap) w map = neither_high (enc index) (enc base) w map
amode_low enc (RipRelative target) w map = neither_high 0 0 w map

place_low : {M : Type 0} (enc : M → ℕ) (operand : PlaceOperand M) (w map : ℕ) → ((place_x enc operand == 0) && ((place_b enc operand == 0) && ((w == 0) && (map == 1)))) ≡ ((map == 1) && (not (place_high enc operand) && (w == 0)))
place_low enc place.TheVariants.NoPlace w map = neither_high 0 0 w map
place_low enc (place.TheVariants.Register number) w map = neither_high 0 (number_value number) w map
place_low enc (place.TheVariants.Memory amode) w map = amode_low enc amode w map

abbrev vvvv_reads : VvvvField → ℕ → Option Number → Type 0
vvvv_reads field number vvvv = (vvvv_matches field number ≡ true) × (vvvv_register_of field number ≡ option_map number_value vvvv)

vvvv_there : (field : VvvvField) (vvvv : Option Number) (pp map l number : ℕ) → vvvv_fits (VexField pp map l field) vvvv ≡ true → number ≡ unwrap_or (option_map number_value vvvv) 0 → vvvv_reads field number vvvv
vvvv_there VvvvRegister None pp map l number h e = cc
vvvv_there VvvvRegister (Some held) pp map l number h e = (refl, ap Some e)
vvvv_there Stored1111 None pp map l number h e = (rw e refl, refl)
vvvv_there Stored1111 (Some held) pp map l number h e = cc

no_8bit : (tail : TailField) → not (true && has_8bit tail) ≡ true → (uses_8bit_reg tail ≡ false) × (uses_8bit_place tail ≡ false)
no_8bit tail h = neither_of (uses_8bit_reg tail) (uses_8bit_place tail) h
  where
    neither_of : (a b : Bool) → not (a || b) ≡ true → (a ≡ false) × (b ≡ false)
    neither_of true b h = cc
    neither_of false true h = cc
    neither_of false false h = (refl, refl)

no_true : {P : Type 0} (a : Bool) → a ≡ false → a ≡ true → P
no_true a e f = absurd (apart (sym e ∙ f))
  where
    apart : false ≡ true → ⊥
    apart h = cc

-- a VEX prefix
pub vex_for : {M : Type 0} (enc : M → ℕ) (line : Line) (reg : ℕ) (vvvv : Option Number) (operand : PlaceOperand M) (pp map l : ℕ) (field : VvvvField) (w : Bool) (number : ℕ) (registers : Option ℕ × Option ℕ) (vex : VexPrefix) → IsBytes (vex_bytes vex) → line.prefix ≡ VexField pp map l field → is_line line ≡ true → vvvv_fits line.prefix vvvv ≡ true → w_matches line.w (from_bool w) ≡ true → number ≡ unwrap_or (option_map number_value vvvv) 0 → unwrap_or registers.0 0 / 8 ≡ place_b enc operand → unwrap_or registers.1 0 / 8 ≡ place_x enc operand → w ≡ is_w1 line.w → VexReadsAs (vex_fields reg number registers l pp map w) (vex_bytes vex) → ((length (vex_bytes vex) ≡ 2) ↔ IsTrue (fits_two_bytes (vex_fields reg number registers l pp map w))) → PrefixFor enc line reg vvvv operand (vex_bytes vex)
vex_for enc line reg vvvv operand pp map l field w number registers vex bytes is hl hv hw hn hb hx hv1 back two =
    let facts = line_facts line hl in
    let vvvv_is = vvvv_there field vvvv pp map l number (rw is at hv) hn in
    let none = no_8bit line.tail (rw is at facts.vex_8bit) in
    let low : fits_two_bytes (vex_fields reg number registers l pp map w) ≡ ((map == 1) && (not (place_high enc operand) && (from_bool w == 0))) = rw (hx, hb) (place_low enc operand (from_bool w) map) in
    record {
      prefix = vex_prefix (vex_fields reg number registers l pp map w);
      reads = λ rest. prefix_vex vex (vex_fields reg number registers l pp map w) (first_byte line.opcode ∷ rest) back;
      matches = rw (is, itself pp, itself map, itself l, vvvv_is.0, hw) refl;
      x = hx;
      b = hb;
      r = refl;
      vvvv_is = rw is vvvv_is.1;
      low_reg = λ e f. no_true (uses_8bit_reg line.tail) none.0 e;
      low_place = λ e f. no_true (uses_8bit_place line.tail) none.1 e;
      are_bytes = bytes;
      size = rw is (vex_length vex);
      length = rw (is, ← hv1, ← no_w w) (vex_there vex (fits_two_bytes (vex_fields reg number registers l pp map w)) two ∙ ap (λ (t : Bool). if t then 2 else 3) low);
    }
