use Rattle.std.proofs.Common.{◌≡◌, ℕ, zero, suc, ◌+◌, ◌*◌, ◌/◌, ◌%◌, ◌<◌, refl, ◌∙◌, ap, sym, arith, Bool, true, false, Option, Some, None, List, ◌++◌, append_assoc}
use Rattle.std.specs.Prelude.{◌==◌, ◌&&◌, ◌||◌, ◌↔◌, nat_le, if◌then◌else◌, bit_or, IsSome, IsTrue}
use Rattle.std.specs.Int.{from_bool}
use Rattle.std.proofs.lemmas.Bool.Decides.{nat_tests}
use Rattle.cax64_machine_code.specs.Len.{is_w1}
use Rattle.cax64_machine_code.specs.Line.{opcode_bytes}
use Rattle.cax64_machine_code.specs.Prefix.{Rex, rex_bits}
use Rattle.cax64_machine_code.specs.declared.line.Line.{Line}
use Rattle.cax64_prefix.specs.Rex.{is_special_if_8bit, rex_bytes}
use Rattle.cax64_prefix.proofs.Prefixes.{legacy_bytes}
use Rattle.cax64_table.specs.Numbers.{has_8bit, is_vex}
use Rattle.cax64_encoder.specs.Form.{is_no_place, vvvv_fits}
use Rattle.cax64_table.specs.Entry.{has_tail, is_line}
use Rattle.cax64_encoder.specs.Numbered.{IsNumbered, plain, numbered_place, place_is_real, place_named}
use Rattle.cax64_encoder.specs.Prefix.{rex_stands}
use Rattle.cax64_encoder.specs.declared.number.Number.{Number}
use Rattle.cax64_encoder.specs.declared.role.PlaceOperand.{PlaceOperand}
use Rattle.cax64_encoder.proofs.Lines.{line_facts, w_fits, w_zero}
use Rattle.cax64_encoder.proofs.Numbers.{numbers_are, numbers_below}
use Rattle.cax64_encoder.proofs.PrefixParts.{LegacyIs, legacy_is, legacy_for}
use Rattle.cax64_encoder.specs.Head.{IsHead}
use Rattle.x64_place.specs.Operand.{operand_by, place_operand}
use Rattle.x64_place.specs.Head.{bit_at, head_of, rex_for, rex_when}
use Rattle.x64_place.specs.Operand.{placed, placed_by}
use Rattle.x64_place.specs.Heads.{are_heads, entry_in, head_bits, held_bytes}
use Rattle.x64_place.specs.Tail.{special_of}
use Rattle.x64_place.specs.declared.place.FlatPlace.{FlatPlace}
use Rattle.x64_place.specs.declared.place.PlaceKind.{PlaceKind}
use Rattle.x64_place.specs.declared.place.PlaceKind.TheVariants.{Absent, Register, Base, BaseAndIndex, Label, Constant, NoTarget}
use Rattle.x64_place.proofs.Placed as place
use Rattle.x64_place.proofs.Cases.{by_sixteen}
use Rattle.x64_place.proofs.Heads.{held_head}
use Rattle.cax64_encoder.proofs.TailTable.{by_eight}

-- The head that is looked up is one for a line's operands.

named_when : (kind : PlaceKind) (p : FlatPlace) → place_named (placed_by kind p) ≡ operand_by kind p
named_when Absent p = refl
named_when Register p = refl
named_when Base p = refl
named_when BaseAndIndex p = refl
named_when Label p = refl
named_when Constant p = refl
named_when NoTarget p = refl

pub named_is : (p : FlatPlace) → place_named (placed p) ≡ place_operand p
named_is p = named_when p.kind p

pub is_numbered : (p : FlatPlace) → IsNumbered (placed p)
is_numbered p = place.numbers_are p ∙ ap (λ (o : PlaceOperand ℕ). numbered_place plain o) (sym (named_is p))

-- the bits of REX, by whether it stands
rex_bits_when : (w u r s x b : Bool) → rex_bits (rex_when w u r s x b) ≡ record { w = from_bool w; r = from_bool r; x = from_bool x; b = from_bool b }
rex_bits_when true u r s x b = refl
rex_bits_when false u true s x b = refl
rex_bits_when false u false s true b = refl
rex_bits_when false u false s false true = refl
rex_bits_when false true false true false false = refl
rex_bits_when false true false false false false = refl
rex_bits_when false false false s false false = refl

rex_stands_when : (stands : Bool) (rex : Rex) → IsSome (if stands then Some rex else None) ↔ IsTrue stands
rex_stands_when true rex = (λ h. refl, λ h. refl)
rex_stands_when false rex = (λ h. cc, λ h. cc)

-- Beside R or B it doesn't matter whether the low bits are 4 to 7.
same_stands : (w u r x b s wanted : Bool) → (r ≡ false → b ≡ false → s ≡ wanted) → (w || (r || ((x || b) || (u && s)))) ≡ (w || (r || ((x || b) || (u && wanted))))
same_stands true u r x b s wanted h = refl
same_stands false u true x b s wanted h = refl
same_stands false u false true b s wanted h = refl
same_stands false u false false true s wanted h = refl
same_stands false u false false false s wanted h = rw (h refl refl) refl

-- two bits
or_bits : (a b : ℕ) → a < 2 → b < 2 → bit_or a b ≡ from_bool ((a == 1) || (b == 1))
or_bits zero zero ha hb = refl
or_bits zero (suc zero) ha hb = refl
or_bits (suc zero) zero ha hb = refl
or_bits (suc zero) (suc zero) ha hb = refl
or_bits (suc (suc a)) b ha hb = absurd (omega (arith, ha))
or_bits zero (suc (suc b)) ha hb = absurd (omega (arith, hb))
or_bits (suc zero) (suc (suc b)) ha hb = absurd (omega (arith, hb))

half_is : (a : ℕ) → a < 16 → from_bool (nat_le 8 a) ≡ a / 8
half_is a h = by_sixteen (λ n. from_bool (nat_le 8 n) ≡ n / 8) refl refl refl refl refl refl refl refl refl refl refl refl refl refl refl refl a h

high_is : (a : ℕ) → a < 16 → (a / 8 == 1) ≡ nat_le 8 a
high_is a h = by_sixteen (λ n. (n / 8 == 1) ≡ nat_le 8 n) refl refl refl refl refl refl refl refl refl refl refl refl refl refl refl refl a h

low_special : (a : ℕ) → a < 8 → (a / 4 % 2 == 1) ≡ is_special_if_8bit a
low_special a h = by_eight (λ n. (n / 4 % 2 == 1) ≡ is_special_if_8bit n) refl refl refl refl refl refl refl refl a h

low_placed : (a : ℕ) → a < 8 → (from_bool (nat_le 4 (a % 8)) == 1) ≡ is_special_if_8bit a
low_placed a h = by_eight (λ n. (from_bool (nat_le 4 (n % 8)) == 1) ≡ is_special_if_8bit n) refl refl refl refl refl refl refl refl a h

bool_back : (b : Bool) → (from_bool b == 1) ≡ b
bool_back true = refl
bool_back false = refl

not_high : (a : ℕ) → nat_le 8 a ≡ false → a < 8
not_high a h = grind (arith, nat_tests, h)

special_when : (kind : PlaceKind) (p : FlatPlace) → p.base < 8 → (special_of kind p.base == 1) ≡ is_special_if_8bit (placed_by kind p).register
special_when Absent p h = refl
special_when Register p h = low_placed p.base h
special_when Base p h = refl
special_when BaseAndIndex p h = refl
special_when Label p h = refl
special_when Constant p h = refl
special_when NoTarget p h = refl

bool_below : (b : Bool) → from_bool b < 2
bool_below true = omega arith
bool_below false = omega arith

special_below : (kind : PlaceKind) (base : ℕ) → special_of kind base < 2
special_below Absent base = omega arith
special_below Register base = bool_below (nat_le 4 (base % 8))
special_below Base base = omega arith
special_below BaseAndIndex base = omega arith
special_below Label base = omega arith
special_below Constant base = omega arith
special_below NoTarget base = omega arith

same_bits : (w r x b r2 x2 b2 : ℕ) → r ≡ r2 → x ≡ x2 → b ≡ b2 → ◌≡◌ {A = Rex} (record { w = w; r = r; x = x; b = b }) (record { w = w; r = r2; x = x2; b = b2 })
same_bits w r x b r2 x2 b2 e f g = rw (e, f, g) refl

same_rex : (w u : Bool) {r s x b r2 s2 x2 b2 : Bool} → r ≡ r2 → s ≡ s2 → x ≡ x2 → b ≡ b2 → rex_when w u r s x b ≡ rex_when w u r2 s2 x2 b2
same_rex w u e f g h = rw (e, f, g, h) refl

pub legacy_is_head : (line : Line) (p : FlatPlace) (reg : ℕ) (vvvv : Option Number) (special bits : ℕ) (bytes : List ℕ) → is_line line ≡ true → is_vex line.prefix ≡ false → reg < 16 → place_is_real (placed p) ≡ true → vvvv_fits line.prefix vvvv ≡ true → (has_tail line.tail || (is_no_place (place_named (placed p)) && (reg == 0))) ≡ true → special ≡ special_of p.kind p.base → bits ≡ reg / 8 * 8 + bit_or (reg / 4 % 2) special * 4 + p.index / 8 * 2 + p.base / 8 → bytes ≡ head_of line bits → IsHead line reg vvvv (place_named (placed p)) bytes
legacy_is_head line p reg vvvv special bits bytes hl none hr real hv bare es eb is =
    let named : PlaceOperand ℕ = place_named (placed p) in
    let n = numbers_are (placed p) (is_numbered p) in
    let below = numbers_below (placed p) (is_numbered p) real in
    let few : special < 2 = rw es (special_below p.kind p.base) in
    let low : reg / 4 % 2 < 2 = omega arith in
    let s : Bool = (reg / 4 % 2 == 1) || (special == 1) in
    let both : bit_or (reg / 4 % 2) special ≡ from_bool s = or_bits (reg / 4 % 2) special low few in
    let small : from_bool s < 2 = bool_below s in
    let sum : bits ≡ reg / 8 * 8 + from_bool s * 4 + p.index / 8 * 2 + p.base / 8 = eb ∙ ap (λ (k : ℕ). reg / 8 * 8 + k * 4 + p.index / 8 * 2 + p.base / 8) both in
    let at_r : bits / 8 % 2 ≡ reg / 8 = omega (arith, sum, small, below.0, below.1) in
    let at_s : bits / 4 % 2 ≡ from_bool s = omega (arith, sum, small, below.0, below.1) in
    let at_x : bits / 2 % 2 ≡ p.index / 8 = omega (arith, sum, small, below.0, below.1) in
    let at_b : bits / 1 % 2 ≡ p.base / 8 = omega (arith, sum, small, below.0, below.1) in
    let bit_r : bit_at bits 8 ≡ nat_le 8 reg = ap (λ (k : ℕ). k == 1) at_r ∙ high_is reg hr in
    let bit_s : bit_at bits 4 ≡ s = ap (λ (k : ℕ). k == 1) at_s ∙ bool_back s in
    let bit_x : bit_at bits 2 ≡ nat_le 8 p.index = ap (λ (k : ℕ). k == 1) at_x ∙ high_is p.index below.1 in
    let bit_b : bit_at bits 1 ≡ nat_le 8 p.base = ap (λ (k : ℕ). k == 1) at_b ∙ high_is p.base below.0 in
    let w : Bool = is_w1 line.w in
    let u : Bool = has_8bit line.tail in
    let rex : Option Rex = rex_when w u (nat_le 8 reg) s (nat_le 8 p.index) (nat_le 8 p.base) in
    let rex_is : rex_for line bits ≡ rex = same_rex w u bit_r bit_s bit_x bit_b in
    let wanted : Bool = is_special_if_8bit reg || is_special_if_8bit (placed p).register in
    let special_is : nat_le 8 reg ≡ false → nat_le 8 p.base ≡ false → s ≡ wanted = λ er ebase.
    both_are (low_special reg (not_high reg er)) (ap (λ (k : ℕ). k == 1) es ∙ special_when p.kind p (not_high p.base ebase)) in
    let held : (IsSome rex ↔ IsTrue (w || (nat_le 8 reg || ((nat_le 8 p.index || nat_le 8 p.base) || (u && s))))) = rex_stands_when _ _ in
    let chain : (w || (nat_le 8 reg || ((nat_le 8 p.index || nat_le 8 p.base) || (u && s)))) ≡ rex_stands plain.enc w u reg named = same_stands w u (nat_le 8 reg) (nat_le 8 p.index) (nat_le 8 p.base) s wanted special_is ∙ rw (n.high, n.special) refl in
    let stands : (IsSome rex ↔ IsTrue (rex_stands plain.enc w u reg named)) = (λ h. sym chain ∙ held.0 h, λ h. held.1 (chain ∙ h)) in
    let bits_are : rex_bits rex ≡ _ = rex_bits_when w u (nat_le 8 reg) s (nat_le 8 p.index) (nat_le 8 p.base) ∙ same_bits (from_bool w) _ _ _ _ _ _ (half_is reg hr) (half_is p.index below.1 ∙ n.x) (half_is p.base below.0 ∙ n.b) in
    let legacy : LegacyIs line.prefix = legacy_is line.prefix none in
    let facts = line_facts line hl in
    record {
      pre = legacy_bytes legacy.set ++ rex_bytes rex;
      is = is ∙ rw (rex_is, legacy.bytes) (sym (append_assoc (legacy_bytes legacy.set) (rex_bytes rex) (opcode_bytes line.opcode)));
      prefix = legacy_for plain.settled plain.enc line reg vvvv named legacy.set legacy.rexed w rex legacy.is hl hr real hv bare (w_fits line.w facts.w) (λ zero. w_zero line.w zero) refl bits_are stands;
    }
  where
    both_are : {a b c d : Bool} → a ≡ c → b ≡ d → (a || b) ≡ (c || d)
    both_are e f = rw (e, f) refl

-- what is looked up in the line's four numbers
pub looked_up : (line : Line) (p : FlatPlace) (reg : ℕ) (vvvv : Option Number) (heads : List ℕ) (high special : ℕ) (bytes : List ℕ) → is_line line ≡ true → is_vex line.prefix ≡ false → reg < 16 → place_is_real (placed p) ≡ true → vvvv_fits line.prefix vvvv ≡ true → (has_tail line.tail || (is_no_place (place_named (placed p)) && (reg == 0))) ≡ true → are_heads line heads ≡ true → high ≡ reg / 8 * 4 + p.index / 8 * 2 + p.base / 8 → special ≡ bit_or (reg / 4 % 2) (special_of p.kind p.base) → high < 8 → special < 2 → bytes ≡ held_bytes (entry_in heads high special) high → IsHead line reg vvvv (place_named (placed p)) bytes
looked_up line p reg vvvv heads high special bytes hl none hr real hv bare hh eh es high_below small is =
    let below = numbers_below (placed p) (is_numbered p) real in
    let held = held_head line heads high special hh none high_below small in
    let bits : head_bits high special ≡ reg / 8 * 8 + special * 4 + p.index / 8 * 2 + p.base / 8 = omega (arith, eh, hr, below.0, below.1) in
    let sum : head_bits high special ≡ reg / 8 * 8 + bit_or (reg / 4 % 2) (special_of p.kind p.base) * 4 + p.index / 8 * 2 + p.base / 8 = bits ∙ ap (λ (k : ℕ). reg / 8 * 8 + k * 4 + p.index / 8 * 2 + p.base / 8) es in
    legacy_is_head line p reg vvvv (special_of p.kind p.base) (head_bits high special) bytes hl none hr real hv bare refl sum (is ∙ held.bytes)
