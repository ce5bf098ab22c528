use Rattle.std.proofs.Common.{◌≡◌, ℕ, zero, suc, ◌+◌, ◌-◌, ◌*◌, ◌≤◌, arith, List, [], ◌∷◌, Bool, true, false, Some, None, Option, refl, ap, subst, ℤ, pos, length}
use Rattle.std.specs.Prelude.{◌==◌, ◌&&◌, ◌||◌, if◌then◌else◌, option_map, option_and_then}
use Rattle.std.proofs.lemmas.Bool.{and_parts}
use Rattle.std.proofs.lemmas.Bool.Decides.{nat_tests}
use Rattle.std.proofs.lemmas.Option.{same_Some}
use Rattle.cax64_machine_code.specs.Fields.{IsBytes, number_at, signed_of}
use Rattle.cax64_machine_code.specs.Len.{one_if, is_w1, reg_is_high, place_is_high, reg_is_special, place_is_special, has_rex_byte, fits_two_byte_vex, legacy_len, prefix_len, opcode_len, least_tail, tail_len, line_len, len_of}
use Rattle.cax64_machine_code.specs.Line.{w_matches, vvvv_matches, same_legacy, field_matches, prefix_matches, after, opcode_at, opcode_bytes, imm_bytes}
use Rattle.cax64_machine_code.specs.Prefix.{Vex, Prefix, legacy_prefix, vex_prefix, has_rex, w_of, r_of, x_of, b_of}
use Rattle.cax64_machine_code.specs.ReadLine.{LineReading, find_line, line_reading_of, read_line, with_line}
use Rattle.cax64_machine_code.specs.Reading.{Parts, PartsOf, FoundOf, read, vvvv_at, reg_view, place_at, imm_at, operands_of}
use Rattle.cax64_machine_code.specs.Rows.{line_of}
use Rattle.cax64_machine_code.specs.Sequence.{parts_of, Same}
use Rattle.cax64_machine_code.specs.Tail.{Tail, read_tail}
use Rattle.cax64_machine_code.specs.declared.line.ImmField.{ImmField}
use Rattle.cax64_machine_code.specs.declared.line.ImmField.TheVariants.{NoImm, Imm, Simm}
use Rattle.cax64_machine_code.specs.declared.line.LegacySet.{LegacySet}
use Rattle.cax64_machine_code.specs.declared.line.Line.{Line}
use Rattle.cax64_machine_code.specs.declared.line.Opcode.{Opcode}
use Rattle.cax64_machine_code.specs.declared.line.PlaceField.{PlaceField}
use Rattle.cax64_machine_code.specs.declared.line.PlaceField.TheVariants.{Memory, RegisterOrMemory, Register8OrMemory}
use Rattle.cax64_machine_code.specs.declared.line.PrefixField.{PrefixField}
use Rattle.cax64_machine_code.specs.declared.line.PrefixField.TheVariants.{LegacyField, VexField}
use Rattle.cax64_machine_code.specs.declared.line.RegField.{RegField}
use Rattle.cax64_machine_code.specs.declared.line.TailField.{TailField}
use Rattle.cax64_machine_code.specs.declared.line.TailField.TheVariants.{NoTail, Modrm}
use Rattle.cax64_machine_code.specs.declared.reading.Place.{Place}
use Rattle.cax64_machine_code.specs.declared.reading.Place.TheVariants.{Reg, Mem, Rip}
use Rattle.cax64_machine_code.specs.declared.reading.Reading.{Reading}
use Rattle.cax64_machine_code.specs.declared.reading.RegView.TheVariants.{Low, High}
use Rattle.cax64_machine_code.proofs.Forms.{later_bytes, true_is}
use Rattle.cax64_machine_code.proofs.NoShorter.{no_shorter}
use Rattle.cax64_machine_code.proofs.ReadLine.{line_steps, reads_line}
use Rattle.cax64_encoder.proofs.Lengths.{len_alike}
use Rattle.cax64_machine_code.proofs.Uniqueness.{behind, legacy_same, some_if}
use Rattle.cax64_shortest.specs.LineParts.{line_parts}
use Rattle.cax64_shortest.proofs.Numbers.{tail_low, tail_reg, reg_low, reg_plain, place_low, place_plain}
use Rattle.cax64_shortest.proofs.PrefixLength.{Before, is_short_vex, prefix_least, prefix_length}

-- a whole instruction: its prefix, its opcode, its tail and its immediate

-- what the operands of a line say of the prefix that they were read under
record Fits (line : Line) (p : Prefix) (parts : PartsOf Line) : Type 0 where
  reg_low : r_of p ≡ 0 → reg_is_high parts.reg ≡ false
  place_low : x_of p ≡ 0 → b_of p ≡ 0 → place_is_high parts.place ≡ false
  reg_plain : has_rex p ≡ false → reg_is_special line.tail parts.reg ≡ false
  place_plain : has_rex p ≡ false → place_is_special line.tail parts.place ≡ false

not_w1 : (w : Option ℕ) → w_matches w 0 ≡ true → is_w1 w ≡ false
not_w1 None h = refl
not_w1 (Some only) h = grind (arith, nat_tests)

one_most : (t : Bool) → one_if t ≤ 1
one_most true = omega arith
one_most false = omega arith

none_needed : (w r p s q : Bool) → w ≡ false → r ≡ false → p ≡ false → s ≡ false → q ≡ false → one_if (w || (r || (p || (s || q)))) ≡ 0
none_needed w r p s q hw hr hp hs hq = rw (hw, hr, hp, hs, hq) refl

without_rex : (line : Line) (found : LegacySet) (parts : PartsOf Line) → prefix_matches line (legacy_prefix found None) ≡ true → Fits line (legacy_prefix found None) parts → one_if (has_rex_byte line parts) ≡ 0
without_rex line found parts h f =
    let w = not_w1 line.w (and_parts (field_matches line.prefix (legacy_prefix found None)) (w_matches line.w 0) h).1 in
    none_needed (is_w1 line.w) (reg_is_high parts.reg) (place_is_high parts.place) (reg_is_special line.tail parts.reg) (place_is_special line.tail parts.place)
    w (f.reg_low refl) (f.place_low refl refl) (f.reg_plain refl) (f.place_plain refl)

same_set : (set found : LegacySet) (t : Bool) → same_legacy set found && t ≡ true → legacy_len set ≡ legacy_len found
same_set set found t h = ap legacy_len (legacy_same set found (and_parts (same_legacy set found) t h).0)

choice_most : (t : Bool) → (if t then 2 else 3) ≤ 3
choice_most true = omega arith
choice_most false = omega arith

short_parts : (a b c d : Bool) → a && (b && (c && d)) ≡ true → (a ≡ true) × (b ≡ true) × (c ≡ true) × (d ≡ true)
short_parts a b c d h =
    let p = and_parts a (b && (c && d)) h in
    let q = and_parts b (c && d) p.1 in
    let r = and_parts c d q.1 in
    (p.0, q.0, r.0, r.1)

vex_counted : (line : Line) (vex : Vex) (map : ℕ) (parts : PartsOf Line) (short : Bool) → is_short_vex vex ≡ short → (vex.map == map) ≡ true → w_matches line.w vex.w ≡ true → Fits line (vex_prefix vex) parts → (if fits_two_byte_vex map line.w parts.place then 2 else 3) ≤ (if short then 2 else 3)
vex_counted line vex map parts false e hm hw f = choice_most (fits_two_byte_vex map line.w parts.place)
vex_counted line vex map parts true e hm hw f =
    let s = short_parts (vex.map == 1) (vex.x == 0) (vex.b == 0) (vex.w == 0) e in
    let w0 : vex.w ≡ 0 = true_is vex.w 0 s.3 in
    let not_w : is_w1 line.w ≡ false = not_w1 line.w (rw w0 at hw) in
    let one : (map == 1) ≡ true = rw (true_is vex.map map hm) at s.0 in
    let low : place_is_high parts.place ≡ false = f.place_low (true_is vex.x 0 s.1) (true_is vex.b 0 s.2) in
    rw (one, low, not_w) (omega arith)

vex_facts : (a b c d : Bool) → a && (b && (c && d)) ≡ true → b ≡ true
vex_facts a b c d h = (and_parts b (c && d) (and_parts a (b && (c && d)) h).1).0

-- no prefix that the line's operands are read under is shorter than is counted
prefix_counted : (line : Line) (field : PrefixField) (p : Prefix) (parts : PartsOf Line) → line.prefix ≡ field → prefix_matches line p ≡ true → Fits line p parts → prefix_len field line parts ≤ prefix_least p
prefix_counted line (LegacyField set rex) (legacy_prefix found None) parts is h f =
    let set_is : legacy_len set ≡ legacy_len found = same_set set found _ (and_parts _ (w_matches line.w 0) (rw is at h)).0 in
    let byte = without_rex line found parts h f in
    omega (arith, set_is, byte)
prefix_counted line (LegacyField set rex) (legacy_prefix found (Some bits)) parts is h f =
    let set_is : legacy_len set ≡ legacy_len found = same_set set found _ (and_parts _ (w_matches line.w bits.w) (rw is at h)).0 in
    let most = one_most (has_rex_byte line parts) in
    omega (arith, set_is, most)
prefix_counted line (LegacyField set rex) (vex_prefix vex) parts is h f =
    let no : false && w_matches line.w vex.w ≡ true = rw is at h in cc
prefix_counted line (VexField pp map l vvvv) (legacy_prefix found o) parts is h f =
    let no : false && w_matches line.w (w_of (legacy_prefix found o)) ≡ true = rw is at h in cc
prefix_counted line (VexField pp map l vvvv) (vex_prefix vex) parts is h f =
    let both : ((vex.pp == pp) && ((vex.map == map) && ((vex.l == l) && vvvv_matches vvvv vex.vvvv))) && w_matches line.w vex.w ≡ true = rw is at h in
    let q = and_parts _ (w_matches line.w vex.w) both in
    let k = vex_counted line vex map parts (is_short_vex vex) refl (vex_facts (vex.pp == pp) (vex.map == map) (vex.l == l) (vvvv_matches vvvv vex.vvvv) q.0) q.1 f in
    omega (arith, k)

after_length : (opcode bytes rest : List ℕ) → IsBytes bytes → after opcode bytes ≡ Some rest → Before (length opcode) bytes rest
unfolding after
after_length [] bytes rest hb h = rw (← same_Some _ _ h) (omega arith, hb)
after_length (c ∷ opcode) [] rest hb h = cc
after_length (c ∷ opcode) (byte ∷ bytes) rest hb h =
    let k = after_length opcode bytes rest (later_bytes byte bytes hb) (some_if (c == byte) (after opcode bytes) rest h).1 in
    let size = k.0 in
    (omega (arith, size), k.1)

opcode_length : (opcode : Opcode) → length (opcode_bytes opcode) ≡ opcode_len opcode
opcode_length opcode = by_escape opcode.escape
  where
    by_escape : (t : Bool) → length (if t then (0x0F ∷ opcode.byte ∷ []) else (opcode.byte ∷ [])) ≡ (if t then 2 else 1)
    by_escape true = refl
    by_escape false = refl

number_behind : (size byte : ℕ) (bytes : List ℕ) (o : Option (ℕ × List ℕ)) (r : ℕ × List ℕ) → ((s : ℕ × List ℕ) → o ≡ Some s → size + length s.1 ≤ length bytes) → option_map {T = ℕ × List ℕ} {U = ℕ × List ℕ} (λ higher. (byte + 256 * higher.0, higher.1)) o ≡ Some r → suc size + length r.1 ≤ length (byte ∷ bytes)
number_behind size byte bytes None r later h = cc
number_behind size byte bytes (Some s) r later h =
    let left : s.1 ≡ r.1 = ap (λ (z : ℕ × List ℕ). z.1) (same_Some _ _ h) in
    let least = later s refl in
    rw (← left) (omega (arith, least))

number_length : (size : ℕ) (bytes : List ℕ) (r : ℕ × List ℕ) → number_at size bytes ≡ Some r → size + length r.1 ≤ length bytes
unfolding number_at
number_length zero bytes r h = let e : bytes ≡ r.1 = ap (λ (z : ℕ × List ℕ). z.1) (same_Some _ _ h) in rw (← e) (omega arith)
number_length (suc size) [] r h = cc
number_length (suc size) (byte ∷ bytes) r h = number_behind size byte bytes (number_at size bytes) r (number_length size bytes) h

mapped_length : {A : Type 0} (f : ℕ → A) (size : ℕ) (bytes : List ℕ) (o : Option (ℕ × List ℕ)) (r : A × List ℕ) → number_at size bytes ≡ o → option_map {T = ℕ × List ℕ} {U = A × List ℕ} (λ n. (f n.0, n.1)) o ≡ Some r → size + length r.1 ≤ length bytes
mapped_length {A} f size bytes None r e h = cc
mapped_length {A} f size bytes (Some n) r e h =
    let left : n.1 ≡ r.1 = ap (λ (z : A × List ℕ). z.1) (same_Some _ _ h) in
    rw (← left) (number_length size bytes n e)

imm_length : (field : ImmField) (bytes : List ℕ) (r : Option ℤ × List ℕ) → imm_at field bytes ≡ Some r → imm_bytes field + length r.1 ≤ length bytes
imm_length NoImm bytes r h = let e : bytes ≡ r.1 = ap (λ (z : Option ℤ × List ℕ). z.1) (same_Some _ _ h) in rw (← e) (omega arith)
imm_length (Imm size) bytes r h = mapped_length (λ (n : ℕ). Some (pos n)) size bytes (number_at size bytes) r refl h
imm_length (Simm size) bytes r h = mapped_length (λ (n : ℕ). Some (signed_of size n)) size bytes (number_at size bytes) r refl h

-- what is found behind an opcode
record Operands (line : Line) (p : Prefix) (bytes : List ℕ) (found : FoundOf Line) : Type 0 where
  size : tail_len found.parts.place + (imm_bytes line.imm + length found.rest) ≤ length bytes
  fits : Fits line p found.parts

bare_found : (line : Line) (p : Prefix) (bytes : List ℕ) (o : Option (Option ℤ × List ℕ)) (found : FoundOf Line) → line.tail ≡ NoTail → imm_at line.imm bytes ≡ o → option_map {T = Option ℤ × List ℕ} {U = FoundOf Line} (λ i. record { parts = record { row = line; reg = None; vvvv = vvvv_at line.prefix p; place = None; imm = i.0 }; tail = 0; rest = i.1 }) o ≡ Some found → Operands line p bytes found
bare_found line p bytes None found is e h = cc
bare_found line p bytes (Some i) found is e h =
    let size = imm_length line.imm bytes i e in
    rw (← same_Some _ _ h) (record {
      size = omega (arith, size);
      fits = record { reg_low = λ _. refl; place_low = λ _ _. refl; reg_plain = λ _. rw is refl; place_plain = λ _. rw is refl };
    })

least_same : (field : PlaceField) (p : Prefix) (named place : Place) → place_at field p named ≡ Some place → least_tail place ≡ least_tail named
least_same Memory p (Reg view) place h = cc
least_same RegisterOrMemory p (Reg view) place h = rw (← same_Some _ _ h) refl
least_same Register8OrMemory p (Reg (Low n)) place h = rw (← same_Some _ _ h) refl
least_same Register8OrMemory p (Reg (High n)) place h = rw (← same_Some _ _ h) refl
least_same field p (Mem base index disp) place h = rw (← same_Some _ _ h) refl
least_same field p (Rip disp) place h = rw (← same_Some _ _ h) refl

imm_found : (line : Line) (reg : RegField) (field : PlaceField) (p : Prefix) (bytes : List ℕ) (t : Tail) (place : Place) (o : Option (Option ℤ × List ℕ)) (found : FoundOf Line) → line.tail ≡ Modrm reg field → IsBytes bytes → read_tail (x_of p) (b_of p) 1 bytes ≡ Some t → place_at field p t.place ≡ Some place → imm_at line.imm t.rest ≡ o → option_map {T = Option ℤ × List ℕ} {U = FoundOf Line} (λ i. record { parts = record { row = line; reg = reg_view reg p t.reg; vvvv = vvvv_at line.prefix p; place = Some place; imm = i.0 }; tail = length bytes - length t.rest; rest = i.1 }) o ≡ Some found → Operands line p bytes found
imm_found line reg field p bytes t place None found is hb ht hp e h = cc
imm_found line reg field p bytes t place (Some i) found is hb ht hp e h =
    let tail = no_shorter (x_of p) (b_of p) bytes t hb ht in
    let same : least_tail place ≡ least_tail t.place = least_same field p t.place place hp in
    let imm = imm_length line.imm t.rest i e in
    let below = tail_reg (x_of p) (b_of p) bytes t ht in
    rw (← same_Some _ _ h) (record {
      size = omega (arith, tail, same, imm);
      fits = record {
        reg_low = λ r. reg_low reg p t.reg below r;
        place_low = λ x b. place_low field p t.place place (tail_low (x_of p) (b_of p) bytes t x b ht) hp;
        reg_plain = λ rex. rw is (reg_plain reg field p t.reg rex);
        place_plain = λ rex. rw is (place_plain reg field p t.place place rex hp);
      };
    })

place_found : (line : Line) (reg : RegField) (field : PlaceField) (p : Prefix) (bytes : List ℕ) (t : Tail) (o : Option Place) (found : FoundOf Line) → line.tail ≡ Modrm reg field → IsBytes bytes → read_tail (x_of p) (b_of p) 1 bytes ≡ Some t → place_at field p t.place ≡ o → option_and_then {T = Place} {U = FoundOf Line} (λ place. option_map (λ i. record { parts = record { row = line; reg = reg_view reg p t.reg; vvvv = vvvv_at line.prefix p; place = Some place; imm = i.0 }; tail = length bytes - length t.rest; rest = i.1 }) (imm_at line.imm t.rest)) o ≡ Some found → Operands line p bytes found
place_found line reg field p bytes t None found is hb ht hp h = cc
place_found line reg field p bytes t (Some place) found is hb ht hp h = imm_found line reg field p bytes t place (imm_at line.imm t.rest) found is hb ht hp refl h

tail_found : (line : Line) (reg : RegField) (field : PlaceField) (p : Prefix) (bytes : List ℕ) (o : Option Tail) (found : FoundOf Line) → line.tail ≡ Modrm reg field → IsBytes bytes → read_tail (x_of p) (b_of p) 1 bytes ≡ o → option_and_then {T = Tail} {U = FoundOf Line} (λ t. option_and_then (λ place. option_map (λ i. record { parts = record { row = line; reg = reg_view reg p t.reg; vvvv = vvvv_at line.prefix p; place = Some place; imm = i.0 }; tail = length bytes - length t.rest; rest = i.1 }) (imm_at line.imm t.rest)) (place_at field p t.place)) o ≡ Some found → Operands line p bytes found
tail_found line reg field p bytes None found is hb ht h = cc
tail_found line reg field p bytes (Some t) found is hb ht h = place_found line reg field p bytes t (place_at field p t.place) found is hb ht refl h

operands_found : (tail : TailField) (line : Line) (p : Prefix) (bytes : List ℕ) (found : FoundOf Line) → line.tail ≡ tail → IsBytes bytes → operands_of tail line line p bytes ≡ Some found → Operands line p bytes found
operands_found NoTail line p bytes found is hb h = bare_found line p bytes (imm_at line.imm bytes) found is refl h
operands_found (Modrm reg field) line p bytes found is hb h = tail_found line reg field p bytes (read_tail (x_of p) (b_of p) 1 bytes) found is hb refl h

-- an instruction that is found, and what is left, are at least so many bytes
whole_by : (line : Line) (p : Prefix) (bytes left rest : List ℕ) (found : FoundOf Line) → prefix_matches line p ≡ true → Before (prefix_least p) bytes left → Before (length (opcode_bytes line.opcode)) left rest → Operands line p rest found → line_len line found.parts + length found.rest ≤ length bytes
whole_by line p bytes left rest found matches pre opcode operands =
    let prefix = prefix_counted line line.prefix p found.parts refl matches operands.fits in
    let before = pre.0 in
    let size = operands.size in
    let code = opcode.0 in
    let op : length (opcode_bytes line.opcode) ≡ opcode_len line.opcode = opcode_length line.opcode in
    omega (arith, prefix, before, size, code, op)

whole_found : (line : Line) (bytes : List ℕ) (found : FoundOf Line) → IsBytes bytes → find_line line bytes ≡ Some found → line_len line found.parts + length found.rest ≤ length bytes
whole_found line bytes found hb h =
    let s = line_steps line bytes found h in
    let pre = prefix_length bytes s.prefix s.behind hb s.prefix_is in
    let m = some_if (prefix_matches line s.prefix) (opcode_at line s.behind) s.rest s.matched in
    let b = behind line s.behind s.rest m.1 in
    let code = after_length (opcode_bytes line.opcode) s.behind s.rest pre.1 b.opcode in
    let operands = operands_found line.tail line s.prefix s.rest found refl code.1 s.operands_are in
    whole_by line s.prefix bytes s.behind s.rest found m.0 pre code operands

found_by : (bytes : List ℕ) (o : Option (FoundOf Line)) (r : LineReading) → option_map {T = FoundOf Line} {U = LineReading} (line_reading_of bytes) o ≡ Some r → (found : FoundOf Line) × (o ≡ Some found) × (line_reading_of bytes found ≡ r)
found_by bytes None r h = cc
found_by bytes (Some found) r h = (found, refl, same_Some _ _ h)

-- what a line reads has no fewer bytes than are counted
line_least : (line : Line) (bytes : List ℕ) (r : LineReading) → IsBytes bytes → read_line line bytes ≡ Some r → (line_len line (line_parts r) ≤ r.length) × (r.length ≤ length bytes)
unfolding read_line
line_least line bytes r hb h =
    let f = found_by bytes (find_line line bytes) r h in
    let least = whole_found line bytes f.0 hb f.1 in
    let is : length bytes - length f.0.rest ≡ r.length = ap (λ (z : LineReading). z.length) f.2 in
    let parts_are : f.0.parts ≡ line_parts r = ap line_parts f.2 in
    let counted : line_len line (line_parts r) + length f.0.rest ≤ length bytes = rw parts_are at least in
    (omega (arith, counted, is), omega (arith, is))

pub line_reading_least : (line : Line) (parts : PartsOf Line) (bytes : List ℕ) (r : LineReading) → IsBytes bytes → read_line line bytes ≡ Some r → line_parts r ≡ parts → line_len line parts ≤ r.length
line_reading_least line parts bytes r hb h same = rw (← same) (line_least line bytes r hb h).0

-- nor has the string
pub line_string_least : (line : Line) (parts : PartsOf Line) (bytes : List ℕ) (r : LineReading) → IsBytes bytes → read_line line bytes ≡ Some r → line_parts r ≡ parts → line_len line parts ≤ length bytes
line_string_least line parts bytes r hb h same =
    let least = line_reading_least line parts bytes r hb h same in
    let most = (line_least line bytes r hb h).1 in
    omega (arith, least, most)

-- the same of a row, by its line

pub reading_least : (parts : Parts) (bytes : List ℕ) (reading : Reading) → IsBytes bytes → read bytes ≡ Some reading → Same reading parts → len_of parts ≤ reading.length
reading_least parts bytes reading hb h same =
    let line = line_of reading.row in
    let alike : line_len line (line_parts (with_line reading)) ≡ len_of (parts_of reading) = len_alike reading.row line (line_parts (with_line reading)) in
    let least : len_of (parts_of reading) ≤ reading.length = rw alike at (line_least line bytes (with_line reading) hb (reads_line bytes reading h)).0 in
    subst (λ (p : Parts). len_of p ≤ reading.length) same least

pub string_least : (parts : Parts) (bytes : List ℕ) (reading : Reading) → IsBytes bytes → read bytes ≡ Some reading → Same reading parts → len_of parts ≤ length bytes
string_least parts bytes reading hb h same =
    let least = reading_least parts bytes reading hb h same in
    let most : reading.length ≤ length bytes = (line_least (line_of reading.row) bytes (with_line reading) hb (reads_line bytes reading h)).1 in
    omega (arith, least, most)
