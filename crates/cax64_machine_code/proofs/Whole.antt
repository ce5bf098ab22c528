use Rattle.std.proofs.Common.{◌≡◌, ℕ, ◌-◌, ◌/◌, ◌%◌, arith, List, [], ◌∷◌, ◌++◌, Bool, true, false, Some, None, Option, refl, ℤ, pos, ◌∙◌, ap, sym, length}
use Rattle.std.specs.Prelude.{◌==◌, ◌&&◌, ◌||◌, not, if◌then◌else◌, option_map, option_and_then}
use Rattle.std.proofs.lemmas.List.{length-append}
use Rattle.std.proofs.lemmas.Option.{same_Some}
use Rattle.cax64_machine_code.specs.Fields.{number_at, signed_of}
use Rattle.cax64_machine_code.specs.Tail.{Tail, read_tail}
use Rattle.cax64_machine_code.specs.Prefix.{no_legacy, legacy_at, Rex, rex_of, rex_at, Vex, vex_two_byte, vex_three_byte, is_vex_map, vex_at, Prefix, legacy_prefix, vex_prefix, begins_vex, is_no_legacy, after_vex, after_legacy, prefix_at, x_of, b_of}
use Rattle.cax64_machine_code.specs.Line.{prefix_matches, after, digit_matches, opcode_at, opcode_bytes}
use Rattle.cax64_machine_code.specs.declared.line.LegacySet.{LegacySet}
use Rattle.cax64_machine_code.specs.declared.line.Line.{Line}
use Rattle.cax64_machine_code.specs.declared.line.Opcode.{Opcode}
use Rattle.cax64_machine_code.specs.declared.line.RegField.{RegField}
use Rattle.cax64_machine_code.specs.declared.line.PlaceField.{PlaceField}
use Rattle.cax64_machine_code.specs.declared.line.TailField.{TailField}
use Rattle.cax64_machine_code.specs.declared.line.ImmField.{ImmField}
use Rattle.cax64_machine_code.specs.declared.line.TailField.TheVariants.{NoTail, Modrm}
use Rattle.cax64_machine_code.specs.declared.line.ImmField.TheVariants.{NoImm, Imm, Simm}
use Rattle.cax64_machine_code.specs.Reading.{FoundOf, Found, reading_of, read, place_at, imm_at, operands_of, operands_at, matched_at, or_later, row_at, find, vvvv_at, reg_view}
use Rattle.cax64_machine_code.specs.Rows.{line_of, all_rows}
use Rattle.cax64_machine_code.specs.declared.row.Row.{Row}
use Rattle.cax64_machine_code.specs.declared.reading.Place.{Place}
use Rattle.cax64_machine_code.specs.declared.reading.Reading.{Reading}
use Rattle.cax64_machine_code.proofs.Extended.{number_at_more, mapped, longer, read_tail_more}
use Rattle.cax64_machine_code.proofs.Uniqueness.{behind, some_if}
use Rattle.cax64_machine_code.proofs.Matched.{row_found}

choice : {X Y : Type 0} (t : Bool) (a b r : X) (a' b' s : Y) → (a ≡ r → a' ≡ s) → (b ≡ r → b' ≡ s) → (if t then a else b) ≡ r → (if t then a' else b') ≡ s
choice true a b r a' b' s f g h = f h
choice false a b r a' b' s f g h = g h

-- the parts of equal pairs
first_same : {A B : Type 0} (a c : A) (b d : B) → ◌≡◌ {A = A × B} (a, b) (c, d) → a ≡ c
first_same {A} {B} a c b d e = ap (λ (z : A × B). z.0) e

second_same : {A B : Type 0} (a c : A) (b d : B) → ◌≡◌ {A = A × B} (a, b) (c, d) → b ≡ d
second_same {A} {B} a c b d e = ap (λ (z : A × B). z.1) e

stopped : (seen l : LegacySet) (c d : ℕ) (rest bytes more : List ℕ) → ◌≡◌ {A = LegacySet × List ℕ} (seen, d ∷ bytes) (l, c ∷ rest) → ◌≡◌ {A = LegacySet × List ℕ} (seen, d ∷ (bytes ++ more)) (l, c ∷ (rest ++ more))
stopped seen l c d rest bytes more h =
    let p : seen ≡ l = first_same _ _ _ _ h in
    let q : d ∷ bytes ≡ c ∷ rest = second_same _ _ _ _ h in
    let r : d ≡ c = cc in
    let s : bytes ≡ rest = cc in
    rw (p, r, s) refl

legacy_at_more : (seen : LegacySet) (bytes more : List ℕ) (l : LegacySet) (c : ℕ) (rest : List ℕ) → legacy_at seen bytes ≡ (l, c ∷ rest) → legacy_at seen (bytes ++ more) ≡ (l, c ∷ (rest ++ more))
unfolding legacy_at
legacy_at_more seen [] more l c rest h = let p : ◌≡◌ {A = List ℕ} [] (c ∷ rest) = second_same _ _ _ _ h in cc
legacy_at_more seen (byte ∷ bytes) more l c rest h =
    choice ((byte == 0xF0) && not seen.lock) _ _ _ _ _ _ (legacy_at_more (record seen { lock = true }) bytes more l c rest)
    (choice ((byte == 0x66) && not seen.operand_size) _ _ _ _ _ _ (legacy_at_more (record seen { operand_size = true }) bytes more l c rest)
    (choice ((byte == 0xF2) && not (seen.repne || seen.rep)) _ _ _ _ _ _ (legacy_at_more (record seen { repne = true }) bytes more l c rest)
    (choice ((byte == 0xF3) && not (seen.repne || seen.rep)) _ _ _ _ _ _ (legacy_at_more (record seen { rep = true }) bytes more l c rest)
    (stopped seen l c byte rest bytes more)))) h

rex_at_more : (byte : ℕ) (bytes more : List ℕ) (o : Option Rex) (c : ℕ) (rest : List ℕ) → rex_at (byte ∷ bytes) ≡ (o, c ∷ rest) → rex_at (byte ∷ (bytes ++ more)) ≡ (o, c ∷ (rest ++ more))
unfolding rex_at
rex_at_more byte bytes more o c rest h =
    choice (byte / 16 == 4) _ _ _ _ _ _
    (λ e. let p : bytes ≡ c ∷ rest = second_same _ _ _ _ e in let q : ◌≡◌ {A = Option Rex} (Some (rex_of byte)) o = first_same _ _ _ _ e in rw (p, ← q) refl)
    (λ e. let p : byte ∷ bytes ≡ c ∷ rest = second_same _ _ _ _ e in let q : ◌≡◌ {A = Option Rex} None o = first_same _ _ _ _ e in let r : byte ≡ c = cc in let s : bytes ≡ rest = cc in rw (s, r, ← q) refl) h

vex_found : (v w : Vex) (bytes rest more : List ℕ) → ◌≡◌ {A = Option (Vex × List ℕ)} (Some (v, bytes)) (Some (w, rest)) → ◌≡◌ {A = Option (Vex × List ℕ)} (Some (v, bytes ++ more)) (Some (w, rest ++ more))
vex_found v w bytes rest more e =
    let h = same_Some _ _ e in
    let p : bytes ≡ rest = second_same _ _ _ _ h in
    let q : v ≡ w = first_same _ _ _ _ h in
    rw (p, q) refl

vex_at_more : (bytes more : List ℕ) (v : Vex) (rest : List ℕ) → vex_at bytes ≡ Some (v, rest) → vex_at (bytes ++ more) ≡ Some (v, rest ++ more)
unfolding vex_at
vex_at_more [] more v rest h = cc
vex_at_more (byte ∷ []) more v rest h = cc
vex_at_more (byte ∷ second ∷ []) [] v rest h =
    choice (byte == 0xC5) _ _ _ _ _ _ (vex_found (vex_two_byte second) v [] rest []) (λ e. cc) h
vex_at_more (byte ∷ second ∷ []) (m ∷ more) v rest h =
    choice (byte == 0xC5) _ _ _ _ _ _ (vex_found (vex_two_byte second) v [] rest (m ∷ more)) (λ e. cc) h
vex_at_more (byte ∷ second ∷ third ∷ bytes) more v rest h =
    choice (byte == 0xC5) _ _ _ _ _ _ (vex_found (vex_two_byte second) v (third ∷ bytes) rest more)
    (choice ((byte == 0xC4) && is_vex_map (second % 32)) _ _ _ _ _ _ (vex_found (vex_three_byte second third) v bytes rest more) (λ e. cc)) h

after_vex_more : (o o' : Option (Vex × List ℕ)) (more : List ℕ) (p : Prefix) (c : ℕ) (rest : List ℕ) → ((v : Vex) (left : List ℕ) → o ≡ Some (v, left) → o' ≡ Some (v, left ++ more)) → after_vex o ≡ Some (p, c ∷ rest) → after_vex o' ≡ Some (p, c ∷ (rest ++ more))
after_vex_more None o' more p c rest later h = cc
after_vex_more (Some found) o' more p c rest later h =
    let e = same_Some _ _ h in
    let q : vex_prefix found.0 ≡ p = first_same _ _ _ _ e in
    let r : found.1 ≡ c ∷ rest = second_same _ _ _ _ e in
    rw (later found.0 found.1 refl, q, r) refl

after_legacy_more : (l : LegacySet) (byte : ℕ) (bytes more : List ℕ) (p : Prefix) (c : ℕ) (rest : List ℕ) → after_legacy l (rex_at (byte ∷ bytes)) ≡ Some (p, c ∷ rest) → after_legacy l (rex_at (byte ∷ (bytes ++ more))) ≡ Some (p, c ∷ (rest ++ more))
after_legacy_more l byte bytes more p c rest h =
    let e = same_Some _ _ h in
    let r : (rex_at (byte ∷ bytes)).1 ≡ c ∷ rest = second_same _ _ _ _ e in
    let q : legacy_prefix l (rex_at (byte ∷ bytes)).0 ≡ p = first_same _ _ _ _ e in
    let pair : rex_at (byte ∷ bytes) ≡ ((rex_at (byte ∷ bytes)).0, c ∷ rest) = ap (λ (z : List ℕ). ((rex_at (byte ∷ bytes)).0, z)) r in
    rw (rex_at_more byte bytes more (rex_at (byte ∷ bytes)).0 c rest pair, q) refl

none_left : (l : LegacySet) (t : Bool) (p : Prefix) (c : ℕ) (rest : List ℕ) → (if t && false then after_vex (vex_at []) else after_legacy l (rex_at [])) ≡ Some (p, c ∷ rest) → ⊥
unfolding vex_at rex_at
none_left l true p c rest h = let q : ◌≡◌ {A = List ℕ} [] (c ∷ rest) = second_same _ _ _ _ (same_Some _ _ h) in cc
none_left l false p c rest h = let q : ◌≡◌ {A = List ℕ} [] (c ∷ rest) = second_same _ _ _ _ (same_Some _ _ h) in cc

prefix_by : (l : LegacySet) (ls bytes more : List ℕ) (p : Prefix) (c : ℕ) (rest : List ℕ) → legacy_at no_legacy bytes ≡ (l, ls) → (if is_no_legacy l && begins_vex ls then after_vex (vex_at ls) else after_legacy l (rex_at ls)) ≡ Some (p, c ∷ rest) → prefix_at (bytes ++ more) ≡ Some (p, c ∷ (rest ++ more))
unfolding prefix_at
prefix_by l [] bytes more p c rest e h = absurd (none_left l (is_no_legacy l) p c rest h)
prefix_by l (d ∷ ls) bytes more p c rest e h = rw (legacy_at_more no_legacy bytes more l d ls e)
    (choice (is_no_legacy l && begins_vex (d ∷ ls)) _ _ _ _ _ _
    (after_vex_more (vex_at (d ∷ ls)) (vex_at (d ∷ (ls ++ more))) more p c rest (vex_at_more (d ∷ ls) more))
    (after_legacy_more l d ls more p c rest) h)

-- a prefix that something follows is read of longer bytes too
pub prefix_at_more : (bytes more : List ℕ) (p : Prefix) (c : ℕ) (rest : List ℕ) → prefix_at bytes ≡ Some (p, c ∷ rest) → prefix_at (bytes ++ more) ≡ Some (p, c ∷ (rest ++ more))
unfolding prefix_at
prefix_at_more bytes more p c rest h = prefix_by (legacy_at no_legacy bytes).0 (legacy_at no_legacy bytes).1 bytes more p c rest refl h

after_more : (opcode bytes more rest : List ℕ) → after opcode bytes ≡ Some rest → after opcode (bytes ++ more) ≡ Some (rest ++ more)
unfolding after
after_more [] bytes more rest h = ap (λ (o : Option (List ℕ)). option_map (λ r. r ++ more) o) h
after_more (c ∷ opcode) [] more rest h = cc
after_more (c ∷ opcode) (byte ∷ bytes) more rest h = choice (c == byte) _ _ _ _ _ _ (after_more opcode bytes more rest) (λ e. cc) h

digit_more : (tail : TailField) (bytes more : List ℕ) → digit_matches tail bytes ≡ true → digit_matches tail (bytes ++ more) ≡ true
digit_more NoTail bytes more h = refl
digit_more (Modrm reg place) [] more h = cc
digit_more (Modrm reg place) (byte ∷ bytes) more h = h

opcode_more : (line : Line) (bytes more rest : List ℕ) → opcode_at line bytes ≡ Some rest → opcode_at line (bytes ++ more) ≡ Some (rest ++ more)
opcode_more line bytes more rest h =
    let b = behind line bytes rest h in
    let d : digit_matches line.tail (rest ++ more) ≡ true = digit_more line.tail rest more b.digit in
    rw (after_more (opcode_bytes line.opcode) bytes more rest b.opcode, d) refl

pub matched_at_more : (line : Line) (p : Prefix) (bytes more rest : List ℕ) → matched_at line p bytes ≡ Some rest → matched_at line p (bytes ++ more) ≡ Some (rest ++ more)
matched_at_more line p bytes more rest h = choice (prefix_matches line p) _ _ _ _ _ _ (opcode_more line bytes more rest) (λ e. cc) h

-- the row that is found matches
pub row_matches : (p : Prefix) (bytes : List ℕ) (rows : List Row) (row : Row) (rest : List ℕ) → row_at rows p bytes ≡ Some (row, rest) → matched_at (line_of row) p bytes ≡ Some rest
unfolding row_at
row_matches p bytes [] row rest h = cc
row_matches p bytes (other ∷ rows) row rest h = first_or_later p bytes other row rest rows (matched_at (line_of other) p bytes) refl h (row_matches p bytes rows row rest)
  where
    first_or_later : (p : Prefix) (bytes : List ℕ) (other row : Row) (rest : List ℕ) (rows : List Row) (o : Option (List ℕ)) → matched_at (line_of other) p bytes ≡ o → or_later (option_map {T = List ℕ} {U = Row × List ℕ} (λ r. (other, r)) o) (row_at rows p bytes) ≡ Some (row, rest) → (row_at rows p bytes ≡ Some (row, rest) → matched_at (line_of row) p bytes ≡ Some rest) → matched_at (line_of row) p bytes ≡ Some rest
    first_or_later p bytes other row rest rows None e h later = later h
    first_or_later p bytes other row rest rows (Some r) e h later =
        let k = same_Some _ _ h in
        let same : other ≡ row = first_same _ _ _ _ k in
        let left : r ≡ rest = second_same _ _ _ _ k in
        rw (← same, ← left) e

imm_at_more : (field : ImmField) (bytes more : List ℕ) (r : Option ℤ × List ℕ) → imm_at field bytes ≡ Some r → imm_at field (bytes ++ more) ≡ Some (r.0, r.1 ++ more)
imm_at_more NoImm bytes more r h =
    let e = same_Some _ _ h in
    let p : ◌≡◌ {A = Option ℤ} None r.0 = ap (λ (z : Option ℤ × List ℕ). z.0) e in
    let q : bytes ≡ r.1 = ap (λ (z : Option ℤ × List ℕ). z.1) e in
    rw (← p, ← q) refl
imm_at_more (Imm size) bytes more r h = mapped (λ (n : ℕ). Some (pos n)) (number_at size bytes) (number_at size (bytes ++ more)) more r (number_at_more size bytes more) h
imm_at_more (Simm size) bytes more r h = mapped (λ (n : ℕ). Some (signed_of size n)) (number_at size bytes) (number_at size (bytes ++ more)) more r (number_at_more size bytes more) h

-- what is found, with more behind it
abbrev pub with_more : {K : Type 0} → List ℕ → FoundOf K → FoundOf K
with_more more found = record { parts = found.parts; tail = found.tail; rest = found.rest ++ more }

bare_more : {K : Type 0} (row : K) (line : Line) (p : Prefix) (o o' : Option (Option ℤ × List ℕ)) (more : List ℕ) (found : FoundOf K) → ((r : Option ℤ × List ℕ) → o ≡ Some r → o' ≡ Some (r.0, r.1 ++ more)) → option_map {T = Option ℤ × List ℕ} {U = FoundOf K} (λ i. record { parts = record { row = row; reg = None; vvvv = vvvv_at line.prefix p; place = None; imm = i.0 }; tail = 0; rest = i.1 }) o ≡ Some found → option_map {T = Option ℤ × List ℕ} {U = FoundOf K} (λ i. record { parts = record { row = row; reg = None; vvvv = vvvv_at line.prefix p; place = None; imm = i.0 }; tail = 0; rest = i.1 }) o' ≡ Some (with_more more found)
bare_more row line p None o' more found later h = cc
bare_more row line p (Some r) o' more found later h =
    let e = same_Some _ _ h in
    rw (later r refl, ← e) refl

pub left_length : (bytes rest more : List ℕ) → length (bytes ++ more) - length (rest ++ more) ≡ length bytes - length rest
left_length bytes rest more = omega (arith, length-append bytes more, length-append rest more)

imm_more : {K : Type 0} (row : K) (line : Line) (reg : RegField) (p : Prefix) (bytes more : List ℕ) (t : Tail) (place : Place) (o o' : Option (Option ℤ × List ℕ)) (found : FoundOf K) → ((r : Option ℤ × List ℕ) → o ≡ Some r → o' ≡ Some (r.0, r.1 ++ more)) → option_map {T = Option ℤ × List ℕ} {U = FoundOf K} (λ i. record { parts = record { row = row; reg = reg_view reg p t.reg; vvvv = vvvv_at line.prefix p; place = Some place; imm = i.0 }; tail = length bytes - length t.rest; rest = i.1 }) o ≡ Some found → option_map {T = Option ℤ × List ℕ} {U = FoundOf K} (λ i. record { parts = record { row = row; reg = reg_view reg p t.reg; vvvv = vvvv_at line.prefix p; place = Some place; imm = i.0 }; tail = length (bytes ++ more) - length (t.rest ++ more); rest = i.1 }) o' ≡ Some (with_more more found)
imm_more row line reg p bytes more t place None o' found later h = cc
imm_more row line reg p bytes more t place (Some r) o' found later h =
    let e = same_Some _ _ h in
    rw (later r refl, ← e, left_length bytes t.rest more) refl

place_more : {K : Type 0} (row : K) (line : Line) (reg : RegField) (field : PlaceField) (p : Prefix) (bytes more : List ℕ) (t : Tail) (o : Option Place) (found : FoundOf K) → option_and_then {T = Place} {U = FoundOf K} (λ place. option_map (λ i. record { parts = record { row = row; reg = reg_view reg p t.reg; vvvv = vvvv_at line.prefix p; place = Some place; imm = i.0 }; tail = length bytes - length t.rest; rest = i.1 }) (imm_at line.imm t.rest)) o ≡ Some found → option_and_then {T = Place} {U = FoundOf K} (λ place. option_map (λ i. record { parts = record { row = row; reg = reg_view reg p t.reg; vvvv = vvvv_at line.prefix p; place = Some place; imm = i.0 }; tail = length (bytes ++ more) - length (t.rest ++ more); rest = i.1 }) (imm_at line.imm (t.rest ++ more))) o ≡ Some (with_more more found)
place_more row line reg field p bytes more t None found h = cc
place_more row line reg field p bytes more t (Some place) found h = imm_more row line reg p bytes more t place (imm_at line.imm t.rest) (imm_at line.imm (t.rest ++ more)) found (imm_at_more line.imm t.rest more) h

tail_more : {K : Type 0} (row : K) (line : Line) (reg : RegField) (field : PlaceField) (p : Prefix) (bytes more : List ℕ) (o o' : Option Tail) (found : FoundOf K) → ((t : Tail) → o ≡ Some t → o' ≡ Some (longer more t)) → option_and_then {T = Tail} {U = FoundOf K} (λ t. option_and_then (λ place. option_map (λ i. record { parts = record { row = row; reg = reg_view reg p t.reg; vvvv = vvvv_at line.prefix p; place = Some place; imm = i.0 }; tail = length bytes - length t.rest; rest = i.1 }) (imm_at line.imm t.rest)) (place_at field p t.place)) o ≡ Some found → option_and_then {T = Tail} {U = FoundOf K} (λ t. option_and_then (λ place. option_map (λ i. record { parts = record { row = row; reg = reg_view reg p t.reg; vvvv = vvvv_at line.prefix p; place = Some place; imm = i.0 }; tail = length (bytes ++ more) - length t.rest; rest = i.1 }) (imm_at line.imm t.rest)) (place_at field p t.place)) o' ≡ Some (with_more more found)
tail_more row line reg field p bytes more None o' found later h = cc
tail_more row line reg field p bytes more (Some t) o' found later h =
    rw (later t refl) (place_more row line reg field p bytes more t (place_at field p t.place) found h)

pub operands_more : (field : TailField) {K : Type 0} (row : K) (line : Line) (p : Prefix) (bytes more : List ℕ) (found : FoundOf K) → operands_of field row line p bytes ≡ Some found → operands_of field row line p (bytes ++ more) ≡ Some (with_more more found)
operands_more NoTail row line p bytes more found h = bare_more row line p (imm_at line.imm bytes) (imm_at line.imm (bytes ++ more)) more found (imm_at_more line.imm bytes more) h
operands_more (Modrm reg field) row line p bytes more found h = tail_more row line reg field p bytes more (read_tail (x_of p) (b_of p) 1 bytes) (read_tail (x_of p) (b_of p) 1 (bytes ++ more)) found (read_tail_more (x_of p) (b_of p) 1 bytes more) h

pub operands_at_more : (row : Row) (p : Prefix) (bytes more : List ℕ) (found : Found) → operands_at row p bytes ≡ Some found → operands_at row p (bytes ++ more) ≡ Some (with_more more found)
unfolding operands_at
operands_at_more row p bytes more found h = operands_more (line_of row).tail row (line_of row) p bytes more found h

-- the steps by which an instruction is found
pub record Steps (bytes : List ℕ) (found : Found) : Type 0 where
  pub prefix : Prefix
  pub behind : List ℕ
  pub row : Row
  pub rest : List ℕ
  pub prefix_is : prefix_at bytes ≡ Some (prefix, behind)
  pub row_is : row_at all_rows prefix behind ≡ Some (row, rest)
  pub operands_are : operands_at row prefix rest ≡ Some found

row_step : (bytes : List ℕ) (p : Prefix) (left : List ℕ) (o : Option (Row × List ℕ)) (found : Found) → prefix_at bytes ≡ Some (p, left) → row_at all_rows p left ≡ o → option_and_then {T = Row × List ℕ} {U = Found} (λ row. operands_at row.0 p row.1) o ≡ Some found → Steps bytes found
row_step bytes p left None found hp hr h = cc
row_step bytes p left (Some r) found hp hr h = record { prefix = p; behind = left; row = r.0; rest = r.1; prefix_is = hp; row_is = hr; operands_are = h }

prefix_step : (bytes : List ℕ) (o : Option (Prefix × List ℕ)) (found : Found) → prefix_at bytes ≡ o → option_and_then {T = Prefix × List ℕ} {U = Found} (λ p. option_and_then {T = Row × List ℕ} {U = Found} (λ row. operands_at row.0 p.0 row.1) (row_at all_rows p.0 p.1)) o ≡ Some found → Steps bytes found
prefix_step bytes None found hp h = cc
prefix_step bytes (Some p) found hp h = row_step bytes p.0 p.1 (row_at all_rows p.0 p.1) found hp refl h

pub steps : (bytes : List ℕ) (found : Found) → find bytes ≡ Some found → Steps bytes found
unfolding find
steps bytes found h = prefix_step bytes (prefix_at bytes) found refl h

is_cons : List ℕ → Bool
is_cons [] = false
is_cons (c ∷ bytes) = true

has_opcode : (opcode : Opcode) → is_cons (opcode_bytes opcode) ≡ true
unfolding is_cons
has_opcode opcode = by_escape opcode.escape
  where
    by_escape : (escape : Bool) → is_cons (if escape then (0x0F ∷ opcode.byte ∷ []) else (opcode.byte ∷ [])) ≡ true
    by_escape true = refl
    by_escape false = refl

after_none : (opcode rest : List ℕ) → is_cons opcode ≡ true → after opcode [] ≡ Some rest → ⊥
unfolding is_cons after
after_none [] rest n h = cc
after_none (c ∷ opcode) rest n h = cc

nothing_matches : (line : Line) (p : Prefix) (rest : List ℕ) → matched_at line p [] ≡ Some rest → ⊥
nothing_matches line p rest h =
    let b = behind line [] rest (some_if (prefix_matches line p) (opcode_at line []) rest h).1 in
    after_none (opcode_bytes line.opcode) rest (has_opcode line.opcode) b.opcode

-- a prefix that a match follows is read of longer bytes too
pub prefix_matched_more : (line : Line) (bytes left more rest : List ℕ) (p : Prefix) → prefix_at bytes ≡ Some (p, left) → matched_at line p left ≡ Some rest → prefix_at (bytes ++ more) ≡ Some (p, left ++ more)
prefix_matched_more line bytes [] more rest p hp hm = absurd (nothing_matches line p rest hm)
prefix_matched_more line bytes (c ∷ left) more rest p hp hm = prefix_at_more bytes more p c left hp

behind_more : (row : Row) (bytes left more rest : List ℕ) (p : Prefix) (found : Found) → prefix_at bytes ≡ Some (p, left) → row_at all_rows p left ≡ Some (row, rest) → operands_at row p rest ≡ Some found → find (bytes ++ more) ≡ Some (with_more more found)
unfolding find
behind_more row bytes left more rest p found hp hr ho =
    let m : matched_at (line_of row) p left ≡ Some rest = row_matches p left all_rows row rest hr in
    rw (prefix_matched_more (line_of row) bytes left more rest p hp m, row_found row p (left ++ more) (rest ++ more) (matched_at_more (line_of row) p left more rest m), operands_at_more row p rest more found ho) refl

-- an instruction is found at the front of longer bytes too
pub find_more : (bytes more : List ℕ) (found : Found) → find bytes ≡ Some found → find (bytes ++ more) ≡ Some (with_more more found)
find_more bytes more found h = let s = steps bytes found h in behind_more s.row bytes s.behind more s.rest s.prefix found s.prefix_is s.row_is s.operands_are

nothing_more : (a more : List ℕ) → a ++ more ≡ [] → more ≡ []
nothing_more [] more h = h
nothing_more (c ∷ a) more h = cc

-- no bytes of an instruction are a proper front of another's
pub whole_no_front : (b more : List ℕ) (first second : Found) → find b ≡ Some first → first.rest ≡ [] → find (b ++ more) ≡ Some second → second.rest ≡ [] → more ≡ []
whole_no_front b more first second h he k ke =
    let e : second ≡ with_more more first = same_Some _ _ (sym k ∙ find_more b more first h) in
    let r : second.rest ≡ first.rest ++ more = ap (λ (z : Found). z.rest) e in
    nothing_more first.rest more (sym r ∙ ke)

-- no bytes, no instruction
find_nothing : find [] ≡ None
unfolding find prefix_at legacy_at rex_at row_at all_rows line_of after
find_nothing = refl

read_by : (bytes : List ℕ) (o : Option Found) (r : Reading) → option_map {T = Found} {U = Reading} (reading_of bytes) o ≡ Some r → (found : Found) × (o ≡ Some found) × (reading_of bytes found ≡ r)
read_by bytes None r h = cc
read_by bytes (Some found) r h = (found, refl, same_Some _ _ h)

-- a reading is of an instruction that is found
pub read_found : (bytes : List ℕ) (r : Reading) → read bytes ≡ Some r → (found : Found) × (find bytes ≡ Some found) × (reading_of bytes found ≡ r)
unfolding read
read_found bytes r h = read_by bytes (find bytes) r h

no_length : (rest : List ℕ) → length rest ≡ 0 → rest ≡ []
no_length [] h = refl
no_length (c ∷ rest) h = absurd (omega arith)

all_is_read : (bytes : List ℕ) (found : Found) → find bytes ≡ Some found → length bytes - length found.rest ≡ length bytes → found.rest ≡ []
all_is_read [] found h e = let n : ◌≡◌ {A = Option Found} None (Some found) = sym find_nothing ∙ h in cc
all_is_read (c ∷ bytes) found h e = no_length found.rest (omega arith)

-- the bytes of a reading that reads all of them
pub reading_no_front : (t more : List ℕ) (first second : Reading) → read t ≡ Some first → first.length ≡ length t → read (t ++ more) ≡ Some second → second.length ≡ length (t ++ more) → more ≡ []
reading_no_front t more first second h e k d =
    let a = read_found t first h in
    let b = read_found (t ++ more) second k in
    let la : length t - length a.0.rest ≡ length t = ap (λ (z : Reading). z.length) a.2 ∙ e in
    let lb : length (t ++ more) - length b.0.rest ≡ length (t ++ more) = ap (λ (z : Reading). z.length) b.2 ∙ d in
    whole_no_front t more a.0 b.0 a.1 (all_is_read t a.0 a.1 la) b.1 (all_is_read (t ++ more) b.0 b.1 lb)

-- a reading, whatever follows
pub read_more : (t more : List ℕ) (r : Reading) → read t ≡ Some r → read (t ++ more) ≡ Some r
unfolding read
read_more t more r h =
    let a = read_by t (find t) r h in
    rw (find_more t more a.0 a.1, left_length t a.0.rest more) (ap Some a.2)
