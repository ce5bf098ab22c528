use Rattle.std.proofs.Common.{◌≡◌, ℕ, zero, suc, arith, ◌-◌, ◌≤◌, ◌<◌, List, [], ◌∷◌, ◌++◌, true, refl, ◌∙◌, ap, sym, subst, Option, Some, None, ℤ, length}
use Rattle.std.specs.Prelude.{Contains, slice_index_or, option_map, option_and_then}
use Rattle.std.proofs.lemmas.Bool.{and_parts}
use Rattle.std.proofs.lemmas.Option.{same_Some}
use Rattle.cax64_machine_code.specs.Apart.{apart, apart_from, each_two}
use Rattle.cax64_machine_code.specs.Line.{opcode_bytes, prefix_matches}
use Rattle.cax64_machine_code.specs.Prefix.{Prefix, prefix_at, x_of, b_of}
use Rattle.cax64_machine_code.specs.Reading.{PartsOf, FoundOf, Found, imm_at, place_at, reg_view, vvvv_at, matched_at, operands_of, operands_at, or_later, row_at, find, read, reading_of}
use Rattle.cax64_machine_code.specs.ReadLine.{LineReading, ReadsLineAs, find_line, line_reading_of, read_line, or_else, read_of, with_line, as_row, parts_as, lines_of}
use Rattle.cax64_machine_code.specs.Rows.{line_of, all_rows}
use Rattle.cax64_machine_code.specs.Sequence.{ReadsAs}
use Rattle.cax64_machine_code.specs.Tail.{Tail, IsTail, read_tail}
use Rattle.cax64_machine_code.specs.declared.line.Line.{Line}
use Rattle.cax64_machine_code.specs.declared.line.PlaceField.{PlaceField}
use Rattle.cax64_machine_code.specs.declared.line.RegField.{RegField}
use Rattle.cax64_machine_code.specs.declared.line.TailField.{TailField}
use Rattle.cax64_machine_code.specs.declared.line.TailField.TheVariants.{NoTail, Modrm}
use Rattle.cax64_machine_code.specs.declared.reading.Place.{Place}
use Rattle.cax64_machine_code.specs.declared.reading.Reading.{Reading}
use Rattle.cax64_machine_code.specs.declared.row.Row.{Row}
use Rattle.cax64_machine_code.proofs.Apart.{apart_from_all, all_apart}
use Rattle.cax64_machine_code.proofs.Matched.{find_is, length_left}
use Rattle.cax64_machine_code.proofs.Table.{table_apart}
use Rattle.cax64_machine_code.proofs.Uniqueness.{excluded}
use Rattle.cax64_machine_code.proofs.Whole.{row_matches, steps, read_found, with_more, matched_at_more, operands_more, prefix_matched_more, left_length}
use Rattle.cax64_machine_code.proofs.Written.{IsPrefix, IsImm, BeginsWith, DigitIs, prefixed, matched, bare_matches, tail_matches, tail_length}

-- An instruction is found by its line alone, and what is so found is what its row is read as.

-- The parts of an instruction, put one behind the other, are found again by the line.

pub line_finds : (bytes after rest : List ℕ) (p : Prefix) (line : Line) (found : FoundOf Line) → prefix_at bytes ≡ Some (p, after) → matched_at line p after ≡ Some rest → operands_of line.tail line line p rest ≡ Some found → find_line line bytes ≡ Some found
unfolding find_line
line_finds bytes after rest p line found hp hm ho = rw (hp, hm, ho) refl

bare_operands_are : {K : Type 0} (key : K) (line : Line) (p : Prefix) (value : Option ℤ) (ib rest : List ℕ) → line.tail ≡ NoTail → IsImm line.imm value ib → operands_of line.tail key line p (ib ++ rest) ≡ Some (record { parts = record { row = key; reg = None; vvvv = vvvv_at line.prefix p; place = None; imm = value }; tail = 0; rest = rest })
bare_operands_are key line p value ib rest e h = rw (e, h.reads rest) refl

pub bare_line_found : (line : Line) (p : Prefix) (first : ℕ) (pre ib rest : List ℕ) (value : Option ℤ) → IsPrefix p first pre → BeginsWith first (opcode_bytes line.opcode) → prefix_matches line p ≡ true → line.tail ≡ NoTail → IsImm line.imm value ib → find_line line (pre ++ (opcode_bytes line.opcode ++ (ib ++ rest))) ≡ Some (record { parts = record { row = line; reg = None; vvvv = vvvv_at line.prefix p; place = None; imm = value }; tail = 0; rest = rest })
bare_line_found line p first pre ib rest value hp ho hm ht hi =
    line_finds (pre ++ (opcode_bytes line.opcode ++ (ib ++ rest))) (opcode_bytes line.opcode ++ (ib ++ rest)) (ib ++ rest) p line _
    (prefixed p first pre (opcode_bytes line.opcode) (ib ++ rest) hp ho)
    (matched line p (ib ++ rest) hm (bare_matches line (ib ++ rest) ht))
    (bare_operands_are line line p value ib rest ht hi)

tail_operands_are : {K : Type 0} (key : K) (line : Line) (p : Prefix) (field : RegField) (place_field : PlaceField) (reg : ℕ) (place named : Place) (value : Option ℤ) (t ib rest : List ℕ) → line.tail ≡ Modrm field place_field → IsTail (x_of p) (b_of p) 1 reg place t → place_at place_field p place ≡ Some named → IsImm line.imm value ib → operands_of line.tail key line p (t ++ (ib ++ rest)) ≡ Some (record { parts = record { row = key; reg = reg_view field p reg; vvvv = vvvv_at line.prefix p; place = Some named; imm = value }; tail = length t; rest = rest })
tail_operands_are key line p field place_field reg place named value t ib rest e h hn hi = rw (e, h.reads (ib ++ rest), hn, hi.reads rest, tail_length t (ib ++ rest)) refl

pub tail_line_found : (line : Line) (p : Prefix) (first : ℕ) (field : RegField) (place_field : PlaceField) (reg : ℕ) (place named : Place) (pre t ib rest : List ℕ) (value : Option ℤ) → IsPrefix p first pre → BeginsWith first (opcode_bytes line.opcode) → prefix_matches line p ≡ true → line.tail ≡ Modrm field place_field → IsTail (x_of p) (b_of p) 1 reg place t → DigitIs field reg → place_at place_field p place ≡ Some named → IsImm line.imm value ib → find_line line (pre ++ (opcode_bytes line.opcode ++ (t ++ (ib ++ rest)))) ≡ Some (record { parts = record { row = line; reg = reg_view field p reg; vvvv = vvvv_at line.prefix p; place = Some named; imm = value }; tail = length t; rest = rest })
tail_line_found line p first field place_field reg place named pre t ib rest value hp ho hm ht h hd hn hi =
    line_finds (pre ++ (opcode_bytes line.opcode ++ (t ++ (ib ++ rest)))) (opcode_bytes line.opcode ++ (t ++ (ib ++ rest))) (t ++ (ib ++ rest)) p line _
    (prefixed p first pre (opcode_bytes line.opcode) (t ++ (ib ++ rest)) hp ho)
    (matched line p (t ++ (ib ++ rest)) hm (tail_matches line field place_field (x_of p) (b_of p) 1 reg place t (ib ++ rest) ht h hd))
    (tail_operands_are line line p field place_field reg place named value t ib rest ht h hn hi)

-- what is found whatever follows is a reading of these bytes
pub reads_line_as : (parts : PartsOf Line) (tail : ℕ) (b : List ℕ) → ((rest : List ℕ) → find_line parts.row (b ++ rest) ≡ Some (record { parts = parts; tail = tail; rest = rest })) → 1 ≤ length b → length b ≤ 13 → ReadsLineAs parts b
unfolding read_line
reads_line_as parts tail b h least most = record {
  reading = record { line = parts.row; length = length b; tail = tail; reg = parts.reg; vvvv = parts.vvvv; place = parts.place; imm = parts.imm };
  reads = λ rest. rw (h rest, length_left b rest) refl;
  same = refl;
  length = refl;
  least = least;
  most = most;
}

-- The same with another name of the line.

abbrev pub found_as : {K L : Type 0} → L → FoundOf K → FoundOf L
found_as key found = record { parts = parts_as key found.parts; tail = found.tail; rest = found.rest }

abbrev tail_made : {J : Type 0} → J → Line → RegField → Prefix → List ℕ → Tail → Place → Option ℤ × List ℕ → FoundOf J
tail_made key line reg p bytes t place i = record { parts = record { row = key; reg = reg_view reg p t.reg; vvvv = vvvv_at line.prefix p; place = Some place; imm = i.0 }; tail = length bytes - length t.rest; rest = i.1 }

other_name : {K L : Type 0} (k : K) (l : L) (field : TailField) (line : Line) (p : Prefix) (bytes : List ℕ) → operands_of field l line p bytes ≡ option_map {T = FoundOf K} {U = FoundOf L} (found_as l) (operands_of field k line p bytes)
other_name {K} {L} k l NoTail line p bytes = by_imm (imm_at line.imm bytes)
  where
    by_imm : (o : Option (Option ℤ × List ℕ)) → option_map {T = Option ℤ × List ℕ} {U = FoundOf L} (λ i. record { parts = record { row = l; reg = None; vvvv = vvvv_at line.prefix p; place = None; imm = i.0 }; tail = 0; rest = i.1 }) o ≡ option_map {T = FoundOf K} {U = FoundOf L} (found_as l) (option_map {T = Option ℤ × List ℕ} {U = FoundOf K} (λ i. record { parts = record { row = k; reg = None; vvvv = vvvv_at line.prefix p; place = None; imm = i.0 }; tail = 0; rest = i.1 }) o)
    by_imm None = refl
    by_imm (Some i) = refl
other_name {K} {L} k l (Modrm reg field) line p bytes = by_tail (read_tail (x_of p) (b_of p) 1 bytes)
  where
    by_imm : (t : Tail) (place : Place) (o : Option (Option ℤ × List ℕ)) → option_map (tail_made l line reg p bytes t place) o ≡ option_map {T = FoundOf K} {U = FoundOf L} (found_as l) (option_map (tail_made k line reg p bytes t place) o)
    by_imm t place None = refl
    by_imm t place (Some i) = refl

    by_place : (t : Tail) (o : Option Place) → option_and_then {T = Place} {U = FoundOf L} (λ place. option_map (tail_made l line reg p bytes t place) (imm_at line.imm t.rest)) o ≡ option_map {T = FoundOf K} {U = FoundOf L} (found_as l) (option_and_then {T = Place} {U = FoundOf K} (λ place. option_map (tail_made k line reg p bytes t place) (imm_at line.imm t.rest)) o)
    by_place t None = refl
    by_place t (Some place) = by_imm t place (imm_at line.imm t.rest)

    by_tail : (o : Option Tail) → option_and_then {T = Tail} {U = FoundOf L} (λ t. option_and_then (λ place. option_map (λ i. record { parts = record { row = l; reg = reg_view reg p t.reg; vvvv = vvvv_at line.prefix p; place = Some place; imm = i.0 }; tail = length bytes - length t.rest; rest = i.1 }) (imm_at line.imm t.rest)) (place_at field p t.place)) o ≡ option_map {T = FoundOf K} {U = FoundOf L} (found_as l) (option_and_then {T = Tail} {U = FoundOf K} (λ t. option_and_then (λ place. option_map (λ i. record { parts = record { row = k; reg = reg_view reg p t.reg; vvvv = vvvv_at line.prefix p; place = Some place; imm = i.0 }; tail = length bytes - length t.rest; rest = i.1 }) (imm_at line.imm t.rest)) (place_at field p t.place)) o)
    by_tail None = refl
    by_tail (Some t) = by_place t (place_at field p t.place)

-- the steps by which a line finds
pub record LineSteps (line : Line) (bytes : List ℕ) (found : FoundOf Line) : Type 0 where
  pub prefix : Prefix
  pub behind : List ℕ
  pub rest : List ℕ
  pub prefix_is : prefix_at bytes ≡ Some (prefix, behind)
  pub matched : matched_at line prefix behind ≡ Some rest
  pub operands_are : operands_of line.tail line line prefix rest ≡ Some found

pub line_steps : (line : Line) (bytes : List ℕ) (found : FoundOf Line) → find_line line bytes ≡ Some found → LineSteps line bytes found
unfolding find_line
line_steps line bytes found h = by_prefix (prefix_at bytes) refl h
  where
    by_match : (p : Prefix) (left : List ℕ) (o : Option (List ℕ)) → prefix_at bytes ≡ Some (p, left) → matched_at line p left ≡ o → option_and_then {T = List ℕ} {U = FoundOf Line} (λ rest. operands_of line.tail line line p rest) o ≡ Some found → LineSteps line bytes found
    by_match p left None ep em k = cc
    by_match p left (Some rest) ep em k = record { prefix = p; behind = left; rest = rest; prefix_is = ep; matched = em; operands_are = k }

    by_prefix : (o : Option (Prefix × List ℕ)) → prefix_at bytes ≡ o → option_and_then {T = Prefix × List ℕ} {U = FoundOf Line} (λ p. option_and_then (λ rest. operands_of line.tail line line p.0 rest) (matched_at line p.0 p.1)) o ≡ Some found → LineSteps line bytes found
    by_prefix None ep k = cc
    by_prefix (Some p) ep k = by_match p.0 p.1 (matched_at line p.0 p.1) ep refl k

line_finds_more : (line : Line) (bytes more : List ℕ) (found : FoundOf Line) → find_line line bytes ≡ Some found → find_line line (bytes ++ more) ≡ Some (with_more more found)
line_finds_more line bytes more found h =
    let s = line_steps line bytes found h in
    line_finds (bytes ++ more) (s.behind ++ more) (s.rest ++ more) s.prefix line (with_more more found)
    (prefix_matched_more line bytes s.behind more s.rest s.prefix s.prefix_is s.matched)
    (matched_at_more line s.prefix s.behind more s.rest s.matched)
    (operands_more line.tail line line s.prefix s.rest more found s.operands_are)

-- what the line of a row finds is found
pub row_finds : (row : Row) (bytes : List ℕ) (found : FoundOf Line) → find_line (line_of row) bytes ≡ Some found → find bytes ≡ Some (found_as row found)
unfolding operands_at
row_finds row bytes found h =
    let s = line_steps (line_of row) bytes found h in
    let line = line_of row in
    find_is bytes s.behind s.rest s.prefix row (found_as row found) s.prefix_is s.matched
    (other_name line row line.tail line s.prefix s.rest ∙ ap (option_map {T = FoundOf Line} {U = Found} (found_as row)) s.operands_are)

found_by : (bytes : List ℕ) (o : Option (FoundOf Line)) (r : LineReading) → option_map {T = FoundOf Line} {U = LineReading} (line_reading_of bytes) o ≡ Some r → (found : FoundOf Line) × (o ≡ Some found) × (line_reading_of bytes found ≡ r)
found_by bytes None r h = cc
found_by bytes (Some found) r h = (found, refl, same_Some _ _ h)

-- what a line reads it reads whatever follows
pub line_more : (line : Line) (bytes more : List ℕ) (r : LineReading) → read_line line bytes ≡ Some r → read_line line (bytes ++ more) ≡ Some r
unfolding read_line
line_more line bytes more r h =
    let f = found_by bytes (find_line line bytes) r h in
    rw (line_finds_more line bytes more f.0 f.1, left_length bytes f.0.rest more) (ap Some f.2)

-- what the line of a row reads is read as the row
pub row_reads : (row : Row) (bytes : List ℕ) (r : LineReading) → read_line (line_of row) bytes ≡ Some r → read bytes ≡ Some (as_row row r)
unfolding read read_line
row_reads row bytes r h =
    let f = found_by bytes (find_line (line_of row) bytes) r h in
    rw (row_finds row bytes f.0 f.1) (ap (λ (z : LineReading). Some (as_row row z)) f.2)

-- So bytes that read by a row's line, whatever follows, read as the row.
unfoldable pub row_reads_as : (row : Row) (meant : PartsOf Line) (b : List ℕ) → meant.row ≡ line_of row → ReadsLineAs meant b → ReadsAs (parts_as row meant) b
row_reads_as row meant b e h = record {
  reading = as_row row h.reading;
  reads = λ rest. row_reads row (b ++ rest) h.reading (ap (λ (l : Line). read_line l (b ++ rest)) (sym e) ∙ h.reads rest);
  same = ap (λ (z : PartsOf Line). parts_as row z) h.same;
  length = h.length;
  least = h.least;
  most = h.most;
}

-- The reader of a table.

pub data IsLineIn (line : Line) : List Line → Type 0 where
  first : {lines : List Line} → IsLineIn line (line ∷ lines)
  later : {other : Line} {lines : List Line} → IsLineIn line lines → IsLineIn line (other ∷ lines)

-- an element of the list by its place
line_in : (lines : List Line) (line : Line) (k : ℕ) → k < length lines → slice_index_or lines k line ≡ line → IsLineIn line lines
line_in [] line k h e = absurd (omega arith)
line_in (other ∷ lines) line zero h e = subst (λ (l : Line). IsLineIn l (other ∷ lines)) e first
line_in (other ∷ lines) line (suc k) h e = later (line_in lines line k (omega arith) e)

pub contained : (lines : List Line) (line : Line) → Contains lines line → IsLineIn line lines
contained lines line c = line_in lines line c.0 c.1 c.2

-- no line reads what another reads that it's apart from
not_read : (line other : Line) (bytes : List ℕ) (p : Prefix) (behind rest : List ℕ) → prefix_at bytes ≡ Some (p, behind) → matched_at line p behind ≡ Some rest → apart line other ≡ true → read_line other bytes ≡ None
unfolding read_line find_line
not_read line other bytes p behind rest hp hm a = rw hp (by_match (matched_at other p behind) refl)
  where
    by_match : (o : Option (List ℕ)) → matched_at other p behind ≡ o → option_map {T = FoundOf Line} {U = LineReading} (line_reading_of bytes) (option_and_then {T = List ℕ} {U = FoundOf Line} (λ rest. operands_of other.tail other other p rest) o) ≡ None
    by_match None e = refl
    by_match (Some s) e = absurd (excluded line other p behind rest s a hm e)

none_read : (line : Line) (lines : List Line) (bytes : List ℕ) (p : Prefix) (behind rest : List ℕ) → prefix_at bytes ≡ Some (p, behind) → matched_at line p behind ≡ Some rest → apart_from line lines ≡ true → read_of lines bytes ≡ None
unfolding read_of
none_read line [] bytes p behind rest hp hm a = refl
none_read line (other ∷ lines) bytes p behind rest hp hm a =
    let q = and_parts (apart line other) (apart_from line lines) a in
    rw (not_read line other bytes p behind rest hp hm q.0, none_read line lines bytes p behind rest hp hm q.1) refl

-- of lines that are apart each two, what one reads is what all read
pub line_reads : (lines : List Line) (line : Line) (bytes : List ℕ) (r : LineReading) → each_two lines ≡ true → IsLineIn line lines → read_line line bytes ≡ Some r → read_of lines bytes ≡ Some r
unfolding read_of read_line
line_reads [] line bytes r h m e = elim m [ ]
line_reads (other ∷ lines) line bytes r h first e = rw e refl
line_reads (other ∷ lines) line bytes r h (later m) e =
    let q = and_parts (apart_from other lines) (each_two lines) h in
    let none : read_line other bytes ≡ None = other_reads_not other lines line bytes r m q.0 e in
    rw (none, line_reads lines line bytes r q.1 m e) refl
  where
    in_apart : (other : Line) (lines : List Line) (line : Line) → IsLineIn line lines → apart_from other lines ≡ true → apart other line ≡ true
    in_apart other [] line m a = elim m [ ]
    in_apart other (next ∷ lines) line first a = (and_parts (apart other line) (apart_from other lines) a).0
    in_apart other (next ∷ lines) line (later m) a = in_apart other lines line m (and_parts (apart other next) (apart_from other lines) a).1

    by_read : (other line : Line) (bytes : List ℕ) (r : LineReading) (o : Option LineReading) → read_line other bytes ≡ o → read_line line bytes ≡ Some r → apart other line ≡ true → o ≡ None
    by_read other line bytes r None eo e a = refl
    by_read other line bytes r (Some s) eo e a =
        let f = found_by bytes (find_line other bytes) s eo in
        let st = line_steps other bytes f.0 f.1 in
        let n : read_line line bytes ≡ None = not_read other line bytes st.prefix st.behind st.rest st.prefix_is st.matched a in
        let bad : ◌≡◌ {A = Option LineReading} None (Some r) = sym n ∙ e in
        cc

    other_reads_not : (other : Line) (lines : List Line) (line : Line) (bytes : List ℕ) (r : LineReading) → IsLineIn line lines → apart_from other lines ≡ true → read_line line bytes ≡ Some r → read_line other bytes ≡ None
    other_reads_not other lines line bytes r m a e = by_read other line bytes r (read_line other bytes) refl e (in_apart other lines line m a)

-- What rows find is what their lines read.

from_lines : (row : Row) (rows : List Row) → apart_from_all row rows ≡ apart_from (line_of row) (lines_of rows)
from_lines row [] = refl
from_lines row (other ∷ rows) = rw (from_lines row rows) refl

two_lines : (rows : List Row) → all_apart rows ≡ each_two (lines_of rows)
two_lines [] = refl
two_lines (row ∷ rows) = rw (from_lines row rows, two_lines rows) refl

abbrev read_rows : List Row → List ℕ → Option Reading
read_rows rows bytes = option_map {T = Found} {U = Reading} (reading_of bytes) (option_and_then (λ p. option_and_then (λ row. operands_at row.0 p.0 row.1) (row_at rows p.0 p.1)) (prefix_at bytes))

-- of lines that are apart from one that matches, none reads
rows_none : (row : Row) (rows : List Row) (bytes : List ℕ) (p : Prefix) (behind rest : List ℕ) → prefix_at bytes ≡ Some (p, behind) → matched_at (line_of row) p behind ≡ Some rest → apart_from_all row rows ≡ true → read_of (lines_of rows) bytes ≡ None
rows_none row rows bytes p behind rest hp hm a = none_read (line_of row) (lines_of rows) bytes p behind rest hp hm (sym (from_lines row rows) ∙ a)

named_so : {K : Type 0} (key : K) (field : TailField) (line : Line) (p : Prefix) (bytes : List ℕ) (found : FoundOf K) → operands_of field key line p bytes ≡ Some found → found.parts.row ≡ key
named_so {K} key field line p bytes found h =
    let e : Some found ≡ option_map {T = FoundOf K} {U = FoundOf K} (found_as key) (operands_of field key line p bytes) = sym h ∙ other_name key key field line p bytes in
    by_same (operands_of field key line p bytes) e
  where
    by_same : (o : Option (FoundOf K)) → Some found ≡ option_map {T = FoundOf K} {U = FoundOf K} (found_as key) o → found.parts.row ≡ key
    by_same None e = cc
    by_same (Some f) e = ap (λ (z : FoundOf K). z.parts.row) (same_Some _ _ e)

by_found : (row : Row) (bytes : List ℕ) (f : Option (FoundOf Line)) (next : Option LineReading) → next ≡ None → ((found : FoundOf Line) → f ≡ Some found → found.parts.row ≡ line_of row) → option_map {T = Reading} {U = LineReading} with_line (option_map {T = Found} {U = Reading} (reading_of bytes) (option_map {T = FoundOf Line} {U = Found} (found_as row) f)) ≡ or_else (option_map {T = FoundOf Line} {U = LineReading} (line_reading_of bytes) f) next
by_found row bytes None next e h = sym e
by_found row bytes (Some found) next e h = rw (h found refl) refl

rows_read : (rows : List Row) (bytes : List ℕ) (p : Prefix) (behind : List ℕ) → prefix_at bytes ≡ Some (p, behind) → all_apart rows ≡ true → option_map {T = Reading} {U = LineReading} with_line (option_map {T = Found} {U = Reading} (reading_of bytes) (option_and_then (λ row. operands_at row.0 p row.1) (row_at rows p behind))) ≡ read_of (lines_of rows) bytes
unfolding read_of read_line find_line row_at operands_at
rows_read [] bytes p behind hp h = refl
rows_read (row ∷ rows) bytes p behind hp h = rw hp (by_match (rows_read rows bytes p behind hp (and_parts (apart_from_all row rows) (all_apart rows) h).1) (matched_at (line_of row) p behind) refl)
  where
    q : (apart_from_all row rows ≡ true) × (all_apart rows ≡ true)
    q = and_parts (apart_from_all row rows) (all_apart rows) h

    by_match : option_map {T = Reading} {U = LineReading} with_line (option_map {T = Found} {U = Reading} (reading_of bytes) (option_and_then (λ row. operands_at row.0 p row.1) (row_at rows p behind))) ≡ read_of (lines_of rows) bytes → (o : Option (List ℕ)) → matched_at (line_of row) p behind ≡ o → option_map {T = Reading} {U = LineReading} with_line (option_map {T = Found} {U = Reading} (reading_of bytes) (option_and_then {T = Row × List ℕ} {U = Found} (λ row. operands_at row.0 p row.1) (or_later (option_map {T = List ℕ} {U = Row × List ℕ} (λ rest. (row, rest)) o) (row_at rows p behind)))) ≡ or_else (option_map {T = FoundOf Line} {U = LineReading} (line_reading_of bytes) (option_and_then {T = List ℕ} {U = FoundOf Line} (λ rest. operands_of (line_of row).tail (line_of row) (line_of row) p rest) o)) (read_of (lines_of rows) bytes)
    by_match i None e = i
    by_match i (Some rest) e =
        rw (other_name (line_of row) row (line_of row).tail (line_of row) p rest)
        (by_found row bytes (operands_of (line_of row).tail (line_of row) (line_of row) p rest) (read_of (lines_of rows) bytes) (rows_none row rows bytes p behind rest hp e q.0) (λ found is. named_so (line_of row) (line_of row).tail (line_of row) p rest found is))

none_without : (lines : List Line) (bytes : List ℕ) → prefix_at bytes ≡ None → read_of lines bytes ≡ None
unfolding read_of read_line find_line
none_without [] bytes h = refl
none_without (line ∷ lines) bytes h = rw (h, none_without lines bytes h) refl

pub lines_apart : each_two (lines_of all_rows) ≡ true
lines_apart = sym (two_lines all_rows) ∙ table_apart

-- what is read is what the lines of the rows read
pub read_is : (bytes : List ℕ) → option_map {T = Reading} {U = LineReading} with_line (read bytes) ≡ read_of (lines_of all_rows) bytes
unfolding read find
read_is bytes = by_prefix (prefix_at bytes) refl
  where
    by_prefix : (o : Option (Prefix × List ℕ)) → prefix_at bytes ≡ o → option_map {T = Reading} {U = LineReading} with_line (option_map {T = Found} {U = Reading} (reading_of bytes) (option_and_then {T = Prefix × List ℕ} {U = Found} (λ p. option_and_then (λ row. operands_at row.0 p.0 row.1) (row_at all_rows p.0 p.1)) o)) ≡ read_of (lines_of all_rows) bytes
    by_prefix None e = sym (none_without (lines_of all_rows) bytes e)
    by_prefix (Some p) e = rows_read all_rows bytes p.0 p.1 e table_apart

pub reads_line_as_tail : (parts : PartsOf Line) (tail : ℕ) (b : List ℕ) (h : (rest : List ℕ) → find_line parts.row (b ++ rest) ≡ Some (record { parts = parts; tail = tail; rest = rest })) (least : 1 ≤ length b) (most : length b ≤ 13) → (reads_line_as parts tail b h least most).reading.tail ≡ tail
unfolding reads_line_as
reads_line_as_tail parts tail b h least most = refl

pub reads_line_as_line : (parts : PartsOf Line) (tail : ℕ) (b : List ℕ) (h : (rest : List ℕ) → find_line parts.row (b ++ rest) ≡ Some (record { parts = parts; tail = tail; rest = rest })) (least : 1 ≤ length b) (most : length b ≤ 13) → (reads_line_as parts tail b h least most).reading.line ≡ parts.row
unfolding reads_line_as
reads_line_as_line parts tail b h least most = refl

-- what is read is read by the line of its row
pub reads_line : (bytes : List ℕ) (r : Reading) → read bytes ≡ Some r → read_line (line_of r.row) bytes ≡ Some (with_line r)
unfolding read_line operands_at
reads_line bytes r h =
    let f = read_found bytes r h in
    let s = steps bytes f.0 f.1 in
    let line = line_of s.row in
    let m : matched_at line s.prefix s.behind ≡ Some s.rest = row_matches s.prefix s.behind all_rows s.row s.rest s.row_is in
    let o : operands_of line.tail line line s.prefix s.rest ≡ Some (found_as line f.0) = other_name s.row line line.tail line s.prefix s.rest ∙ ap (option_map {T = Found} {U = FoundOf Line} (found_as line)) s.operands_are in
    let found = line_finds bytes s.behind s.rest s.prefix line (found_as line f.0) s.prefix_is m o in
    let row : f.0.parts.row ≡ s.row = named_so s.row line.tail line s.prefix s.rest f.0 s.operands_are in
    let goal : read_line (line_of f.0.parts.row) bytes ≡ Some (with_line (reading_of bytes f.0)) = rw (row, found) refl in
    subst (λ (z : Reading). read_line (line_of z.row) bytes ≡ Some (with_line z)) f.2 goal
