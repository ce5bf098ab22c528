use Rattle.std.proofs.Common.{◌≡◌, ℕ, suc, ◌+◌, ◌-◌, ◌*◌, ◌<◌, ◌≤◌, refl, sym, ap, ◌∙◌, Bool, true, false, List, [], ◌∷◌, length, slice_index_or, arith, Option, Some, None}
use Rattle.std.specs.Int.{from_bool}
use Rattle.std.specs.Prelude.{◌==◌, IfSome, if◌then◌else◌, option_and_then}
use Rattle.std.proofs.lemmas.Bool.{and_parts}
use Rattle.std.proofs.lemmas.List.Elements.{Contains-get_or}
use Rattle.std.proofs.lemmas.Option.{same_Some}
use Rattle.cax64_machine_code.specs.Fields.{reg_of}
use Rattle.cax64_machine_code.specs.Line.{after, digit_matches, field_matches, opcode_at, opcode_bytes, prefix_matches, w_matches}
use Rattle.cax64_machine_code.specs.Prefix.{Prefix, b_of, prefix_at, w_of, x_of}
use Rattle.cax64_machine_code.specs.Reading.{FoundOf, imm_at, matched_at, operands_of, place_at}
use Rattle.cax64_machine_code.specs.ReadLine.{LineReading, find_line, read_line, read_of}
use Rattle.cax64_machine_code.specs.Tail.{read_tail}
use Rattle.cax64_machine_code.specs.declared.line.Line.{Line}
use Rattle.cax64_machine_code.specs.declared.line.Opcode.{Opcode}
use Rattle.cax64_machine_code.specs.declared.line.RegField.TheVariants.{Digit, Register8, Register}
use Rattle.cax64_machine_code.specs.declared.line.TailField.{TailField}
use Rattle.cax64_machine_code.specs.declared.line.TailField.TheVariants.{NoTail, Modrm}
use Rattle.cax64_machine_code.proofs.ReadLine.{contained, line_reads, line_steps}
use Rattle.cax64_machine_code.proofs.Uniqueness.{behind, some_if}
use Rattle.cax64_reader.specs.ByLine.{found_behind}
use Rattle.cax64_reader.specs.Front.{prefix_of}
use Rattle.cax64_reader.specs.declared.front.Front.{Front}
use Rattle.cax64_reader.proofs.Lengths.{chained_from, mapped_from}
use Rattle.cax64_reader.proofs.Longest.{steps_length}
use Rattle.cax64_table.specs.Cursor.{front_opcode}
use Rattle.cax64_table.specs.PrefixNumbers.{numbers_of}
use Rattle.cax64_table.specs.declared.prefix.PrefixNumbers.{PrefixNumbers}
use Rattle.cax64_table.proofs.Matching.{front_read, front_stands, parts_same}
use Rattle.x64_lines.specs.Line.{core_line, no_line}
use Rattle.x64_lines.specs.Lines.{core_lines}
use Rattle.x64_lines.specs.declared.lines.TheConstants.{COUNT}
use Rattle.x64_lines.proofs.Table.{lines_apart}
use Rattle.x64_reader.specs.Index.{digit_behind, number_of_key}
use Rattle.x64_reader.specs.Others.{FindsAlone, others_match}
use Rattle.x64_reader.proofs.Keys.{key_matches, low_asked, others_asked}
use Rattle.x64_reader.proofs.Table.{IsOf, asked_low, key_is, lines_are, so_many, standing}

-- What is found by a key is what all lines find.

pub no_prefix : (line : Line) (bytes : List ℕ) → prefix_at bytes ≡ None → find_line line bytes ≡ None
unfolding find_line
no_prefix line bytes h = rw h refl

pub behind_prefix : (line : Line) (bytes rest : List ℕ) (p : Prefix) → prefix_at bytes ≡ Some (p, rest) → find_line line bytes ≡ found_behind line p rest
unfolding find_line
behind_prefix line bytes rest p h = rw h refl

digit_below : (rest : List ℕ) → digit_behind rest < 8
digit_below [] = omega arith
digit_below (byte ∷ rest) = omega arith

-- the digit that a byte holds is that of a byte that holds nothing else
digit_alone : (tail : TailField) (rest : List ℕ) → digit_matches tail rest ≡ true → digit_matches tail ((8 * digit_behind rest) ∷ []) ≡ true
digit_alone NoTail rest h = refl
digit_alone (Modrm reg place) [] h = cc
digit_alone (Modrm Register8 place) (byte ∷ rest) h = refl
digit_alone (Modrm Register place) (byte ∷ rest) h = refl
digit_alone (Modrm (Digit d) place) (byte ∷ rest) h = let e : reg_of (8 * reg_of byte) ≡ reg_of byte = omega arith in rw e h

-- behind an opcode, where no byte has another digit than the line's
behind_opcode : (tail : TailField) (line : Line) (p : Prefix) (rest : List ℕ) → digit_matches tail ((8 * digit_behind rest) ∷ []) ≡ true → option_and_then {T = List ℕ} {U = FoundOf Line} (λ left. operands_of tail line line p left) (if digit_matches tail rest then Some rest else None) ≡ operands_of tail line line p rest
unfolding read_tail
behind_opcode NoTail line p rest h = refl
behind_opcode (Modrm reg place) line p [] h = refl
behind_opcode (Modrm Register8 place) line p (byte ∷ rest) h = refl
behind_opcode (Modrm Register place) line p (byte ∷ rest) h = refl
behind_opcode (Modrm (Digit d) place) line p (byte ∷ rest) h =
    let e : reg_of (8 * reg_of byte) ≡ reg_of byte = omega arith in
    let same : (reg_of byte == d) ≡ true = rw e at h in
    rw same refl

-- a line with the opcode and the digit that stand there, behind a prefix that it asks for, finds its operands
finds : (line : Line) (p : Prefix) (bytes rest : List ℕ) (o : Opcode) → front_opcode bytes ≡ Some (o, rest) → line.opcode ≡ o → prefix_matches line p ≡ true → digit_matches line.tail ((8 * digit_behind rest) ∷ []) ≡ true → found_behind line p bytes ≡ operands_of line.tail line line p rest
finds line p bytes rest o h e m d =
    let stands : after (opcode_bytes line.opcode) bytes ≡ Some rest = rw e (front_stands bytes rest o h) in
    rw (m, stands) (behind_opcode line.tail line p rest d)

pub key_finds : (front : Front) (bytes rest : List ℕ) (o : Opcode) (n : ℕ) → o.byte < 256 → n < COUNT → front_opcode bytes ≡ Some (o, rest) → n ≡ number_of_key front.numbers.low front.numbers.w o (digit_behind rest) → others_match (core_line n).prefix front.numbers front.has_rex front.vvvv ≡ true → found_behind (core_line n) (prefix_of front) bytes ≡ operands_of (core_line n).tail (core_line n) (core_line n) (prefix_of front) rest
key_finds front bytes rest o n b below h k others =
    let found : number_of_key front.numbers.low front.numbers.w o (digit_behind rest) < COUNT = rw (← k) below in
    let i : IsOf front.numbers.low o (digit_behind rest) (from_bool front.numbers.w) (core_line n) = rw (← k) at (key_is front.numbers.low o (digit_behind rest) front.numbers.w b (digit_below rest) found) in
    finds (core_line n) (prefix_of front) bytes rest o h i.opcode_is
    (key_matches (core_line n) front.numbers front.has_rex front.r front.x front.b front.vvvv front.meant (standing n below).asked i.low_is i.w_is others)
    i.digit_is

-- whatever line finds something there has this key

bit_below : (w : Bool) → from_bool w < 2
bit_below true = omega arith
bit_below false = omega arith

bit_is : (w : Bool) → (from_bool w == 1) ≡ w
bit_is true = refl
bit_is false = refl

-- a line that finds something
pub record Keyed (front : Front) (bytes : List ℕ) (n : ℕ) : Type 0 where
  pub opcode : Opcode
  pub rest : List ℕ
  pub front_is : front_opcode bytes ≡ Some (opcode, rest)
  pub key : number_of_key front.numbers.low front.numbers.w opcode (digit_behind rest) ≡ n
  pub others : others_match (core_line n).prefix front.numbers front.has_rex front.vvvv ≡ true

keyed : (front : Front) (bytes : List ℕ) (n : ℕ) (found : FoundOf Line) → n < COUNT → found_behind (core_line n) (prefix_of front) bytes ≡ Some found → Keyed front bytes n
keyed front bytes n found below h =
    let line = core_line n in
    let p = prefix_of front in
    let s = standing n below in
    let c = chained_from _ (matched_at line p bytes) found h in
    let f = some_if (prefix_matches line p) (opcode_at line bytes) c.0 c.1 in
    let m = and_parts (field_matches line.prefix p) (w_matches line.w (w_of p)) f.0 in
    let b = behind line bytes c.0 f.1 in
    let are : front.numbers ≡ numbers_of p = front.meant.numbers_are.are in
    let low : asked_low line.prefix ≡ front.numbers.low = low_asked line.prefix p s.asked m.0 ∙ sym (ap (λ (z : PrefixNumbers). z.low) are) in
    let w : w_matches line.w (from_bool front.numbers.w) ≡ true = rw front.meant.numbers_are.w_is m.1 in
    let stands = s.stands (digit_behind c.0) (from_bool front.numbers.w) (digit_below c.0) (bit_below front.numbers.w) (digit_alone line.tail c.0 b.digit) w in
    record {
      opcode = line.opcode;
      rest = c.0;
      front_is = front_read line.opcode.escape line.opcode.byte bytes c.0 s.clean b.opcode;
      key = rw (low, bit_is front.numbers.w) at stands;
      others = others_asked line.prefix front.numbers front.has_rex front.vvvv front.r front.x front.b p front.meant m.0;
    }

pub none_keyed : (limit : ℕ) (front : Front) (bytes : List ℕ) → limit ≤ COUNT → front_opcode bytes ≡ None → FindsAlone limit (prefix_of front) bytes None
none_keyed limit front bytes l h n found below f =
    let k = keyed front bytes n found (omega (arith, l, below)) f in
    let no : None ≡ Some (k.opcode, k.rest) = sym h ∙ k.front_is in
    cc

same_key : (front : Front) (bytes rest : List ℕ) (o : Opcode) (n : ℕ) → front_opcode bytes ≡ Some (o, rest) → (k : Keyed front bytes n) → number_of_key front.numbers.low front.numbers.w o (digit_behind rest) ≡ n
same_key front bytes rest o n h k =
    let p = parts_same o k.opcode rest k.rest (sym h ∙ k.front_is) in
    rw (p.0, p.1) k.key

pub none_of_key : (limit : ℕ) (front : Front) (bytes rest : List ℕ) (o : Opcode) → limit ≤ COUNT → front_opcode bytes ≡ Some (o, rest) → (number_of_key front.numbers.low front.numbers.w o (digit_behind rest) < limit → others_match (core_line (number_of_key front.numbers.low front.numbers.w o (digit_behind rest))).prefix front.numbers front.has_rex front.vvvv ≡ false) → FindsAlone limit (prefix_of front) bytes None
none_of_key limit front bytes rest o l h not n found below f =
    let k = keyed front bytes n found (omega (arith, l, below)) f in
    let e = same_key front bytes rest o n h k in
    let no : others_match (core_line n).prefix front.numbers front.has_rex front.vvvv ≡ false = rw e at (not (rw e below)) in
    let both : true ≡ false = sym k.others ∙ no in
    cc

pub alone_of_key : (limit : ℕ) (front : Front) (bytes rest : List ℕ) (o : Opcode) (number : ℕ) → limit ≤ COUNT → front_opcode bytes ≡ Some (o, rest) → number ≡ number_of_key front.numbers.low front.numbers.w o (digit_behind rest) → FindsAlone limit (prefix_of front) bytes (Some number)
alone_of_key limit front bytes rest o number l h e n found below f =
    ap (λ (z : ℕ). Some z) (e ∙ same_key front bytes rest o n h (keyed front bytes n found (omega (arith, l, below)) f))

-- so where it finds nothing none does
pub nothing_found : (limit : ℕ) (p : Prefix) (bytes : List ℕ) (number : Option ℕ) → FindsAlone limit p bytes number → IfSome number (λ n. found_behind (core_line n) p bytes ≡ None) → (n : ℕ) → n < limit → found_behind (core_line n) p bytes ≡ None
nothing_found limit p bytes number alone none n below = by_found (found_behind (core_line n) p bytes) refl
  where
    one : (o : Option ℕ) (found : FoundOf Line) → o ≡ Some n → IfSome o (λ m. found_behind (core_line m) p bytes ≡ None) → found_behind (core_line n) p bytes ≡ Some found → ⊥
    one None found e none f = cc
    one (Some m) found e none f =
        let same : m ≡ n = same_Some m n e in
        let no : found_behind (core_line n) p bytes ≡ None = rw same at none in
        let both : None ≡ Some found = sym no ∙ f in
        cc

    by_found : (o : Option (FoundOf Line)) → found_behind (core_line n) p bytes ≡ o → o ≡ None
    by_found None e = refl
    by_found (Some found) e = absurd (one number found (alone n found below e) none e)

-- it takes one to thirteen bytes
pub core_length : (n : ℕ) (bytes : List ℕ) (found : FoundOf Line) → n < COUNT → find_line (core_line n) bytes ≡ Some found → (1 + length found.rest ≤ length bytes) × (length bytes ≤ 13 + length found.rest)
core_length n bytes found below h =
    let s = line_steps (core_line n) bytes found h in
    steps_length (core_line n) (core_line n) s.prefix bytes s.behind s.rest found (standing n below).short s.prefix_is s.matched s.operands_are

-- what is found of a line has its name

operands_of_line : (tail : TailField) (line : Line) (p : Prefix) (bytes : List ℕ) (found : FoundOf Line) → operands_of tail line line p bytes ≡ Some found → found.parts.row ≡ line
operands_of_line NoTail line p bytes found h =
    let m = mapped_from _ (imm_at line.imm bytes) found h in
    sym (ap (λ (z : FoundOf Line). z.parts.row) m.2)
operands_of_line (Modrm reg field) line p bytes found h =
    let t = chained_from _ (read_tail (x_of p) (b_of p) 1 bytes) found h in
    let a = chained_from _ (place_at field p t.0.place) found t.2 in
    let m = mapped_from _ (imm_at line.imm t.0.rest) found a.2 in
    sym (ap (λ (z : FoundOf Line). z.parts.row) m.2)

is_of_line : (line : Line) (bytes : List ℕ) (found : FoundOf Line) → find_line line bytes ≡ Some found → found.parts.row ≡ line
is_of_line line bytes found h =
    let s = line_steps line bytes found h in
    operands_of_line line.tail line s.prefix s.rest found s.operands_are

abbrev pub reading_with : Line → List ℕ → FoundOf Line → LineReading
reading_with line bytes found = record {
  line = line;
  length = length bytes - length found.rest;
  tail = found.tail;
  reg = found.parts.reg;
  vvvv = found.parts.vvvv;
  place = found.parts.place;
  imm = found.parts.imm;
}

-- what a line reads is what they read

pub found_reads : (n : ℕ) (bytes : List ℕ) (found : FoundOf Line) → find_line (core_line n) bytes ≡ Some found → read_line (core_line n) bytes ≡ Some (reading_with (core_line n) bytes found)
unfolding read_line
found_reads n bytes found h = rw h (ap (λ (line : Line). Some (reading_with line bytes found)) (is_of_line (core_line n) bytes found h))

pub none_reads : (n : ℕ) (bytes : List ℕ) → find_line (core_line n) bytes ≡ None → read_line (core_line n) bytes ≡ None
unfolding read_line
none_reads n bytes h = rw h refl

pub so_many_lines : length core_lines ≡ COUNT
so_many_lines = ap (λ (lines : List Line). length lines) (sym lines_are) ∙ so_many

pub one_reads : (n : ℕ) (bytes : List ℕ) (r : LineReading) → n < COUNT → read_line (core_line n) bytes ≡ Some r → read_of core_lines bytes ≡ Some r
one_reads n bytes r below h = line_reads core_lines (core_line n) bytes r lines_apart (contained core_lines (core_line n) (Contains-get_or core_lines n no_line (omega (arith, so_many_lines, below)))) h

none_of : (lines : List Line) (bytes : List ℕ) → ((n : ℕ) → n < length lines → read_line (slice_index_or lines n no_line) bytes ≡ None) → read_of lines bytes ≡ None
unfolding read_of
none_of [] bytes h = refl
none_of (line ∷ lines) bytes h = rw (h 0 (omega arith), none_of lines bytes (λ n l. h (suc n) (omega (arith, l)))) refl

pub none_read : (bytes : List ℕ) → ((n : ℕ) → n < COUNT → read_line (core_line n) bytes ≡ None) → read_of core_lines bytes ≡ None
none_read bytes h = none_of core_lines bytes (λ n l. h n (omega (arith, so_many_lines, l)))
