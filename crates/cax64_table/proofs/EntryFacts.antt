use Rattle.std.proofs.Common.{◌≡◌, ℕ, ◌+◌, ◌*◌, ◌/◌, ◌%◌, ◌<◌, ◌^◌, arith, refl, subst, Bool, true, false, take, w64}
use Rattle.std.specs.Int.{to_le_bytes}
use Rattle.std.specs.Prelude.{◌==◌, ◌&&◌, ◌||◌, nat_lt}
use Rattle.std.proofs.lemmas.Bool.{and_parts, eqb-true, ltb-true}
use Rattle.cax64_machine_code.specs.Len.{is_w1, opcode_len}
use Rattle.cax64_machine_code.specs.Line.{imm_bytes, opcode_bytes, same_bool}
use Rattle.cax64_machine_code.specs.declared.line.Line.{Line}
use Rattle.cax64_machine_code.specs.declared.line.Opcode.{Opcode}
use Rattle.cax64_machine_code.specs.declared.line.PrefixField.{PrefixField}
use Rattle.cax64_machine_code.specs.declared.line.PrefixField.TheVariants.{LegacyField, VexField}
use Rattle.cax64_machine_code.specs.Rows.{line_of}
use Rattle.cax64_machine_code.specs.declared.row.Row.{Row}
use Rattle.cax64_machine_code.specs.declared.row.Row.TheVariants.{lock_addb_mi}
use Rattle.cax64_table.specs.Entry.{legacy_word_of, legacy_len_of, opcode_word, is_ready_tail, is_ready_prefix, is_ready_legacy, is_ready_opcode, is_ready, is_plain, first_byte, is_line, has_imm_len, is_entry, is_entry_of}
use Rattle.cax64_table.specs.Numbers.{digit_of, has_register, has_vvvv, has_8bit, is_vex, legacy_bytes_of, has_pp, has_map, has_l}
use Rattle.cax64_table.specs.EntryLine.{entry_line}
use Rattle.cax64_table.specs.declared.entry.Entry.{Entry}
use Rattle.cax64_table.specs.Packed.{bits_at, flag_at, unpacked, number_of, entry_of}
use Rattle.cax64_table.proofs.Table.{entry_is}

-- What is tested of an entry.

bool_same : (a b : Bool) → same_bool a b ≡ true → a ≡ b
bool_same true true h = refl
bool_same true false h = cc
bool_same false true h = cc
bool_same false false h = refl

same_if_not : (a b c : Bool) → (a || same_bool b c) ≡ true → a ≡ false → b ≡ c
same_if_not true b c h e = cc
same_if_not false b c h e = bool_same b c h

-- the bytes of the legacy prefixes in their word

abbrev of_flags : Bool → Bool → Bool → Bool → PrefixField
of_flags lock operand_size repne rep = LegacyField (record { lock = lock; operand_size = operand_size; repne = repne; rep = rep }) false

legacy_held : (prefix : PrefixField) → (take (legacy_len_of prefix) (to_le_bytes w64 (legacy_word_of prefix)) ≡ legacy_bytes_of prefix) × (nat_lt (legacy_word_of prefix) (256 ^ legacy_len_of prefix) ≡ true)
legacy_held (VexField pp map l vvvv) = (refl, refl)
legacy_held (LegacyField set rex) = by_flags set.lock set.operand_size set.repne set.rep
  where
    by_flags : (lock operand_size repne rep : Bool) → (take (legacy_len_of (of_flags lock operand_size repne rep)) (to_le_bytes w64 (legacy_word_of (of_flags lock operand_size repne rep))) ≡ legacy_bytes_of (of_flags lock operand_size repne rep)) × (nat_lt (legacy_word_of (of_flags lock operand_size repne rep)) (256 ^ legacy_len_of (of_flags lock operand_size repne rep)) ≡ true)
    by_flags true true true true = (refl, refl)
    by_flags true true true false = (refl, refl)
    by_flags true true false true = (refl, refl)
    by_flags true true false false = (refl, refl)
    by_flags true false true true = (refl, refl)
    by_flags true false true false = (refl, refl)
    by_flags true false false true = (refl, refl)
    by_flags true false false false = (refl, refl)
    by_flags false true true true = (refl, refl)
    by_flags false true true false = (refl, refl)
    by_flags false true false true = (refl, refl)
    by_flags false true false false = (refl, refl)
    by_flags false false true true = (refl, refl)
    by_flags false false true false = (refl, refl)
    by_flags false false false true = (refl, refl)
    by_flags false false false false = (refl, refl)

-- and those of the opcode in its own

opcode_held : (opcode : Opcode) → opcode.byte < 256 → take (opcode_len opcode) (to_le_bytes w64 (opcode_word opcode)) ≡ opcode_bytes opcode
opcode_held opcode small = by_escape opcode.escape
  where
    low : opcode.byte % 256 ≡ opcode.byte
    low = omega (arith, small)

    first : (0x0F + 256 * opcode.byte) % 256 ≡ 0x0F
    first = omega arith

    second : (0x0F + 256 * opcode.byte) / 256 % 256 ≡ opcode.byte
    second = omega (arith, small)

    by_escape : (escape : Bool) → take (opcode_len (record { escape = escape; byte = opcode.byte })) (to_le_bytes w64 (opcode_word (record { escape = escape; byte = opcode.byte }))) ≡ opcode_bytes (record { escape = escape; byte = opcode.byte })
    by_escape true = rw (first, second) refl
    by_escape false = rw low refl

opcode_fits : (opcode : Opcode) → opcode.byte < 256 → opcode_word opcode < 256 ^ opcode_len opcode
opcode_fits opcode small = by_escape opcode.escape
  where
    by_escape : (escape : Bool) → opcode_word (record { escape = escape; byte = opcode.byte }) < 256 ^ opcode_len (record { escape = escape; byte = opcode.byte })
    by_escape true = omega (arith, small)
    by_escape false = omega (arith, small)

pub record EntryFacts (packed : ℕ) (line : Line) : Type 0 where
  pub digit : bits_at packed 17 3 ≡ digit_of line.tail
  pub imm_len : bits_at packed 0 3 ≡ imm_bytes line.imm
  pub vex : flag_at packed 6 ≡ is_vex line.prefix
  pub register : flag_at packed 16 ≡ has_register line.tail
  pub vvvv : (flag_at packed 6 && flag_at packed 12) ≡ has_vvvv line.prefix
  pub w : flag_at packed 4 ≡ is_w1 line.w
  pub uses_8bit : is_vex line.prefix ≡ false → flag_at packed 12 ≡ has_8bit line.tail
  pub pp : has_pp line.prefix (bits_at packed 7 2) ≡ true
  pub map : has_map line.prefix (bits_at packed 9 2) ≡ true
  pub l : has_l line.prefix (bits_at packed 11 1) ≡ true
  pub legacy : take (bits_at packed 62 2) (to_le_bytes w64 (bits_at packed 46 16)) ≡ legacy_bytes_of line.prefix
  pub legacy_below : bits_at packed 46 16 < 256 ^ bits_at packed 62 2
  pub opcode : take (1 + bits_at packed 29 1) (to_le_bytes w64 (bits_at packed 30 16)) ≡ opcode_bytes line.opcode
  pub opcode_below : bits_at packed 30 16 < 256 ^ (1 + bits_at packed 29 1)
  pub size : has_imm_len (imm_bytes line.imm) ≡ true
  pub encodes : is_line line ≡ true

pub entry_facts : (packed : ℕ) (line : Line) → is_entry_of packed line ≡ true → EntryFacts packed line
entry_facts packed line h =
    let whole = and_parts (is_ready packed line) _ h in
    let line_is = and_parts (has_imm_len (imm_bytes line.imm)) (is_line line) whole.1 in
    let small : line.opcode.byte < 256 = ltb-true _ _ (and_parts (nat_lt line.opcode.byte 256) _ (and_parts (is_plain (first_byte line.opcode)) _ line_is.1).1).0 in
    let t = and_parts (is_ready_tail packed line.tail) _ whole.0 in
    let tail = and_parts (bits_at packed 17 3 == digit_of line.tail) (same_bool (flag_at packed 16) (has_register line.tail)) t.0 in
    let p = and_parts (is_ready_prefix packed line.prefix) _ t.1 in
    let vex = and_parts (same_bool (flag_at packed 6) (is_vex line.prefix)) _ p.0 in
    let vvvv = and_parts (same_bool (flag_at packed 6 && flag_at packed 12) (has_vvvv line.prefix)) _ vex.1 in
    let pp = and_parts (has_pp line.prefix (bits_at packed 7 2)) _ vvvv.1 in
    let map = and_parts (has_map line.prefix (bits_at packed 9 2)) (has_l line.prefix (bits_at packed 11 1)) pp.1 in
    let l = and_parts (is_ready_legacy packed line.prefix) _ p.1 in
    let legacy = and_parts (bits_at packed 46 16 == legacy_word_of line.prefix) (bits_at packed 62 2 == legacy_len_of line.prefix) l.0 in
    let legacy_word : bits_at packed 46 16 ≡ legacy_word_of line.prefix = eqb-true _ _ legacy.0 in
    let legacy_len : bits_at packed 62 2 ≡ legacy_len_of line.prefix = eqb-true _ _ legacy.1 in
    let o = and_parts (is_ready_opcode packed line.opcode) _ l.1 in
    let opcode = and_parts (bits_at packed 30 16 == opcode_word line.opcode) (1 + bits_at packed 29 1 == opcode_len line.opcode) o.0 in
    let word : bits_at packed 30 16 ≡ opcode_word line.opcode = eqb-true _ _ opcode.0 in
    let len : 1 + bits_at packed 29 1 ≡ opcode_len line.opcode = eqb-true _ _ opcode.1 in
    let imm = and_parts (bits_at packed 0 3 == imm_bytes line.imm) _ o.1 in
    let w = and_parts (same_bool (flag_at packed 4) (is_w1 line.w)) (is_vex line.prefix || same_bool (flag_at packed 12) (has_8bit line.tail)) imm.1 in
    record {
      digit = eqb-true _ _ tail.0;
      imm_len = eqb-true _ _ imm.0;
      vex = bool_same _ _ vex.0;
      register = bool_same _ _ tail.1;
      vvvv = bool_same _ _ vvvv.0;
      w = bool_same _ _ w.0;
      uses_8bit = same_if_not _ _ _ w.1;
      pp = pp.0;
      map = map.0;
      l = map.1;
      legacy = rw (legacy_word, legacy_len) (legacy_held line.prefix).0;
      legacy_below = rw (legacy_word, legacy_len) (ltb-true _ _ (legacy_held line.prefix).1);
      opcode = rw (word, len) (opcode_held line.opcode small);
      opcode_below = rw (word, len) (opcode_fits line.opcode small);
      size = line_is.0;
      encodes = line_is.1;
    }

-- that of each row is one
pub rows_are : (row : Row) → is_entry (entry_of row) ≡ true
unfolding number_of
rows_are lock_addb_mi = refl
rows_are _ = refl

-- what holds of each entry

pub facts_of : (e : Entry) → EntryFacts e.packed (entry_line e)
facts_of e = entry_facts e.packed (unpacked e.packed) e.is

-- its line can be encoded
pub entry_is_line : (e : Entry) → is_line (entry_line e) ≡ true
entry_is_line e = (facts_of e).encodes

pub entry_imm_len : (e : Entry) → has_imm_len (imm_bytes (entry_line e).imm) ≡ true
entry_imm_len e = (facts_of e).size

-- and of that of a row

row_facts : (row : Row) → EntryFacts (entry_of row) (line_of row)
row_facts row = subst (EntryFacts (entry_of row)) (entry_is row) (entry_facts (entry_of row) (unpacked (entry_of row)) (rows_are row))

pub row_is_line : (row : Row) → is_line (line_of row) ≡ true
row_is_line row = (row_facts row).encodes

pub row_imm_len : (row : Row) → has_imm_len (imm_bytes (line_of row).imm) ≡ true
row_imm_len row = (row_facts row).size
