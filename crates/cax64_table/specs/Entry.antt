use Rattle.std.specs.Prelude.{ℕ, ◌+◌, ◌*◌, ◌/◌, Bool, true, false, not, ◌==◌, ◌&&◌, ◌||◌, nat_lt, nat_le, if◌then◌else◌, Option, Some, None}
use Rattle.cax64_machine_code.specs.Len.{is_w1, opcode_len, legacy_len}
use Rattle.cax64_machine_code.specs.Line.{imm_bytes, same_bool}
use Rattle.cax64_machine_code.specs.declared.line.LegacySet.{LegacySet}
use Rattle.cax64_machine_code.specs.declared.line.Line.{Line}
use Rattle.cax64_machine_code.specs.declared.line.Opcode.{Opcode}
use Rattle.cax64_machine_code.specs.declared.line.PrefixField.{PrefixField}
use Rattle.cax64_machine_code.specs.declared.line.PrefixField.TheVariants.{LegacyField, VexField}
use Rattle.cax64_machine_code.specs.declared.line.PlaceField.TheVariants.{Memory, RegisterOrMemory, Register8OrMemory}
use Rattle.cax64_machine_code.specs.declared.line.RegField.TheVariants.{Digit, Register8, Register}
use Rattle.cax64_machine_code.specs.declared.line.TailField.{TailField}
use Rattle.cax64_machine_code.specs.declared.line.TailField.TheVariants.{NoTail, Modrm}
use Rattle.cax64_table.specs.Numbers.{digit_of, has_register, has_vvvv, has_8bit, is_vex, has_pp, has_map, has_l}
use Rattle.cax64_table.specs.Packed.{bits_at, flag_at, unpacked}

-- A number is an entry: its line can be encoded, and what is read of it as it stands is what its line says.

-- A line can be encoded.

-- a byte that begins no prefix
abbrev pub is_plain : ℕ → Bool
is_plain c = not ((c == 0xF0) || ((c == 0x66) || ((c == 0xF2) || ((c == 0xF3) || ((c / 16 == 4) || ((c == 0xC4) || (c == 0xC5)))))))

abbrev pub first_byte : Opcode → ℕ
first_byte opcode = if opcode.escape then 0x0F else opcode.byte

-- the most bytes of what stands before an opcode, and of a tail
abbrev pub prefix_size : PrefixField → ℕ
prefix_size (LegacyField set rex) = legacy_len set + 1
prefix_size (VexField pp map l vvvv) = 3

abbrev pub tail_size : TailField → ℕ
tail_size NoTail = 0
tail_size (Modrm reg field) = 6

-- the bit W, and that it may be 0
abbrev pub is_w : Option ℕ → Bool
is_w None = true
is_w (Some w) = nat_lt w 2

abbrev pub is_w0 : Option ℕ → Bool
is_w0 None = true
is_w0 (Some w) = w == 0

abbrev pub has_tail : TailField → Bool
has_tail NoTail = false
has_tail (Modrm reg field) = true

-- one of F2 and F3 at most, and a REX byte wherever there is a tail; or the fields of VEX
abbrev pub is_prefix_field : PrefixField → Opcode → TailField → Bool
is_prefix_field (LegacyField set rex) opcode tail = not (set.repne && set.rep) && (rex || not (has_tail tail))
is_prefix_field (VexField pp map l vvvv) opcode tail = nat_lt pp 4 && (nat_le 1 map && (nat_le map 3 && (nat_lt l 2 && (not opcode.escape && has_tail tail))))

abbrev pub is_digit : TailField → Bool
is_digit NoTail = true
is_digit (Modrm (Digit k) field) = nat_lt k 8
is_digit (Modrm Register8 field) = true
is_digit (Modrm Register field) = true

-- an 8-bit register stands in reg beside memory alone, and an 8-bit place beside a digit alone
abbrev pub is_8bit_once : TailField → Bool
is_8bit_once NoTail = true
is_8bit_once (Modrm (Digit k) field) = true
is_8bit_once (Modrm Register8 Memory) = true
is_8bit_once (Modrm Register8 RegisterOrMemory) = false
is_8bit_once (Modrm Register8 Register8OrMemory) = false
is_8bit_once (Modrm Register Memory) = true
is_8bit_once (Modrm Register RegisterOrMemory) = true
is_8bit_once (Modrm Register Register8OrMemory) = false

-- the encoder can write each instruction of the line
abbrev pub is_line : Line → Bool
is_line line =
    is_plain (first_byte line.opcode)
    && (nat_lt line.opcode.byte 256
    && (is_prefix_field line.prefix line.opcode line.tail
    && (is_w line.w
    && ((has_tail line.tail || is_w0 line.w)
    && (is_digit line.tail
    && (is_8bit_once line.tail
    && (not (is_vex line.prefix && has_8bit line.tail)
    && (nat_le (prefix_size line.prefix) 3
    && nat_le (prefix_size line.prefix + (opcode_len line.opcode + (tail_size line.tail + imm_bytes line.imm))) 13))))))))

-- the sizes of immediates that there are
abbrev pub has_imm_len : ℕ → Bool
has_imm_len len = len == 0 || (len == 1 || (len == 2 || len == 4))

-- The ready parts of a number are its line's.

-- a byte before a word, if it stands
abbrev pub join : Bool → ℕ → ℕ → ℕ
join true byte word = byte + 256 * word
join false byte word = word

-- the legacy prefixes but REX as a word, the first one the lowest
abbrev pub legacy_word : LegacySet → ℕ
legacy_word set = join set.lock 0xF0 (join set.operand_size 0x66 (join set.repne 0xF2 (join set.rep 0xF3 0)))

abbrev pub legacy_word_of : PrefixField → ℕ
legacy_word_of (LegacyField set rex) = legacy_word set
legacy_word_of (VexField pp map l vvvv) = 0

abbrev pub legacy_len_of : PrefixField → ℕ
legacy_len_of (LegacyField set rex) = legacy_len set
legacy_len_of (VexField pp map l vvvv) = 0

-- the opcode as a word, behind 0F where it has the escape
abbrev pub opcode_word : Opcode → ℕ
opcode_word opcode = if opcode.escape then 0x0F + 256 * opcode.byte else opcode.byte

-- what is read of a number as it stands, of its tail, its prefixes and its opcode
abbrev pub is_ready_tail : ℕ → TailField → Bool
is_ready_tail packed tail = (bits_at packed 17 3 == digit_of tail) && same_bool (flag_at packed 16) (has_register tail)

abbrev pub is_ready_prefix : ℕ → PrefixField → Bool
is_ready_prefix packed prefix =
    same_bool (flag_at packed 6) (is_vex prefix)
    && (same_bool (flag_at packed 6 && flag_at packed 12) (has_vvvv prefix)
    && (has_pp prefix (bits_at packed 7 2) && (has_map prefix (bits_at packed 9 2) && has_l prefix (bits_at packed 11 1))))

abbrev pub is_ready_legacy : ℕ → PrefixField → Bool
is_ready_legacy packed prefix = (bits_at packed 46 16 == legacy_word_of prefix) && (bits_at packed 62 2 == legacy_len_of prefix)

abbrev pub is_ready_opcode : ℕ → Opcode → Bool
is_ready_opcode packed opcode = (bits_at packed 30 16 == opcode_word opcode) && (1 + bits_at packed 29 1 == opcode_len opcode)

-- all of it is what the line says
abbrev pub is_ready : ℕ → Line → Bool
is_ready packed line =
    is_ready_tail packed line.tail
    && (is_ready_prefix packed line.prefix
    && (is_ready_legacy packed line.prefix
    && (is_ready_opcode packed line.opcode
    && ((bits_at packed 0 3 == imm_bytes line.imm)
    && (same_bool (flag_at packed 4) (is_w1 line.w)
    && (is_vex line.prefix || same_bool (flag_at packed 12) (has_8bit line.tail)))))))

-- a number and its line
abbrev pub is_entry_of : ℕ → Line → Bool
is_entry_of packed line = is_ready packed line && (has_imm_len (imm_bytes line.imm) && is_line line)

abbrev pub is_entry : ℕ → Bool
is_entry packed = is_entry_of packed (unpacked packed)
