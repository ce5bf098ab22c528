use Rattle.std.specs.Prelude.{ℕ, ◌+◌, ◌%◌, Bool, true, false, not, ◌&&◌, ◌||◌, ◌==◌, nat_lt, nat_le, if◌then◌else◌, Option, Some, None, ℤ, pos, negsuc}
use Rattle.cax64_machine_code.specs.Line.{imm_bytes}
use Rattle.cax64_machine_code.specs.Reading.{Parts, PartsOf}
use Rattle.cax64_machine_code.specs.Rows.{line_of}
use Rattle.cax64_machine_code.specs.declared.line.LegacySet.{LegacySet}
use Rattle.cax64_machine_code.specs.declared.line.Line.{Line}
use Rattle.cax64_machine_code.specs.declared.line.Opcode.{Opcode}
use Rattle.cax64_machine_code.specs.declared.line.PrefixField.{PrefixField}
use Rattle.cax64_machine_code.specs.declared.line.PrefixField.TheVariants.{LegacyField, VexField}
use Rattle.cax64_machine_code.specs.declared.line.RegField.TheVariants.{Digit, Register8, Register}
use Rattle.cax64_machine_code.specs.declared.line.PlaceField.TheVariants.{Memory, RegisterOrMemory, Register8OrMemory}
use Rattle.cax64_machine_code.specs.declared.line.TailField.{TailField}
use Rattle.cax64_machine_code.specs.declared.line.TailField.TheVariants.{NoTail, Modrm}
use Rattle.cax64_machine_code.specs.declared.reading.Place.{Place}
use Rattle.cax64_machine_code.specs.declared.reading.Place.TheVariants.{Reg, Mem, Rip}
use Rattle.cax64_machine_code.specs.declared.reading.RegView.{RegView}
use Rattle.cax64_machine_code.specs.declared.reading.RegView.TheVariants.{Low, High}

-- How many bytes an instruction has, by its line and the numbers of its operands: its prefixes, its opcode, the least
-- tail of its place, its immediate.

abbrev pub one_if : Bool → ℕ
one_if true = 1
one_if false = 0

-- the number of a register operand
abbrev pub number_in : RegView → ℕ
number_in (Low number) = number
number_in (High number) = number + 4

-- Numbers from 8 on need bit 3, which a prefix holds. (Intel SDM, volume 2, 2.2.1.1 and 2.2.1.2.)
abbrev pub is_high : ℕ → Bool
is_high number = nat_le 8 number

abbrev pub reg_is_high : Option RegView → Bool
reg_is_high None = false
reg_is_high (Some view) = is_high (number_in view)

abbrev pub base_is_high : Option ℕ → Bool
base_is_high None = false
base_is_high (Some number) = is_high number

abbrev pub index_is_high : Option (ℕ × ℕ) → Bool
index_is_high None = false
index_is_high (Some index) = is_high index.0

-- a register, base or index of a place is 8 or above
abbrev pub place_is_high : Option Place → Bool
place_is_high None = false
place_is_high (Some (Reg view)) = is_high (number_in view)
place_is_high (Some (Mem base index disp)) = index_is_high index || base_is_high base
place_is_high (Some (Rip disp)) = false

-- Numbers 4 to 7 of an 8-bit operand are `spl bpl sil dil` beside a REX byte. (Intel SDM, volume 1, 3.4.1.1.)
abbrev pub is_4_to_7 : ℕ → Bool
is_4_to_7 number = nat_le 4 number && nat_le number 7

abbrev pub is_special : RegView → Bool
is_special (Low number) = is_4_to_7 number
is_special (High number) = false

-- the register in reg is itself an 8-bit operand of number 4 to 7
abbrev pub reg_is_special : TailField → Option RegView → Bool
reg_is_special NoTail view = false
reg_is_special (Modrm (Digit d) field) view = false
reg_is_special (Modrm Register8 field) None = false
reg_is_special (Modrm Register8 field) (Some view) = is_special view
reg_is_special (Modrm Register field) view = false

-- the register of the place is itself an 8-bit operand of number 4 to 7
abbrev pub place_is_special : TailField → Option Place → Bool
place_is_special NoTail place = false
place_is_special (Modrm reg Memory) place = false
place_is_special (Modrm reg RegisterOrMemory) place = false
place_is_special (Modrm reg Register8OrMemory) None = false
place_is_special (Modrm reg Register8OrMemory) (Some (Reg view)) = is_special view
place_is_special (Modrm reg Register8OrMemory) (Some (Mem base index disp)) = false
place_is_special (Modrm reg Register8OrMemory) (Some (Rip disp)) = false

abbrev pub is_w1 : Option ℕ → Bool
is_w1 None = false
is_w1 (Some w) = w == 1

-- whether a REX byte stands. A digit is no register and asks for none. (Intel SDM, volume 2, 2.2.1.)
abbrev pub has_rex_byte : {K : Type 0} → Line → PartsOf K → Bool
has_rex_byte line parts =
    is_w1 line.w
    || (reg_is_high parts.reg
    || (place_is_high parts.place
    || (reg_is_special line.tail parts.reg
    || place_is_special line.tail parts.place)))

-- two bytes of VEX hold map 1 alone, and neither bit 3 of the place nor W. (Intel SDM, volume 2, 2.3.5.)
abbrev pub fits_two_byte_vex : ℕ → Option ℕ → Option Place → Bool
fits_two_byte_vex map w place = (map == 1) && (not (place_is_high place) && not (is_w1 w))

abbrev pub legacy_len : LegacySet → ℕ
legacy_len set = one_if set.lock + (one_if set.operand_size + (one_if set.repne + one_if set.rep))

abbrev pub prefix_len : {K : Type 0} → PrefixField → Line → PartsOf K → ℕ
prefix_len (LegacyField set rex) line parts = legacy_len set + one_if (has_rex_byte line parts)
prefix_len (VexField pp map l vvvv) line parts = if fits_two_byte_vex map line.w parts.place then 2 else 3

abbrev pub opcode_len : Opcode → ℕ
opcode_len opcode = if opcode.escape then 2 else 1

-- a displacement of 0 needs no byte, a signed byte one, any other four
abbrev pub disp_len : ℤ → ℕ
disp_len (pos n) = if n == 0 then 0 else (if nat_lt n 128 then 1 else 4)
disp_len (negsuc n) = if nat_lt n 128 then 1 else 4

abbrev pub at_least_one : ℕ → ℕ
at_least_one n = if n == 0 then 1 else n

-- The displacement beside a base: low bits 5 with mod 0 would mean no base. (Intel SDM, volume 2, tables 2-2 and 2-3.)
abbrev pub base_disp_len : ℕ → ℤ → ℕ
base_disp_len base disp = if base % 8 == 5 then at_least_one (disp_len disp) else disp_len disp

-- The SIB byte: an index needs one, and so does a base whose low bits are 4, which mean it. (Intel SDM, volume 2, table
-- 2-2.)
abbrev pub sib_len : ℕ → Option (ℕ × ℕ) → ℕ
sib_len base None = one_if (base % 8 == 4)
sib_len base (Some index) = 1

-- the least number of bytes of a tail that names a place
abbrev pub least_tail : Place → ℕ
least_tail (Reg view) = 1
least_tail (Mem None index disp) = 6
least_tail (Mem (Some base) index disp) = 1 + (sib_len base index + base_disp_len base disp)
least_tail (Rip disp) = 5

abbrev pub tail_len : Option Place → ℕ
tail_len None = 0
tail_len (Some place) = least_tail place

abbrev pub line_len : {K : Type 0} → Line → PartsOf K → ℕ
line_len line parts = prefix_len line.prefix line parts + (opcode_len line.opcode + (tail_len parts.place + imm_bytes line.imm))

-- how many bytes an instruction has
abbrev pub len_of : Parts → ℕ
len_of parts = line_len (line_of parts.row) parts
