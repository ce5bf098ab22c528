-- What the bytes of a row's instructions take of its line.
use Rattle.std.specs.Prelude.{ℕ, ◌==◌, Bool, true, false, ◌||◌, List, [], ◌∷◌, ◌++◌, take}
use Rattle.std.specs.Int.{to_le_bytes, w64}
use Rattle.cax64_machine_code.specs.declared.line.LegacySet.{LegacySet}
use Rattle.cax64_machine_code.specs.declared.line.PrefixField.{PrefixField}
use Rattle.cax64_machine_code.specs.declared.line.PrefixField.TheVariants.{LegacyField, VexField}
use Rattle.cax64_machine_code.specs.declared.line.RegField.TheVariants.{Digit, Register8, Register}
use Rattle.cax64_machine_code.specs.declared.line.PlaceField.TheVariants.{Memory, RegisterOrMemory, Register8OrMemory}
use Rattle.cax64_machine_code.specs.declared.line.TailField.{TailField}
use Rattle.cax64_machine_code.specs.declared.line.TailField.TheVariants.{NoTail, Modrm}
use Rattle.cax64_machine_code.specs.declared.line.VvvvField.TheVariants.{VvvvRegister, Stored1111}
use Rattle.cax64_table.specs.declared.numbers.HeldBytes.{HeldBytes}

-- the digit in the reg field, 0 where a register or nothing stands there
abbrev pub digit_of : TailField → ℕ
digit_of NoTail = 0
digit_of (Modrm (Digit d) field) = d
digit_of (Modrm Register8 field) = 0
digit_of (Modrm Register field) = 0

-- a register stands in the reg field
abbrev pub has_register : TailField → Bool
has_register NoTail = false
has_register (Modrm (Digit d) field) = false
has_register (Modrm Register8 field) = true
has_register (Modrm Register field) = true

-- a register stands in vvvv
abbrev pub has_vvvv : PrefixField → Bool
has_vvvv (LegacyField set rex) = false
has_vvvv (VexField pp map l VvvvRegister) = true
has_vvvv (VexField pp map l Stored1111) = false

-- the reg field is an 8-bit register, the place may be one
abbrev pub uses_8bit_reg : TailField → Bool
uses_8bit_reg NoTail = false
uses_8bit_reg (Modrm (Digit d) field) = false
uses_8bit_reg (Modrm Register8 field) = true
uses_8bit_reg (Modrm Register field) = false

abbrev pub uses_8bit_place : TailField → Bool
uses_8bit_place NoTail = false
uses_8bit_place (Modrm reg Memory) = false
uses_8bit_place (Modrm reg RegisterOrMemory) = false
uses_8bit_place (Modrm reg Register8OrMemory) = true

-- a row with an r8 or rm8 field
abbrev pub has_8bit : TailField → Bool
has_8bit tail = uses_8bit_reg tail || uses_8bit_place tail

abbrev pub is_vex : PrefixField → Bool
is_vex (LegacyField set rex) = false
is_vex (VexField pp map l vvvv) = true

-- a byte, if it stands
abbrev pub byte_when : Bool → ℕ → List ℕ
byte_when true byte = byte ∷ []
byte_when false byte = []

-- legacy prefixes but REX
abbrev pub set_bytes : LegacySet → List ℕ
set_bytes set = byte_when set.lock 0xF0 ++ (byte_when set.operand_size 0x66 ++ (byte_when set.repne 0xF2 ++ byte_when set.rep 0xF3))

-- the legacy prefixes but REX of a row, none beside VEX
abbrev pub legacy_bytes_of : PrefixField → List ℕ
legacy_bytes_of (LegacyField set rex) = set_bytes set
legacy_bytes_of (VexField pp map l vvvv) = []

-- the bytes that a word holds, the first one the lowest
abbrev pub held : HeldBytes → List ℕ
held bytes = take bytes.len (to_le_bytes w64 bytes.word)

-- the number is the field pp, map or L, where a row has VEX
abbrev pub has_pp : PrefixField → ℕ → Bool
has_pp (LegacyField set rex) number = true
has_pp (VexField pp map l vvvv) number = number == pp

abbrev pub has_map : PrefixField → ℕ → Bool
has_map (LegacyField set rex) number = true
has_map (VexField pp map l vvvv) number = number == map

abbrev pub has_l : PrefixField → ℕ → Bool
has_l (LegacyField set rex) number = true
has_l (VexField pp map l vvvv) number = number == l
