use Rattle.std.specs.Prelude.{ℕ, Bool, true, false, not, ◌&&◌, ◌||◌, ◌==◌, if◌then◌else◌, Option, Some, None, option_and_then, List, [], ◌∷◌}
use Rattle.cax64_machine_code.specs.Fields.{reg_of}
use Rattle.cax64_machine_code.specs.Prefix.{Prefix, legacy_prefix, vex_prefix, has_rex, w_of}
use Rattle.cax64_machine_code.specs.declared.line.LegacySet.{LegacySet}
use Rattle.cax64_machine_code.specs.declared.line.Opcode.{Opcode}
use Rattle.cax64_machine_code.specs.declared.line.Line.{Line}
use Rattle.cax64_machine_code.specs.declared.line.VvvvField.{VvvvField}
use Rattle.cax64_machine_code.specs.declared.line.PrefixField.{PrefixField}
use Rattle.cax64_machine_code.specs.declared.line.RegField.{RegField}
use Rattle.cax64_machine_code.specs.declared.line.TailField.{TailField}
use Rattle.cax64_machine_code.specs.declared.line.VvvvField.TheVariants.{VvvvRegister, Stored1111}
use Rattle.cax64_machine_code.specs.declared.line.PrefixField.TheVariants.{LegacyField, VexField}
use Rattle.cax64_machine_code.specs.declared.line.RegField.TheVariants.{Digit, Register8, Register}
use Rattle.cax64_machine_code.specs.declared.line.TailField.TheVariants.{NoTail, Modrm}
use Rattle.cax64_machine_code.specs.declared.line.ImmField.{ImmField}
use Rattle.cax64_machine_code.specs.declared.line.ImmField.TheVariants.{NoImm, Imm, Simm}

-- What matches a row of the table. (Intel SDM, volume 2, 3.1.1.1 and 3.1.1.2.)

-- the bytes of an opcode
abbrev pub opcode_bytes : Opcode → List ℕ
opcode_bytes opcode = if opcode.escape then (0x0F ∷ opcode.byte ∷ []) else (opcode.byte ∷ [])

abbrev pub same_bool : Bool → Bool → Bool
same_bool true b = b
same_bool false b = not b

abbrev pub same_legacy : LegacySet → LegacySet → Bool
same_legacy p q = same_bool p.lock q.lock && (same_bool p.operand_size q.operand_size && (same_bool p.repne q.repne && same_bool p.rep q.rep))

abbrev pub w_matches : Option ℕ → ℕ → Bool
w_matches None w = true
w_matches (Some only) w = only == w

abbrev pub vvvv_matches : VvvvField → ℕ → Bool
vvvv_matches VvvvRegister vvvv = true
vvvv_matches Stored1111 vvvv = vvvv == 0

abbrev pub field_matches : PrefixField → Prefix → Bool
field_matches (LegacyField set rex) (legacy_prefix found byte) = same_legacy set found && (rex || not (has_rex (legacy_prefix found byte)))
field_matches (LegacyField set rex) (vex_prefix found) = false
field_matches (VexField pp map l vvvv) (legacy_prefix found byte) = false
field_matches (VexField pp map l vvvv) (vex_prefix found) = (found.pp == pp) && ((found.map == map) && ((found.l == l) && vvvv_matches vvvv found.vvvv))

-- the prefix is one that the row asks for
abbrev pub prefix_matches : Line → Prefix → Bool
prefix_matches line prefix = field_matches line.prefix prefix && w_matches line.w (w_of prefix)

-- what follows a string, where it stands at the front
unfoldable pub after : List ℕ → List ℕ → Option (List ℕ)
after [] bytes = Some bytes
after (byte ∷ more) [] = None
after (byte ∷ more) (found ∷ bytes) = if byte == found then after more bytes else None

abbrev pub reg_matches : RegField → ℕ → Bool
reg_matches (Digit d) byte = reg_of byte == d
reg_matches Register8 byte = true
reg_matches Register byte = true

-- the next byte has the row's digit, if the row has one
abbrev pub digit_matches : TailField → List ℕ → Bool
digit_matches NoTail bytes = true
digit_matches (Modrm reg place) [] = false
digit_matches (Modrm reg place) (byte ∷ bytes) = reg_matches reg byte

-- what follows the row's opcode, where it stands at the front, and its digit behind it
abbrev pub opcode_at : Line → List ℕ → Option (List ℕ)
opcode_at line bytes = option_and_then (λ rest. if digit_matches line.tail rest then Some rest else None) (after (opcode_bytes line.opcode) bytes)

-- how many bytes an immediate has
abbrev pub imm_bytes : ImmField → ℕ
imm_bytes NoImm = 0
imm_bytes (Imm size) = size
imm_bytes (Simm size) = size
