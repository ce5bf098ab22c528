use Rattle.std.specs.Prelude.{ℕ, ◌/◌, ◌%◌, ◌^◌, ◌==◌, Bool, if◌then◌else◌, Option, Some, None, slice_index}
use Rattle.cax64_machine_code.specs.declared.line.Opcode.{Opcode}
use Rattle.cax64_machine_code.specs.declared.line.Line.{Line}
use Rattle.cax64_machine_code.specs.declared.line.PrefixField.{PrefixField}
use Rattle.cax64_machine_code.specs.declared.line.PlaceField.{PlaceField}
use Rattle.cax64_machine_code.specs.declared.line.TailField.{TailField}
use Rattle.cax64_machine_code.specs.declared.line.ImmField.{ImmField}
use Rattle.cax64_machine_code.specs.declared.line.VvvvField.TheVariants.{VvvvRegister, Stored1111}
use Rattle.cax64_machine_code.specs.declared.line.PrefixField.TheVariants.{LegacyField, VexField}
use Rattle.cax64_machine_code.specs.declared.line.RegField.TheVariants.{Digit, Register8, Register}
use Rattle.cax64_machine_code.specs.declared.line.PlaceField.TheVariants.{Memory, RegisterOrMemory, Register8OrMemory}
use Rattle.cax64_machine_code.specs.declared.line.TailField.TheVariants.{NoTail, Modrm}
use Rattle.cax64_machine_code.specs.declared.line.ImmField.TheVariants.{NoImm, Imm, Simm}
use Rattle.cax64_machine_code.specs.declared.row.Row.{Row}
use Rattle.cax64_machine_code.specs.contracts.row.Row.{the_type}
use denote.Enum.Declared.{tag_of}
use Rattle.cax64_table.specs.declared.packed.TheConstants.{TABLE}

-- The line that a packed number holds.

abbrev pub bits_at : ℕ → ℕ → ℕ → ℕ
bits_at packed low width = packed / 2 ^ low % 2 ^ width

abbrev pub flag_at : ℕ → ℕ → Bool
flag_at packed low = bits_at packed low 1 == 1

abbrev pub prefix_field : ℕ → PrefixField
prefix_field packed =
    if flag_at packed 6
    then VexField (bits_at packed 7 2) (bits_at packed 9 2) (bits_at packed 11 1) (if flag_at packed 12 then VvvvRegister else Stored1111)
    else LegacyField (record { lock = flag_at packed 7; operand_size = flag_at packed 8; repne = flag_at packed 9; rep = flag_at packed 10 }) (flag_at packed 11)

abbrev pub w_field : ℕ → Option ℕ
w_field packed = if bits_at packed 4 2 == 2 then None else Some (bits_at packed 4 2)

abbrev pub opcode_field : ℕ → Opcode
opcode_field packed = record { escape = flag_at packed 29; byte = bits_at packed 21 8 }

abbrev pub place_field : ℕ → PlaceField
place_field packed =
    if bits_at packed 13 2 == 0 then Memory
    else (if bits_at packed 13 2 == 1 then RegisterOrMemory
    else Register8OrMemory)

abbrev pub tail_field : ℕ → TailField
tail_field packed =
    if bits_at packed 15 2 == 0 then NoTail
    else (if bits_at packed 15 2 == 1 then Modrm (Digit (bits_at packed 17 4)) (place_field packed)
    else (if bits_at packed 15 2 == 2 then Modrm Register8 (place_field packed)
    else Modrm Register (place_field packed)))

abbrev pub imm_field : ℕ → ImmField
imm_field packed =
    if bits_at packed 0 3 == 0 then NoImm
    else (if flag_at packed 3 then Simm (bits_at packed 0 3)
    else Imm (bits_at packed 0 3))

abbrev pub unpacked : ℕ → Line
unpacked packed = record {
  prefix = prefix_field packed;
  w = w_field packed;
  opcode = opcode_field packed;
  tail = tail_field packed;
  imm = imm_field packed;
}

-- the place of a row in the table, which is its place in the enum
unfoldable pub number_of : Row → ℕ
number_of row = tag_of the_type row

-- the entry of a row
abbrev pub entry_of : Row → ℕ
entry_of row = slice_index TABLE (number_of row)
