use Rattle.std.specs.Prelude.{ℕ, ◌+◌, ◌-◌, ◌*◌, Bool, true, false, not, ◌&&◌, nat_le, if◌then◌else◌, Option, Some, None, option_map, option_and_then, ℤ, pos, List, [], ◌∷◌, length}
use Rattle.cax64_machine_code.specs.Fields.{number_at, signed_of}
use Rattle.cax64_machine_code.specs.Prefix.{Prefix, prefix_at, has_rex, r_of, x_of, b_of, vvvv_of}
use Rattle.cax64_machine_code.specs.Tail.{read_tail}
use Rattle.cax64_machine_code.specs.Line.{prefix_matches, opcode_at}
use Rattle.cax64_machine_code.specs.declared.line.Line.{Line}
use Rattle.cax64_machine_code.specs.declared.line.VvvvField.{VvvvField}
use Rattle.cax64_machine_code.specs.declared.line.PrefixField.{PrefixField}
use Rattle.cax64_machine_code.specs.declared.line.RegField.{RegField}
use Rattle.cax64_machine_code.specs.declared.line.PlaceField.{PlaceField}
use Rattle.cax64_machine_code.specs.declared.line.TailField.{TailField}
use Rattle.cax64_machine_code.specs.declared.line.ImmField.{ImmField}
use Rattle.cax64_machine_code.specs.declared.line.VvvvField.TheVariants.{VvvvRegister, Stored1111}
use Rattle.cax64_machine_code.specs.declared.line.PrefixField.TheVariants.{LegacyField, VexField}
use Rattle.cax64_machine_code.specs.declared.line.RegField.TheVariants.{Digit, Register8, Register}
use Rattle.cax64_machine_code.specs.declared.line.PlaceField.TheVariants.{Memory, RegisterOrMemory, Register8OrMemory}
use Rattle.cax64_machine_code.specs.declared.line.TailField.TheVariants.{NoTail, Modrm}
use Rattle.cax64_machine_code.specs.declared.line.ImmField.TheVariants.{NoImm, Imm, Simm}
use Rattle.cax64_machine_code.specs.Rows.{line_of, all_rows}
use Rattle.cax64_machine_code.specs.declared.row.Row.{Row}
use Rattle.cax64_machine_code.specs.declared.reading.Reading.{Reading}
use Rattle.cax64_machine_code.specs.declared.reading.RegView.{RegView}
use Rattle.cax64_machine_code.specs.declared.reading.RegView.TheVariants.{Low, High}
use Rattle.cax64_machine_code.specs.declared.reading.Place.{Place}
use Rattle.cax64_machine_code.specs.declared.reading.Place.TheVariants.{Reg, Mem, Rip}

-- A register operand by its number. Numbers 4 to 7 of an 8-bit operand are ah, ch, dh and bh where there is no REX
-- byte. (Intel SDM, volume 1, table 3-2; volume 2, 2.2.1.2.)
abbrev pub view_of : Bool → Bool → ℕ → RegView
view_of eight rex number = if eight && (not rex && (nat_le 4 number && nat_le number 7)) then High (number - 4) else Low number

-- the operands of an instruction as they are read, and what names its line of a table; what the line lacks is absent
pub record PartsOf (K : Type 0) : Type 0 where
  pub row : K
  pub reg : Option RegView
  pub vvvv : Option ℕ
  pub place : Option Place
  pub imm : Option ℤ

abbrev pub Parts : Type 0
Parts = PartsOf Row

-- the operands at the front, the number of bytes of the tail, and what follows
pub record FoundOf (K : Type 0) : Type 0 where
  pub parts : PartsOf K
  pub tail : ℕ
  pub rest : List ℕ

abbrev pub Found : Type 0
Found = FoundOf Row

-- the register in the reg field
abbrev pub reg_view : RegField → Prefix → ℕ → Option RegView
reg_view (Digit d) prefix reg = None
reg_view Register8 prefix reg = Some (view_of true (has_rex prefix) (reg + 8 * r_of prefix))
reg_view Register prefix reg = Some (view_of false (has_rex prefix) (reg + 8 * r_of prefix))

abbrev pub reg_place : PlaceField → Prefix → RegView → Option Place
reg_place Memory prefix view = None
reg_place RegisterOrMemory prefix view = Some (Reg view)
reg_place Register8OrMemory prefix (Low number) = Some (Reg (view_of true (has_rex prefix) number))
reg_place Register8OrMemory prefix (High number) = Some (Reg (High number))

-- the place that the tail names, where the row allows it
abbrev pub place_at : PlaceField → Prefix → Place → Option Place
place_at field prefix (Reg view) = reg_place field prefix view
place_at field prefix (Mem base index disp) = Some (Mem base index disp)
place_at field prefix (Rip disp) = Some (Rip disp)

abbrev pub vvvv_register_of : VvvvField → ℕ → Option ℕ
vvvv_register_of VvvvRegister vvvv = Some vvvv
vvvv_register_of Stored1111 vvvv = None

-- the register in vvvv
abbrev pub vvvv_at : PrefixField → Prefix → Option ℕ
vvvv_at (LegacyField set rex) prefix = None
vvvv_at (VexField pp map l vvvv) prefix = vvvv_register_of vvvv (vvvv_of prefix)

-- the immediate at the front, if the row has one, and what follows it
abbrev pub imm_at : ImmField → List ℕ → Option (Option ℤ × List ℕ)
imm_at NoImm bytes = Some (None, bytes)
imm_at (Imm size) bytes = option_map (λ n. (Some (pos n.0), n.1)) (number_at size bytes)
imm_at (Simm size) bytes = option_map (λ n. (Some (signed_of size n.0), n.1)) (number_at size bytes)

-- the operands of a row without a tail
abbrev pub bare_operands : {K : Type 0} → K → Line → Prefix → List ℕ → Option (FoundOf K)
bare_operands row line prefix bytes =
    option_map
    (λ i. record {
      parts = record { row = row; reg = None; vvvv = vvvv_at line.prefix prefix; place = None; imm = i.0 };
      tail = 0;
      rest = i.1;
    })
    (imm_at line.imm bytes)

-- the operands of a row with a tail of these fields
abbrev pub tail_operands : {K : Type 0} → K → Line → RegField → PlaceField → Prefix → List ℕ → Option (FoundOf K)
tail_operands row line reg field prefix bytes =
    option_and_then
    (λ t. option_and_then
    (λ place. option_map
    (λ i. record {
      parts = record { row = row; reg = reg_view reg prefix t.reg; vvvv = vvvv_at line.prefix prefix; place = Some place; imm = i.0 };
      tail = length bytes - length t.rest;
      rest = i.1;
    })
    (imm_at line.imm t.rest))
    (place_at field prefix t.place))
    (read_tail (x_of prefix) (b_of prefix) 1 bytes)

abbrev pub operands_of : {K : Type 0} → TailField → K → Line → Prefix → List ℕ → Option (FoundOf K)
operands_of NoTail row line prefix bytes = bare_operands row line prefix bytes
operands_of (Modrm reg field) row line prefix bytes = tail_operands row line reg field prefix bytes

-- the operands behind the row's opcode
unfoldable pub operands_at : Row → Prefix → List ℕ → Option Found
operands_at row prefix bytes = operands_of (line_of row).tail row (line_of row) prefix bytes

-- what follows the opcode of a row that the prefix matches
abbrev pub matched_at : Line → Prefix → List ℕ → Option (List ℕ)
matched_at line prefix bytes = if prefix_matches line prefix then opcode_at line bytes else None

abbrev pub or_later : Option (Row × List ℕ) → Option (Row × List ℕ) → Option (Row × List ℕ)
or_later None later = later
or_later (Some found) later = Some found

-- the row of a list that the prefix and the opcode match, and what follows the opcode
unfoldable pub row_at : List Row → Prefix → List ℕ → Option (Row × List ℕ)
row_at [] prefix bytes = None
row_at (row ∷ rows) prefix bytes = or_later (option_map (λ rest. (row, rest)) (matched_at (line_of row) prefix bytes)) (row_at rows prefix bytes)

-- the instruction at the front of some bytes
unfoldable pub find : List ℕ → Option Found
find bytes =
    option_and_then
    (λ p. option_and_then (λ row. operands_at row.0 p.0 row.1) (row_at all_rows p.0 p.1))
    (prefix_at bytes)

-- a reading is the operands, the number of bytes of the instruction and that of its tail
abbrev pub reading_of : List ℕ → Found → Reading
reading_of bytes found = record {
  row = found.parts.row;
  length = length bytes - length found.rest;
  tail = found.tail;
  reg = found.parts.reg;
  vvvv = found.parts.vvvv;
  place = found.parts.place;
  imm = found.parts.imm;
}

-- the reading of the instruction at the front of some bytes
unfoldable pub read : List ℕ → Option Reading
read bytes = option_map (reading_of bytes) (find bytes)
