use Rattle.std.specs.Prelude.{◌≡◌, ◌<◌, ℕ, ◌==◌, ◌&&◌, ◌^◌, ◌+◌, ◌-◌, ◌*◌, ◌%◌, bit_and, option_map, not, nat_le, nat_lt, Bool, true, if◌then◌else◌}
use Rattle.std.specs.Int.{cast_unsigned, from_bool, w32}
use Rattle.cax64_encoder.specs.ImmActions.{imm_named}
use Rattle.cax64_machine_code.specs.Line.{imm_bytes}
use Rattle.cax64_operand.specs.Immediate.{imm_value}
use Rattle.x64_place.specs.Kind.{has_base, has_index}
use Rattle.x64_place.specs.Tail.{kind_number}
use Rattle.x64_place.specs.declared.place.PlaceKind.{PlaceKind}
use Rattle.x64_place.specs.declared.place.PlaceKind.TheVariants.{Absent, Register, Base, BaseAndIndex, Label, Constant, NoTarget}
use Rattle.x64_plain.specs.Named.{has_displacement, has_target}
use Rattle.x64_plain.specs.Plain.{imm_word}
use Rattle.x64_plain.specs.declared.encodable.Limits.{Limits}
use Rattle.x64_plain.specs.declared.inst.HqInst.{HqInst}
use Rattle.x64_plain.specs.declared.place.HqPlace.{HqPlace}
use Rattle.x64_lines.specs.Shape.{has_mem, has_reg, has_rm, has_vvvv, imm_field, shape_of}
use Rattle.x64_lines.specs.declared.lines.TheConstants.{COUNT}
use Rattle.x64_lines.specs.declared.shapes.OpFields.{OpFields}
use Rattle.x64_lines.specs.declared.shapes.OpFields.TheVariants.{Bare, Rm, Mem, RegRm, RegMem, RegVvvvRm}
use Rattle.x64_lines.specs.declared.shapes.OpImm.{OpImm}
use Rattle.x64_lines.specs.declared.shapes.OpImm.TheVariants as imm

-- Integers of an instruction that can be encoded.

abbrev pub fields_number : OpFields → ℕ
fields_number Bare = 0
fields_number Rm = 1
fields_number Mem = 2
fields_number RegRm = 3
fields_number RegMem = 4
fields_number RegVvvvRm = 5

abbrev pub imm_number : OpImm → ℕ
imm_number imm.None = 0
imm_number imm.U8 = 1
imm_number imm.U16 = 2
imm_number imm.U32 = 3
imm_number imm.I8 = 4
imm_number imm.I32 = 5

-- a line of these fields takes a place of this kind
abbrev pub takes : OpFields → PlaceKind → Bool
takes fields Absent = not (has_mem fields)
takes fields Register = has_rm fields
takes fields Base = has_mem fields
takes fields BaseAndIndex = has_mem fields
takes fields Label = has_mem fields
takes fields Constant = has_mem fields
takes fields NoTarget = has_mem fields

-- the largest number of what is there, 0 of what isn't
abbrev pub most : Bool → ℕ → ℕ
most present largest = if present then largest else 0

-- the bits of a word that have to be 0: all of what isn't there
abbrev pub absent : Bool → ℕ
absent present = if present then 0 else 2 ^ 32 - 1

abbrev pub limits_where : Bool → OpFields → PlaceKind → Limits
limits_where taken fields kind = record {
  reg = most (taken && has_reg fields) 15;
  vvvv = most (taken && has_vvvv fields) 15;
  base = most (taken && has_base kind) 15;
  index = most (taken && has_index kind) 15;
  scale = most (taken && has_index kind) 3;
  trap = most (taken && has_displacement kind) 255;
  has_offset = 0;
  offset = 0;
  absent = absent (taken && has_displacement kind) + absent (taken && has_target kind) * 2 ^ 32;
  reserved = from_bool taken;
}

-- what the table has
abbrev pub limits_of : OpFields → PlaceKind → Limits
limits_of fields kind = limits_where (takes fields kind) fields kind

-- each number is at most the one of these, the index isn't the stack pointer, and of displacement and target those bits are 0
abbrev pub is_within : Limits → HqInst → Bool
is_within l i = ((((((((((nat_le i.reg l.reg && nat_le i.vvvv l.vvvv) && nat_le i.base l.base) && nat_le i.index l.index) && nat_le i.scale l.scale) && nat_le i.trap l.trap) && nat_le i.has_offset l.has_offset) && nat_le i.offset l.offset) && nat_lt i.reserved l.reserved) && not (i.index == 4)) && (bit_and (cast_unsigned w32 i.disp + i.target * 2 ^ 32) l.absent == 0))

abbrev pub is_ready : OpFields → PlaceKind → HqInst → Bool
is_ready fields kind i = is_within (limits_of fields kind) i

-- a place without a late offset
abbrev pub settled_place : HqInst → HqPlace
settled_place i = record { place = i.place; base = i.base; index = i.index; scale = i.scale; trap = i.trap; has_offset = 0; offset = 0; reserved = 0; disp = i.disp; target = i.target }

-- the bytes of an immediate as one word, from the low 32 bits of its value
abbrev pub imm_part : OpImm → ℕ → ℕ
imm_part imm.None low = low
imm_part imm.U8 low = low
imm_part imm.U16 low = low
imm_part imm.U32 low = low
imm_part imm.I8 low = low % 256
imm_part imm.I32 low = low

-- these are the low 32 bits of an immediate of this kind
pub record IsImm (kind : OpImm) (low : ℕ) : Type 0 where
  pub below : nat_lt (imm_part kind low) (256 ^ imm_bytes (imm_field kind)) ≡ true
  pub back : imm_word (option_map imm_value (imm_named (imm_field kind) (imm_part kind low))) ≡ low

-- integers of an instruction that can be encoded where no late offset is known
pub record IsReady (i : HqInst) : Type 0 where
  pub line : i.line < COUNT
  pub kind : PlaceKind
  pub own : kind_number kind ≡ i.place
  pub within : is_ready (shape_of i.line).fields kind i ≡ true
  pub imm : IsImm (shape_of i.line).imm i.imm
