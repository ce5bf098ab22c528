use Rattle.std.specs.Prelude.{ℕ, Bool, true, false, not, ◌&&◌, ◌==◌, slice_index_or}
use Rattle.cax64_machine_code.specs.declared.line.ImmField.{ImmField}
use Rattle.cax64_machine_code.specs.declared.line.ImmField.TheVariants.{NoImm, Imm, Simm}
use Rattle.cax64_machine_code.specs.declared.line.Line.{Line}
use Rattle.cax64_machine_code.specs.declared.line.PlaceField.{PlaceField}
use Rattle.cax64_machine_code.specs.declared.line.PlaceField.TheVariants.{Memory, RegisterOrMemory, Register8OrMemory}
use Rattle.cax64_machine_code.specs.declared.line.PrefixField.{PrefixField}
use Rattle.cax64_machine_code.specs.declared.line.PrefixField.TheVariants.{LegacyField, VexField}
use Rattle.cax64_machine_code.specs.declared.line.RegField.TheVariants.{Digit, Register8, Register}
use Rattle.cax64_machine_code.specs.declared.line.TailField.{TailField}
use Rattle.cax64_machine_code.specs.declared.line.TailField.TheVariants.{NoTail, Modrm}
use Rattle.cax64_machine_code.specs.declared.line.VvvvField.TheVariants.{VvvvRegister, Stored1111}
use Rattle.x64_lines.specs.declared.shapes.OpFields.{OpFields}
use Rattle.x64_lines.specs.declared.shapes.OpFields.TheVariants.{Bare, Rm, Mem, RegRm, RegMem, RegVvvvRm}
use Rattle.x64_lines.specs.declared.shapes.OpImm.{OpImm}
use Rattle.x64_lines.specs.declared.shapes.OpImm.TheVariants as imm
use Rattle.x64_lines.specs.declared.shapes.OpShape.{OpShape}
use Rattle.x64_lines.specs.declared.shapes.TheConstants.{SHAPES}

-- The operands that a line takes, by its number.

abbrev pub shape_of : ℕ → OpShape
shape_of number = slice_index_or SHAPES number (record { fields = Bare; imm = imm.None })

-- a register stands in reg
abbrev pub has_reg : OpFields → Bool
has_reg Bare = false
has_reg Rm = false
has_reg Mem = false
has_reg RegRm = true
has_reg RegMem = true
has_reg RegVvvvRm = true

-- a register stands in vvvv
abbrev pub has_vvvv : OpFields → Bool
has_vvvv Bare = false
has_vvvv Rm = false
has_vvvv Mem = false
has_vvvv RegRm = false
has_vvvv RegMem = false
has_vvvv RegVvvvRm = true

-- memory may stand in the rest of the tail
abbrev pub has_mem : OpFields → Bool
has_mem Bare = false
has_mem Rm = true
has_mem Mem = true
has_mem RegRm = true
has_mem RegMem = true
has_mem RegVvvvRm = true

-- a register may stand there
abbrev pub has_rm : OpFields → Bool
has_rm Bare = false
has_rm Rm = true
has_rm Mem = false
has_rm RegRm = true
has_rm RegMem = false
has_rm RegVvvvRm = true

abbrev pub imm_field : OpImm → ImmField
imm_field imm.None = NoImm
imm_field imm.U8 = Imm 1
imm_field imm.U16 = Imm 2
imm_field imm.U32 = Imm 4
imm_field imm.I8 = Simm 1
imm_field imm.I32 = Simm 4

-- A line takes such operands.

abbrev pub field_takes : PlaceField → OpFields → Bool
field_takes Memory fields = not (has_rm fields)
field_takes RegisterOrMemory fields = has_rm fields
field_takes Register8OrMemory fields = has_rm fields

abbrev pub tail_takes : TailField → OpFields → Bool
tail_takes NoTail fields = not (has_mem fields)
tail_takes (Modrm (Digit d) field) fields = has_mem fields && (not (has_reg fields) && field_takes field fields)
tail_takes (Modrm Register8 field) fields = has_mem fields && (has_reg fields && field_takes field fields)
tail_takes (Modrm Register field) fields = has_mem fields && (has_reg fields && field_takes field fields)

abbrev pub prefix_takes : PrefixField → OpFields → Bool
prefix_takes (LegacyField set rex) fields = not (has_vvvv fields)
prefix_takes (VexField pp map l VvvvRegister) fields = has_vvvv fields
prefix_takes (VexField pp map l Stored1111) fields = not (has_vvvv fields)

abbrev pub same_imm : ImmField → ImmField → Bool
same_imm NoImm NoImm = true
same_imm NoImm (Imm size) = false
same_imm NoImm (Simm size) = false
same_imm (Imm size) NoImm = false
same_imm (Imm size) (Imm other) = size == other
same_imm (Imm size) (Simm other) = false
same_imm (Simm size) NoImm = false
same_imm (Simm size) (Imm other) = false
same_imm (Simm size) (Simm other) = size == other

abbrev pub has_shape : Line → OpShape → Bool
has_shape line shape = tail_takes line.tail shape.fields && (prefix_takes line.prefix shape.fields && same_imm line.imm (imm_field shape.imm))
