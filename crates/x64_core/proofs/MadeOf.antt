use Rattle.std.proofs.Common.{◌≡◌, ℕ, refl, ◌∙◌, true}
use Rattle.std.specs.Prelude.{option_map}
use Rattle.cax64_address.specs.declared.amode.Amode.{Amode}
use Rattle.cax64_encoder.specs.ImmActions.{imm_named}
use Rattle.cax64_encoder.specs.declared.number.Number.{Number}
use Rattle.cax64_encoder.specs.declared.role.PlaceOperand.TheVariants as operand
use Rattle.cax64_encoder.specs.declared.role.PlaceOperand.TheVariants.{Memory}
use Rattle.cax64_machine_code.specs.declared.line.Line.{Line}
use Rattle.cax64_operand.specs.Immediate.{imm_value}
use Rattle.x64_place.specs.Operand as flat
use Rattle.x64_place.specs.declared.place.FlatPlace.{FlatPlace}
use Rattle.cax64_table.specs.Numbers as line
use Rattle.x64_core.specs.Fits.{core_fits, place_fits}
use Rattle.x64_lines.specs.Line.{core_line}
use Rattle.x64_lines.specs.Shape.{shape_of, has_reg, has_vvvv, has_mem, has_rm, imm_field}
use Rattle.x64_core.specs.View.{CoreView, place_operand, when}
use Rattle.x64_core.specs.Viewed.{viewed}
use Rattle.x64_lines.specs.declared.op.Op.{Op}
use Rattle.x64_core.specs.declared.place.CorePlace.{CorePlace}
use Rattle.x64_core.specs.declared.place.CorePlace.TheVariants.{Absent, Register, Base, BaseAndIndex, Relative}
use Rattle.x64_lines.specs.declared.shapes.OpFields.{OpFields}
use Rattle.x64_lines.specs.declared.shapes.OpImm.{OpImm}
use Rattle.x64_lines.specs.declared.shapes.OpShape.{OpShape}
use Rattle.x64_lines.proofs.Facts.{Facts, facts}
use Rattle.x64_core.proofs.Viewed.{viewed_operand}

-- What is made of numbers.

pub fits_by : (shape : OpShape) (fields : OpFields) (kind : OpImm) (reg vvvv : ℕ) (place : CorePlace) (word : ℕ) → shape.fields ≡ fields → shape.imm ≡ kind → core_fits (record { fields = fields; imm = kind }) reg vvvv place word ≡ true → core_fits shape reg vvvv place word ≡ true
fits_by shape fields kind reg vvvv place word f i h = rw (f, i) h

-- memory fits where memory may stand
pub mem_fits : (fields : OpFields) (place : CorePlace) (amode : Amode ℕ) → has_mem fields ≡ true → place_operand place ≡ Memory amode → place_fits fields place ≡ true
mem_fits fields Absent amode h e = cc
mem_fits fields (Register number) amode h e = cc
mem_fits fields (Base base trap offset displacement) amode h e = h
mem_fits fields (BaseAndIndex base index scale trap displacement) amode h e = h
mem_fits fields (Relative target) amode h e = h

-- and of a flat place
pub address_fits : (fields : OpFields) (place : FlatPlace) (amode : Amode ℕ) → has_mem fields ≡ true → flat.place_operand place ≡ Memory amode → place_fits fields (viewed place) ≡ true
address_fits fields place amode h e = mem_fits fields (viewed place) amode h (viewed_operand place ∙ e)

rm_fits : (fields : OpFields) (place : CorePlace) (number : Number) → has_rm fields ≡ true → place_operand place ≡ operand.Register number → place_fits fields place ≡ true
rm_fits fields Absent number h e = cc
rm_fits fields (Register n) number h e = h
rm_fits fields (Base base trap offset displacement) number h e = cc
rm_fits fields (BaseAndIndex base index scale trap displacement) number h e = cc
rm_fits fields (Relative target) number h e = cc

-- a register fits where a register may stand
pub register_fits : (fields : OpFields) (place : FlatPlace) (number : Number) → has_rm fields ≡ true → flat.place_operand place ≡ operand.Register number → place_fits fields (viewed place) ≡ true
register_fits fields place number h e = rm_fits fields (viewed place) number h (viewed_operand place ∙ e)

abbrev pub view_at : Line → ℕ → ℕ → ℕ → CorePlace → ℕ → CoreView
view_at found op reg vvvv place word = record { op = op; reg = when (line.has_register found.tail) reg; vvvv = when (line.has_vvvv found.prefix) vvvv; place = place_operand place; imm = option_map imm_value (imm_named found.imm word) }

abbrev pub view_in : OpFields → OpImm → ℕ → ℕ → ℕ → CorePlace → ℕ → CoreView
view_in fields kind op reg vvvv place word = record { op = op; reg = when (has_reg fields) reg; vvvv = when (has_vvvv fields) vvvv; place = place_operand place; imm = option_map imm_value (imm_named (imm_field kind) word) }

view_of_facts : (found : Line) (shape : OpShape) (op reg vvvv : ℕ) (place : CorePlace) (word : ℕ) → Facts found shape → view_at found op reg vvvv place word ≡ view_in shape.fields shape.imm op reg vvvv place word
view_of_facts found shape op reg vvvv place word f = rw (f.reg, f.vvvv, f.imm) refl

view_of_shape : (shape : OpShape) (fields : OpFields) (kind : OpImm) (op reg vvvv : ℕ) (place : CorePlace) (word : ℕ) → shape.fields ≡ fields → shape.imm ≡ kind → view_in shape.fields shape.imm op reg vvvv place word ≡ view_in fields kind op reg vvvv place word
view_of_shape shape fields kind op reg vvvv place word f i = rw (f, i) refl

pub view_by : (op : Op) (fields : OpFields) (kind : OpImm) (reg vvvv : ℕ) (place : CorePlace) (word : ℕ) → (shape_of op.number).fields ≡ fields → (shape_of op.number).imm ≡ kind → view_at (core_line op.number) op.number reg vvvv place word ≡ view_in fields kind op.number reg vvvv place word
view_by op fields kind reg vvvv place word f i = view_of_facts (core_line op.number) (shape_of op.number) op.number reg vvvv place word (facts op) ∙ view_of_shape (shape_of op.number) fields kind op.number reg vvvv place word f i
