use Rattle.std.proofs.Common.{◌≡◌, ℕ, refl, sym, ap, Bool, true, false, arith}
use Rattle.std.specs.Prelude.{not, ◌==◌}
use Rattle.std.proofs.lemmas.Bool.{and_parts}
use Rattle.std.proofs.lemmas.Bool.Decides.{nat_tests}
use Rattle.cax64_machine_code.specs.declared.line.ImmField.{ImmField}
use Rattle.cax64_machine_code.specs.declared.line.ImmField.TheVariants.{NoImm, Imm, Simm}
use Rattle.cax64_machine_code.specs.declared.line.Line.{Line}
use Rattle.cax64_machine_code.specs.declared.line.PrefixField.{PrefixField}
use Rattle.cax64_machine_code.specs.declared.line.PrefixField.TheVariants.{LegacyField, VexField}
use Rattle.cax64_machine_code.specs.declared.line.RegField.TheVariants as reg_field
use Rattle.cax64_machine_code.specs.declared.line.TailField.{TailField}
use Rattle.cax64_machine_code.specs.declared.line.TailField.TheVariants.{NoTail, Modrm}
use Rattle.cax64_machine_code.specs.declared.line.VvvvField.TheVariants.{VvvvRegister, Stored1111}
use Rattle.cax64_table.specs.Numbers as line
use Rattle.x64_lines.specs.Line.{core_line}
use Rattle.x64_lines.specs.Shape.{shape_of, has_shape, has_reg, has_vvvv, has_mem, imm_field, tail_takes, prefix_takes, field_takes, same_imm}
use Rattle.x64_lines.specs.declared.op.Op.{Op}
use Rattle.x64_lines.specs.declared.shapes.OpFields.{OpFields}
use Rattle.x64_lines.specs.declared.shapes.OpFields.TheVariants.{Bare, Rm, Mem, RegRm, RegMem, RegVvvvRm}
use Rattle.x64_lines.specs.declared.shapes.OpShape.{OpShape}
use Rattle.x64_lines.proofs.Table.{op_below, shape_is}

-- What a line's shape says of it.

is_number : (a b : ℕ) → (a == b) ≡ true → a ≡ b
is_number a b h = grind (arith, nat_tests)

not_true : (b : Bool) → not b ≡ true → b ≡ false
not_true true h = cc
not_true false h = refl

no_mem : (fields : OpFields) → not (has_mem fields) ≡ true → has_reg fields ≡ false
no_mem Bare h = refl
no_mem Rm h = cc
no_mem Mem h = cc
no_mem RegRm h = cc
no_mem RegMem h = cc
no_mem RegVvvvRm h = cc

tail_reg : (tail : TailField) (fields : OpFields) → tail_takes tail fields ≡ true → line.has_register tail ≡ has_reg fields
tail_reg NoTail fields h = sym (no_mem fields h)
tail_reg (Modrm (reg_field.Digit d) field) fields h =
    let a = and_parts (has_mem fields) _ h in
    let b = and_parts (not (has_reg fields)) (field_takes field fields) a.1 in
    sym (not_true (has_reg fields) b.0)
tail_reg (Modrm reg_field.Register8 field) fields h =
    let a = and_parts (has_mem fields) _ h in
    let b = and_parts (has_reg fields) (field_takes field fields) a.1 in
    sym b.0
tail_reg (Modrm reg_field.Register field) fields h =
    let a = and_parts (has_mem fields) _ h in
    let b = and_parts (has_reg fields) (field_takes field fields) a.1 in
    sym b.0

prefix_vvvv : (prefix : PrefixField) (fields : OpFields) → prefix_takes prefix fields ≡ true → line.has_vvvv prefix ≡ has_vvvv fields
prefix_vvvv (LegacyField set rex) fields h = sym (not_true (has_vvvv fields) h)
prefix_vvvv (VexField pp map l VvvvRegister) fields h = sym h
prefix_vvvv (VexField pp map l Stored1111) fields h = sym (not_true (has_vvvv fields) h)

imm_is : (field other : ImmField) → same_imm field other ≡ true → field ≡ other
imm_is NoImm NoImm h = refl
imm_is NoImm (Imm size) h = cc
imm_is NoImm (Simm size) h = cc
imm_is (Imm size) NoImm h = cc
imm_is (Imm size) (Imm other) h = ap (λ (n : ℕ). Imm n) (is_number size other h)
imm_is (Imm size) (Simm other) h = cc
imm_is (Simm size) NoImm h = cc
imm_is (Simm size) (Imm other) h = cc
imm_is (Simm size) (Simm other) h = ap (λ (n : ℕ). Simm n) (is_number size other h)

pub record Facts (found : Line) (shape : OpShape) : Type 0 where
  pub tail : tail_takes found.tail shape.fields ≡ true
  pub prefix : prefix_takes found.prefix shape.fields ≡ true
  pub reg : line.has_register found.tail ≡ has_reg shape.fields
  pub vvvv : line.has_vvvv found.prefix ≡ has_vvvv shape.fields
  pub imm : found.imm ≡ imm_field shape.imm

pub facts_of : (found : Line) (shape : OpShape) → has_shape found shape ≡ true → Facts found shape
facts_of found shape h =
    let a = and_parts (tail_takes found.tail shape.fields) _ h in
    let b = and_parts (prefix_takes found.prefix shape.fields) (same_imm found.imm (imm_field shape.imm)) a.1 in
    record {
      tail = a.0;
      prefix = b.0;
      reg = tail_reg found.tail shape.fields a.0;
      vvvv = prefix_vvvv found.prefix shape.fields b.0;
      imm = imm_is found.imm (imm_field shape.imm) b.1;
    }

pub facts : (op : Op) → Facts (core_line op.number) (shape_of op.number)
facts op = facts_of (core_line op.number) (shape_of op.number) (shape_is op.number (op_below op))
