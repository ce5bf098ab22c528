use Rattle.std.proofs.Common.{◌≡◌, ◌≤◌, ◌∙◌, ◌+◌, Bool, true, false, List, [], ◌∷◌, refl, ap, length, lit≤}
use Rattle.std.specs.Prelude.{◌&&◌}
use Rattle.std.proofs.lemmas.Bool.{and_parts}
use Rattle.cax64_machine_code.specs.Rows.{line_of}
use Rattle.cax64_machine_code.specs.declared.line.ImmField.{ImmField}
use Rattle.cax64_machine_code.specs.declared.line.ImmField.TheVariants as field
use Rattle.cax64_machine_code.specs.declared.line.Line.{Line}
use Rattle.cax64_machine_code.specs.declared.row.Row.{Row}
use Rattle.cax64_operand.specs.Immediate.{imm_of, imm_in_range}
use Rattle.cax64_operand.specs.OperandList.{list_of}
use Rattle.cax64_operand.specs.Shape.{register_count, rest_of, imm_in, imm_fits, imm_has_size, takes, HasShape}
use Rattle.cax64_operand.specs.declared.immediate.Immediate.{Immediate}
use Rattle.cax64_operand.specs.declared.immediate.Immediate.TheVariants as immediate
use Rattle.cax64_operand.specs.declared.operand.Operand.{Operand}
use Rattle.cax64_operand.specs.declared.operand.Operand.TheVariants as operand
use Rattle.cax64_operand.specs.declared.operand.Operands.{Operands}
use Rattle.cax64_operand.specs.declared.operand.Operands.TheVariants as operands
use Rattle.cax64_operand.proofs.Taken.{registers_in, rest_in, field_of, imm_field_in, same_field, line_takes}
use Rattle.cax64_operand.proofs.Table.{row_takes}
use Rattle.cax64_operand.specs.Kind.{kind_of_imm, kinds_of, imms_in_range}
use Rattle.cax64_operand.specs.Signature.{signature_of, HasSignature}

-- What the kinds tell of operands is so.

count_is : {R A B C D E F : Type 0} (o : List (Operand R A B C D E F)) → register_count o ≡ registers_in (kinds_of o)
count_is [] = refl
count_is (operand.ReadGpr reg size ∷ later) = ap (λ n. 1 + n) (count_is later)
count_is (operand.ReadWriteGpr reg size ∷ later) = ap (λ n. 1 + n) (count_is later)
count_is (operand.WriteGpr reg size ∷ later) = ap (λ n. 1 + n) (count_is later)
count_is (operand.WriteTwoGprs high low size ∷ later) = ap (λ n. 2 + n) (count_is later)
count_is (operand.ReadXmm reg ∷ later) = ap (λ n. 1 + n) (count_is later)
count_is (operand.ReadWriteXmm reg ∷ later) = ap (λ n. 1 + n) (count_is later)
count_is (operand.WriteXmm reg ∷ later) = ap (λ n. 1 + n) (count_is later)
count_is (_ ∷ later) = count_is later

rest_is : {R A B C D E F : Type 0} (o : List (Operand R A B C D E F)) → rest_of o ≡ rest_in (kinds_of o)
rest_is [] = refl
rest_is (operand.ReadAmode amode ∷ later) = refl
rest_is (operand.ReadGprMem place size ∷ later) = refl
rest_is (operand.ReadWriteGprMem place size ∷ later) = refl
rest_is (operand.ReadXmmMem place ∷ later) = refl
rest_is (_ ∷ later) = rest_is later

-- an immediate has the size of the field that it fills
size_is : (wanted : ImmField) (imm : Immediate) → same_field wanted (field_of (kind_of_imm imm)) ≡ true → imm_has_size wanted (imm_of imm) ≡ true
size_is field.NoImm (immediate.Imm8 v) h = h
size_is field.NoImm _ h = h
size_is (field.Imm size) (immediate.Imm8 v) h = h
size_is (field.Imm size) _ h = h
size_is (field.Simm size) (immediate.Imm8 v) h = h
size_is (field.Simm size) _ h = h

both : (a b : Bool) → a ≡ true → b ≡ true → (a && b) ≡ true
both true b h k = k
both false b h k = cc

imm_is : {R A B C D E F : Type 0} (wanted : ImmField) (o : List (Operand R A B C D E F)) → imms_in_range o ≡ true → same_field wanted (imm_field_in (kinds_of o)) ≡ true → imm_fits wanted (imm_in o) ≡ true
imm_is field.NoImm [] h k = k
imm_is (field.Imm size) [] h k = k
imm_is (field.Simm size) [] h k = k
imm_is wanted (operand.Imm imm ∷ later) h k = both _ _ (size_is wanted imm k) (and_parts (imm_in_range (imm_of imm)) (imms_in_range later) h).0
imm_is wanted (_ ∷ later) h k = imm_is wanted later h k

-- operands of kinds that a line takes have its shape
line_takes_them : {R A B C D E F : Type 0} (line : Line) (o : List (Operand R A B C D E F)) → imms_in_range o ≡ true → line_takes line (kinds_of o) ≡ true → takes line o ≡ true
line_takes_them line o h k =
    let p = and_parts _ _ k in
    let q = and_parts _ _ p.1 in
    rw (count_is o, rest_is o) (both _ _ p.0 (both _ _ q.0 (imm_is line.imm o h q.1)))

-- operands of a row's signature have its shape
pub row_shape : {R A B C D E F : Type 0} (row : Row) (o : List (Operand R A B C D E F)) → kinds_of o ≡ signature_of row → imms_in_range o ≡ true → takes (line_of row) o ≡ true
row_shape row o e h = line_takes_them (line_of row) o h (ap (λ kinds. line_takes (line_of row) kinds) e ∙ row_takes row)

-- An instruction of a row's signature has the row's shape.
pub has_shape : {R A B C D E F : Type 0} (row : Row) (o : Operands R A B C D E F) → HasSignature row o → HasShape row o
has_shape row (operands.Nop nop) h = h
has_shape {R} {A} {B} {C} {D} {E} {F} row operands.Zero h =
    let none : List (Operand R A B C D E F) = [] in
    row_shape row none h.0 h.1
has_shape row o h = row_shape row (list_of o) h.0 h.1

pub few_operands : {R A B C D E F : Type 0} (o : Operands R A B C D E F) → length (list_of o) ≤ 5
few_operands operands.Zero = lit≤ tt
few_operands o = lit≤ tt
