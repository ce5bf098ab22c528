use Rattle.std.proofs.Common.{◌≡◌, ℕ, refl, ◌∙◌, Bool, true, false, List, Option, Some, None, ℤ, pos, negsuc}
use Rattle.std.specs.Prelude.{not, is_none, is_some}
use Rattle.std.proofs.lemmas.Bool.{and_parts}
use Rattle.cax64_machine_code.specs.Line.{same_bool}
use Rattle.cax64_machine_code.specs.Prefix.{Prefix, b_of, x_of}
use Rattle.cax64_machine_code.specs.Reading.{FoundOf, imm_at, operands_of, place_at, reg_view, vvvv_at}
use Rattle.cax64_machine_code.specs.ReadLine.{find_line}
use Rattle.cax64_machine_code.specs.Tail.{read_tail}
use Rattle.cax64_machine_code.specs.declared.line.Line.{Line}
use Rattle.cax64_machine_code.specs.declared.line.PlaceField.{PlaceField}
use Rattle.cax64_machine_code.specs.declared.line.PlaceField.TheVariants.{Memory, RegisterOrMemory, Register8OrMemory}
use Rattle.cax64_machine_code.specs.declared.line.PrefixField.{PrefixField}
use Rattle.cax64_machine_code.specs.declared.line.PrefixField.TheVariants.{LegacyField, VexField}
use Rattle.cax64_machine_code.specs.declared.line.RegField.{RegField}
use Rattle.cax64_machine_code.specs.declared.line.RegField.TheVariants.{Digit, Register8, Register}
use Rattle.cax64_machine_code.specs.declared.line.TailField.{TailField}
use Rattle.cax64_machine_code.specs.declared.line.TailField.TheVariants.{NoTail, Modrm}
use Rattle.cax64_machine_code.specs.declared.line.VvvvField.TheVariants.{VvvvRegister, Stored1111}
use Rattle.cax64_machine_code.specs.declared.reading.Place.{Place}
use Rattle.cax64_machine_code.specs.declared.reading.Place.TheVariants.{Reg, Mem, Rip}
use Rattle.cax64_machine_code.specs.declared.reading.RegView.TheVariants.{Low, High}
use Rattle.cax64_machine_code.proofs.ReadLine.{line_steps}
use Rattle.cax64_reader.specs.Range.{in_range}
use Rattle.cax64_reader.proofs.Lengths.{chained_from, mapped_from, some_same}
use Rattle.cax64_table.specs.Numbers as line
use Rattle.x64_lines.specs.Line.{core_line}
use Rattle.x64_lines.specs.Refusal.{imm_refusal}
use Rattle.x64_lines.specs.Shape.{field_takes, has_mem, has_reg, has_vvvv, imm_field, shape_of, tail_takes}
use Rattle.x64_lines.specs.declared.op.Op.{Op}
use Rattle.x64_lines.specs.declared.shapes.OpFields.{OpFields}
use Rattle.x64_lines.specs.declared.shapes.OpImm.{OpImm}
use Rattle.x64_lines.specs.declared.shapes.OpImm.TheVariants as imm
use Rattle.x64_lines.proofs.Facts.{facts}
use Rattle.x64_reader.specs.Taken.{is_taken, place_taken}
use Rattle.x64_reader.specs.declared.reading.CoreReading.{CoreReading}

-- What a line of the core reads is what its shape takes.

same_itself : (a : Bool) → same_bool a a ≡ true
same_itself true = refl
same_itself false = refl

vvvv_stands : (field : PrefixField) (p : Prefix) → is_some (vvvv_at field p) ≡ line.has_vvvv field
vvvv_stands (LegacyField set rex) p = refl
vvvv_stands (VexField pp map l VvvvRegister) p = refl
vvvv_stands (VexField pp map l Stored1111) p = refl

reg_stands : (reg : RegField) (field : PlaceField) (p : Prefix) (n : ℕ) → is_some (reg_view reg p n) ≡ line.has_register (Modrm reg field)
reg_stands (Digit d) field p n = refl
reg_stands Register8 field p n = refl
reg_stands Register field p n = refl

takes_memory : (reg : RegField) (field : PlaceField) (fields : OpFields) → tail_takes (Modrm reg field) fields ≡ true → (has_mem fields ≡ true) × (field_takes field fields ≡ true)
takes_memory (Digit d) field fields h =
    let a = and_parts (has_mem fields) _ h in
    (a.0, (and_parts (not (has_reg fields)) (field_takes field fields) a.1).1)
takes_memory Register8 field fields h =
    let a = and_parts (has_mem fields) _ h in
    (a.0, (and_parts (has_reg fields) (field_takes field fields) a.1).1)
takes_memory Register field fields h =
    let a = and_parts (has_mem fields) _ h in
    (a.0, (and_parts (has_reg fields) (field_takes field fields) a.1).1)

place_stands : (field : PlaceField) (p : Prefix) (named place : Place) (fields : OpFields) → has_mem fields ≡ true → field_takes field fields ≡ true → place_at field p named ≡ Some place → place_taken fields (Some place) ≡ true
place_stands Memory p (Reg view) place fields m f h = cc
place_stands RegisterOrMemory p (Reg view) place fields m f h = rw (← some_same _ _ h) f
place_stands Register8OrMemory p (Reg (Low number)) place fields m f h = rw (← some_same _ _ h) f
place_stands Register8OrMemory p (Reg (High number)) place fields m f h = rw (← some_same _ _ h) f
place_stands field p (Mem base index disp) place fields m f h = rw (← some_same _ _ h) m
place_stands field p (Rip disp) place fields m f h = rw (← some_same _ _ h) m

record Stands (found : Line) (tail : TailField) (fields : OpFields) (f : FoundOf Line) : Type 0 where
  reg : is_some f.parts.reg ≡ line.has_register tail
  vvvv : is_some f.parts.vvvv ≡ line.has_vvvv found.prefix
  place : place_taken fields f.parts.place ≡ true

all_stand : (tail : TailField) (l : Line) (p : Prefix) (bytes : List ℕ) (found : FoundOf Line) (fields : OpFields) → tail_takes tail fields ≡ true → operands_of tail l l p bytes ≡ Some found → Stands l tail fields found
all_stand NoTail l p bytes found fields t h =
    let m = mapped_from _ (imm_at l.imm bytes) found h in
    rw (← m.2) (record { reg = refl; vvvv = vvvv_stands l.prefix p; place = t })
all_stand (Modrm reg field) l p bytes found fields t h =
    let k = chained_from _ (read_tail (x_of p) (b_of p) 1 bytes) found h in
    let a = chained_from _ (place_at field p k.0.place) found k.2 in
    let m = mapped_from _ (imm_at l.imm k.0.rest) found a.2 in
    let takes = takes_memory reg field fields t in
    rw (← m.2) (record { reg = reg_stands reg field p k.0.reg; vvvv = vvvv_stands l.prefix p; place = place_stands field p k.0.place a.0 fields takes.0 takes.1 a.1 })

imm_stands : (kind : OpImm) (value : Option ℤ) → in_range (imm_field kind) value ≡ true → is_none (imm_refusal kind value) ≡ true
imm_stands imm.None None h = refl
imm_stands imm.None (Some v) h = cc
imm_stands imm.U8 None h = cc
imm_stands imm.U8 (Some (pos n)) h = rw h refl
imm_stands imm.U8 (Some (negsuc n)) h = cc
imm_stands imm.U16 None h = cc
imm_stands imm.U16 (Some (pos n)) h = rw h refl
imm_stands imm.U16 (Some (negsuc n)) h = cc
imm_stands imm.U32 None h = cc
imm_stands imm.U32 (Some (pos n)) h = rw h refl
imm_stands imm.U32 (Some (negsuc n)) h = cc
imm_stands imm.I8 None h = cc
imm_stands imm.I8 (Some (pos n)) h = rw h refl
imm_stands imm.I8 (Some (negsuc n)) h = rw h refl
imm_stands imm.I32 None h = cc
imm_stands imm.I32 (Some (pos n)) h = rw h refl
imm_stands imm.I32 (Some (negsuc n)) h = rw h refl

abbrev pub reading_from : Op → ℕ → FoundOf Line → CoreReading
reading_from op length found = record { op = op; length = length; tail = found.tail; reg = found.parts.reg; vvvv = found.parts.vvvv; place = found.parts.place; imm = found.parts.imm }

pub all_taken : (op : Op) (length : ℕ) (bytes : List ℕ) (found : FoundOf Line) → find_line (core_line op.number) bytes ≡ Some found → in_range (core_line op.number).imm found.parts.imm ≡ true → is_taken (reading_from op length found) ≡ true
all_taken op length bytes found h r =
    let shape = shape_of op.number in
    let f = facts op in
    let s = line_steps (core_line op.number) bytes found h in
    let st = all_stand (core_line op.number).tail (core_line op.number) s.prefix s.rest found shape.fields f.tail s.operands_are in
    let i : is_none (imm_refusal shape.imm found.parts.imm) ≡ true = imm_stands shape.imm found.parts.imm (rw f.imm at r) in
    rw (st.reg ∙ f.reg, st.vvvv ∙ f.vvvv, same_itself (has_reg shape.fields), same_itself (has_vvvv shape.fields), st.place, i) refl
