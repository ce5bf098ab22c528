use Rattle.std.proofs.Common.{◌≡◌, ℕ, ◌^◌, refl, sym, ap, ◌∙◌, arith, Bool, true, false, Option, ℤ, pos, negsuc, w8, w32, FitsSigned, List, length}
use Rattle.std.specs.Int.{cast_signed}
use Rattle.std.specs.Prelude.{option_map, ◌&&◌, not, nat_lt}
use Rattle.std.proofs.Math.Facts.{sfits_to_z}
use Rattle.std.proofs.lemmas.Bool.{and_parts, ltb-true}
use Rattle.std.proofs.lemmas.Bool.Decides.{nat_tests}
use Rattle.std.proofs.lemmas.Int.{ints, of_z-to_z}
use Rattle.cax64_encoder.specs.EncodesLine.{EncodesLine, line_form_parts}
use Rattle.cax64_encoder.specs.Form as form
use Rattle.cax64_encoder.specs.Form.{fits, reg_fits, tail_fits, vvvv_fits}
use Rattle.cax64_encoder.specs.ImmActions.{imm_named, optional_imm_word}
use Rattle.cax64_encoder.specs.Meant.{low}
use Rattle.cax64_encoder.specs.Number.{number_value}
use Rattle.cax64_encoder.specs.Numbered.{plain, numbered_place, place_named, form_named}
use Rattle.cax64_encoder.specs.Place.{displacement_in, memory_in}
use Rattle.cax64_encoder.specs.declared.number.Number.TheVariants.{Settled}
use Rattle.cax64_encoder.specs.declared.numbered.NumberedForm.{NumberedForm}
use Rattle.cax64_machine_code.specs.Len.{line_len}
use Rattle.cax64_machine_code.specs.Line.{imm_bytes}
use Rattle.cax64_machine_code.specs.Reading.{PartsOf}
use Rattle.cax64_machine_code.specs.declared.line.Line.{Line}
use Rattle.cax64_machine_code.specs.declared.line.PlaceField.{PlaceField}
use Rattle.cax64_machine_code.specs.declared.line.PlaceField.TheVariants.{Memory, RegisterOrMemory, Register8OrMemory}
use Rattle.cax64_machine_code.specs.declared.line.PrefixField.{PrefixField}
use Rattle.cax64_machine_code.specs.declared.line.PrefixField.TheVariants.{LegacyField, VexField}
use Rattle.cax64_machine_code.specs.declared.line.RegField.TheVariants as reg_field
use Rattle.cax64_machine_code.specs.declared.line.TailField.{TailField}
use Rattle.cax64_machine_code.specs.declared.line.TailField.TheVariants.{NoTail, Modrm}
use Rattle.cax64_machine_code.specs.declared.line.VvvvField.TheVariants.{VvvvRegister, Stored1111}
use Rattle.cax64_machine_code.specs.declared.reading.RegView.TheVariants.{Low}
use Rattle.cax64_operand.specs.Immediate.{imm_size, signed_below}
use Rattle.cax64_operand.specs.Shape.{imm_fits}
use Rattle.cax64_sink.specs.Call.{Action}
use Rattle.cax64_sink.specs.Run.{all_bytes}
use Rattle.x64_place.specs.Code.{placed_form}
use Rattle.cax64_table.specs.Numbers as line
use Rattle.x64_core.specs.Core.{core_meant, core_len}
use Rattle.x64_core.specs.Fits.{place_fits}
use Rattle.x64_core.specs.Form.{core_form}
use Rattle.x64_lines.specs.Line.{core_line}
use Rattle.x64_lines.specs.Shape.{shape_of, has_reg, has_mem, has_rm, imm_field, tail_takes, field_takes}
use Rattle.x64_core.specs.View.{core_view, place_operand, when}
use Rattle.x64_core.specs.Viewed.{viewed}
use Rattle.x64_core.specs.declared.instruction.Core.{Core}
use Rattle.x64_core.specs.declared.place.CorePlace.{CorePlace}
use Rattle.x64_core.specs.declared.place.CorePlace.TheVariants.{Absent, Register, Base, BaseAndIndex, Relative}
use Rattle.x64_lines.specs.declared.shapes.OpFields.{OpFields}
use Rattle.x64_lines.specs.declared.shapes.OpFields.TheVariants.{Bare, Rm, Mem, RegRm, RegMem, RegVvvvRm}
use Rattle.x64_lines.specs.declared.shapes.OpImm.{OpImm}
use Rattle.x64_lines.specs.declared.shapes.OpImm.TheVariants as imm
use Rattle.x64_lines.proofs.Facts.{facts}
use Rattle.x64_core.proofs.Viewed.{viewed_numbers}

-- What the encoder is given has the line's shape.

pub place_back : (p : CorePlace) → place_named (numbered_place plain (place_operand p)) ≡ place_operand p
place_back Absent = refl
place_back (Register number) = refl
place_back (Base base trap offset displacement) = refl
place_back (BaseAndIndex base index scale trap displacement) = refl
place_back (Relative target) = refl

rm_mem : (fields : OpFields) → has_rm fields ≡ true → has_mem fields ≡ true
rm_mem Bare h = cc
rm_mem Rm h = refl
rm_mem Mem h = cc
rm_mem RegRm h = refl
rm_mem RegMem h = cc
rm_mem RegVvvvRm h = refl

never : (b : Bool) → not b ≡ true → b ≡ true → ⊥
never true h k = cc
never false h k = cc

no_place : (fields : OpFields) (p : CorePlace) → not (has_mem fields) ≡ true → place_fits fields p ≡ true → form.is_no_place (place_operand p) ≡ true
no_place fields Absent h k = refl
no_place fields (Register number) h k = absurd (never (has_mem fields) h (rm_mem fields k))
no_place fields (Base base trap offset displacement) h k = absurd (never (has_mem fields) h k)
no_place fields (BaseAndIndex base index scale trap displacement) h k = absurd (never (has_mem fields) h k)
no_place fields (Relative target) h k = absurd (never (has_mem fields) h k)

register_fit : (field : PlaceField) (fields : OpFields) (number : ℕ) → field_takes field fields ≡ true → has_rm fields ≡ true → form.place_fits field (place_operand (Register number)) ≡ true
register_fit Memory fields number h k = absurd (never (has_rm fields) h k)
register_fit RegisterOrMemory fields number h k = refl
register_fit Register8OrMemory fields number h k = refl

field_fit : (field : PlaceField) (fields : OpFields) (p : CorePlace) → has_mem fields ≡ true → field_takes field fields ≡ true → place_fits fields p ≡ true → form.place_fits field (place_operand p) ≡ true
field_fit field fields Absent m h k = absurd (never (has_mem fields) k m)
field_fit field fields (Register number) m h k = register_fit field fields number h k
field_fit Memory fields (Base base trap offset displacement) m h k = refl
field_fit RegisterOrMemory fields (Base base trap offset displacement) m h k = refl
field_fit Register8OrMemory fields (Base base trap offset displacement) m h k = refl
field_fit Memory fields (BaseAndIndex base index scale trap displacement) m h k = refl
field_fit RegisterOrMemory fields (BaseAndIndex base index scale trap displacement) m h k = refl
field_fit Register8OrMemory fields (BaseAndIndex base index scale trap displacement) m h k = refl
field_fit Memory fields (Relative target) m h k = refl
field_fit RegisterOrMemory fields (Relative target) m h k = refl
field_fit Register8OrMemory fields (Relative target) m h k = refl

tail_fit : (tail : TailField) (fields : OpFields) (reg : ℕ) (p : CorePlace) → tail_takes tail fields ≡ true → place_fits fields p ≡ true → tail_fits tail (option_map Settled (when (line.has_register tail) reg)) (place_operand p) ≡ true
tail_fit NoTail fields reg p h k = no_place fields p h k
tail_fit (Modrm (reg_field.Digit d) field) fields reg p h k =
    let a = and_parts (has_mem fields) _ h in
    let b = and_parts (not (has_reg fields)) (field_takes field fields) a.1 in
    field_fit field fields p a.0 b.1 k
tail_fit (Modrm reg_field.Register8 field) fields reg p h k =
    let a = and_parts (has_mem fields) _ h in
    let b = and_parts (has_reg fields) (field_takes field fields) a.1 in
    field_fit field fields p a.0 b.1 k
tail_fit (Modrm reg_field.Register field) fields reg p h k =
    let a = and_parts (has_mem fields) _ h in
    let b = and_parts (has_reg fields) (field_takes field fields) a.1 in
    field_fit field fields p a.0 b.1 k

vvvv_fit : (prefix : PrefixField) (vvvv : ℕ) → vvvv_fits prefix (option_map Settled (when (line.has_vvvv prefix) vvvv)) ≡ true
vvvv_fit (LegacyField set rex) vvvv = refl
vvvv_fit (VexField pp map l VvvvRegister) vvvv = refl
vvvv_fit (VexField pp map l Stored1111) vvvv = refl

-- Immediates.

small_8 : (v : ℤ) → FitsSigned w8 v → signed_below (2 ^ 7) v ≡ true
small_8 (pos v) h = grind (arith, nat_tests, ints, h)
small_8 (negsuc v) h = grind (arith, nat_tests, ints, h)

small_32 : (v : ℤ) → FitsSigned w32 v → signed_below (2 ^ 31) v ≡ true
small_32 (pos v) h = grind (arith, nat_tests, ints, h)
small_32 (negsuc v) h = grind (arith, nat_tests, ints, h)

signed_8 : (word : ℕ) → nat_lt word (256 ^ 1) ≡ true → FitsSigned w8 (cast_signed w8 word)
signed_8 word h = sfits_to_z {w = w8} (record { fits = ltb-true _ _ h })

signed_32 : (word : ℕ) → nat_lt word (256 ^ 4) ≡ true → FitsSigned w32 (cast_signed w32 word)
signed_32 word h = sfits_to_z {w = w32} (record { fits = ltb-true _ _ h })

imm_fit : (kind : OpImm) (word : ℕ) → nat_lt word (256 ^ imm_bytes (imm_field kind)) ≡ true → imm_fits (imm_field kind) (imm_named (imm_field kind) word) ≡ true
imm_fit imm.None word h = refl
imm_fit imm.U8 word h = h
imm_fit imm.U16 word h = h
imm_fit imm.U32 word h = h
imm_fit imm.I8 word h = small_8 (cast_signed w8 word) (signed_8 word h)
imm_fit imm.I32 word h = small_32 (cast_signed w32 word) (signed_32 word h)

pub word_is : (kind : OpImm) (word : ℕ) → nat_lt word (256 ^ imm_bytes (imm_field kind)) ≡ true → word ≡ optional_imm_word (imm_named (imm_field kind) word)
word_is imm.None word h = grind (arith, nat_tests, h)
word_is imm.U8 word h = refl
word_is imm.U16 word h = refl
word_is imm.U32 word h = refl
word_is imm.I8 word h = sym (of_z-to_z w8 word (ltb-true _ _ h))
word_is imm.I32 word h = sym (of_z-to_z w32 word (ltb-true _ _ h))

imm_sized : (kind : OpImm) (word : ℕ) → imm_size (imm_named (imm_field kind) word) ≡ imm_bytes (imm_field kind)
imm_sized imm.None word = refl
imm_sized imm.U8 word = refl
imm_sized imm.U16 word = refl
imm_sized imm.U32 word = refl
imm_sized imm.I8 word = refl
imm_sized imm.I32 word = refl

-- An instruction of the core.

record Parts (c : Core) : Type 0 where
  place : place_fits (shape_of c.op.number).fields (viewed c.place) ≡ true
  word : nat_lt c.imm (256 ^ imm_bytes (imm_field (shape_of c.op.number).imm)) ≡ true

parts : (c : Core) → Parts c
parts c =
    let a = and_parts (place_fits (shape_of c.op.number).fields (viewed c.place)) _ c.shape in
    let b = and_parts (nat_lt c.imm (256 ^ imm_bytes (imm_field (shape_of c.op.number).imm))) _ a.1 in
    record { place = a.0; word = b.0 }

three : (a b c : Bool) → a ≡ true → b ≡ true → c ≡ true → (a && (b && c)) ≡ true
three a b c e f g = rw (e, f, g) refl

pub form_fits : (c : Core) → fits (core_line c.op.number) (form_named (core_line c.op.number) (core_form c)) ≡ true
form_fits c =
    let found = core_line c.op.number in
    let f = facts c.op in
    let p = parts c in
    let imm_h : imm_fits found.imm (imm_named found.imm c.imm) ≡ true = rw f.imm (imm_fit (shape_of c.op.number).imm c.imm p.word) in
    let tail_h : tail_fits found.tail (option_map Settled (when (line.has_register found.tail) c.reg)) (place_named (numbered_place plain (place_operand (viewed c.place)))) ≡ true = rw (place_back (viewed c.place)) (tail_fit found.tail (shape_of c.op.number).fields c.reg (viewed c.place) f.tail p.place) in
    three _ _ _ tail_h (vvvv_fit found.prefix c.vvvv) imm_h

pub form_word : (c : Core) → c.imm ≡ optional_imm_word (imm_named (core_line c.op.number).imm c.imm)
form_word c =
    let f = facts c.op in
    rw f.imm (word_is (shape_of c.op.number).imm c.imm (parts c).word)

-- What the encoder gives is what is meant.

low_when : (b : Bool) (n : ℕ) → option_map low (option_map Settled (when b n)) ≡ option_map Low (when b n)
low_when true n = refl
low_when false n = refl

value_when : (b : Bool) (n : ℕ) → option_map number_value (option_map Settled (when b n)) ≡ when b n
value_when true n = refl
value_when false n = refl

size_in : (c : Core) → imm_size (imm_named (core_line c.op.number).imm c.imm) ≡ imm_bytes (core_line c.op.number).imm
size_in c = rw (facts c.op).imm (imm_sized (shape_of c.op.number).imm c.imm)

pub parts_are : (c : Core) (offsets : ℕ → Option ℤ) → line_form_parts plain.enc (core_line c.op.number) (displacement_in offsets (place_operand (viewed c.place))) (form_named (core_line c.op.number) (core_form c)) ≡ (core_meant (core_view c) offsets).parts
parts_are c offsets =
    rw (low_when (line.has_register (core_line c.op.number).tail) c.reg, value_when (line.has_vvvv (core_line c.op.number).prefix) c.vvvv, place_back (viewed c.place), size_in c) refl

pub encodes_core : (c : Core) (offsets : ℕ → Option ℤ) (acts : List Action) (found : Line) (given : NumberedForm) (disp : ℤ) → found ≡ core_line c.op.number → given ≡ core_form c → disp ≡ displacement_in offsets (place_operand (viewed c.place)) → EncodesLine (line_form_parts plain.enc found disp (form_named found given)) (memory_in (place_named given.place)) acts → EncodesLine (core_meant (core_view c) offsets).parts (core_meant (core_view c) offsets).memory acts
encodes_core c offsets acts found given disp e f d h = rw (parts_are c offsets, place_back (viewed c.place)) at (rw (e, f, d) at h)

pub length_core : (c : Core) (offsets : ℕ → Option ℤ) (acts : List Action) (found : Line) (given : NumberedForm) (disp : ℤ) → found ≡ core_line c.op.number → given ≡ core_form c → disp ≡ displacement_in offsets (place_operand (viewed c.place)) → length (all_bytes acts) ≡ line_len found (line_form_parts plain.enc found disp (form_named found given)) → length (all_bytes acts) ≡ core_len offsets (core_view c)
length_core c offsets acts found given disp e f d h =
    (rw (e, f, d) at h) ∙ ap (λ (p : PartsOf Line). line_len (core_line c.op.number) p) (parts_are c offsets)

-- what is given to the encoder is its form
placed_is : (c : Core) → placed_form (core_line c.op.number) c.reg c.vvvv c.place c.imm ≡ core_form c
placed_is c = rw (viewed_numbers c.place) refl

pub given_is : (c : Core) (found : Line) → found ≡ core_line c.op.number → placed_form found c.reg c.vvvv c.place c.imm ≡ core_form c
given_is c found e = rw e (placed_is c)

-- The same of what is equal to its line and its form.

pub fits_given : (c : Core) (found : Line) (given : NumberedForm) → found ≡ core_line c.op.number → given ≡ core_form c → fits found (form_named found given) ≡ true
fits_given c found given e f = rw (e, f) (form_fits c)

pub word_given : (c : Core) (found : Line) (given : NumberedForm) → found ≡ core_line c.op.number → given ≡ core_form c → given.imm ≡ optional_imm_word (imm_named found.imm given.imm)
word_given c found given e f = rw (e, f) (form_word c)
