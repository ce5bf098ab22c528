use Rattle.std.proofs.Common.{◌≡◌, ℕ, ◌^◌, ◌<◌, refl, sym, ap, ◌∙◌, arith, Bool, true, false, Option, Some, None, ℤ, w8, w32}
use Rattle.std.specs.Int.{cast_signed, cast_unsigned}
use Rattle.std.specs.Option.{unwrap_or}
use Rattle.std.specs.Prelude.{◌&&◌, ◌||◌, ◌==◌, nat_lt, option_map}
use Rattle.std.proofs.lemmas.Bool.{and_parts}
use Rattle.std.proofs.lemmas.Bool.Decides.{nat_tests}
use Rattle.std.proofs.lemmas.Int.{ints}
use Rattle.cax64_encoder.specs.Form as form
use Rattle.cax64_encoder.specs.Form.{fits, is_absent, is_no_place, reg_fits, tail_fits, vvvv_fits}
use Rattle.cax64_encoder.specs.ImmActions.{imm_named, optional_imm_word}
use Rattle.cax64_encoder.specs.Numbered.{HasImmWord, form_named, place_named}
use Rattle.cax64_encoder.specs.declared.number.Number.{Number}
use Rattle.cax64_encoder.specs.declared.number.Number.TheVariants.{Settled}
use Rattle.cax64_encoder.specs.declared.numbered.NumberedForm.{NumberedForm}
use Rattle.cax64_encoder.specs.declared.role.PlaceOperand.{PlaceOperand}
use Rattle.cax64_machine_code.specs.Line.{imm_bytes}
use Rattle.cax64_machine_code.specs.declared.line.Line.{Line}
use Rattle.cax64_machine_code.specs.declared.line.PlaceField.{PlaceField}
use Rattle.cax64_machine_code.specs.declared.line.PlaceField.TheVariants.{Memory, RegisterOrMemory, Register8OrMemory}
use Rattle.cax64_machine_code.specs.declared.line.PrefixField.{PrefixField}
use Rattle.cax64_machine_code.specs.declared.line.PrefixField.TheVariants.{LegacyField, VexField}
use Rattle.cax64_machine_code.specs.declared.line.RegField.{RegField}
use Rattle.cax64_machine_code.specs.declared.line.RegField.TheVariants as reg_field
use Rattle.cax64_machine_code.specs.declared.line.TailField.{TailField}
use Rattle.cax64_machine_code.specs.declared.line.TailField.TheVariants.{NoTail, Modrm}
use Rattle.cax64_machine_code.specs.declared.line.VvvvField.TheVariants.{VvvvRegister, Stored1111}
use Rattle.cax64_operand.specs.Immediate.{signed_below}
use Rattle.cax64_operand.specs.Shape.{imm_fits}
use Rattle.cax64_table.specs.Numbers as line
use Rattle.x64_core.specs.Fits.{core_fits, place_fits}
use Rattle.x64_lines.specs.Line.{core_line}
use Rattle.x64_lines.specs.Shape.{shape_of, has_mem, imm_field, field_takes, tail_takes}
use Rattle.x64_core.specs.View.{place_operand, when}
use Rattle.x64_lines.specs.declared.op.Op.{Op}
use Rattle.x64_core.specs.declared.place.CorePlace.{CorePlace}
use Rattle.x64_core.specs.declared.place.CorePlace.TheVariants.{Absent, Register, Base, BaseAndIndex, Relative}
use Rattle.x64_lines.specs.declared.shapes.OpFields.{OpFields}
use Rattle.x64_lines.specs.declared.shapes.OpImm.{OpImm}
use Rattle.x64_lines.specs.declared.shapes.OpImm.TheVariants as imm
use Rattle.x64_lines.specs.declared.shapes.OpShape.{OpShape}
use Rattle.x64_lines.proofs.Facts.{Facts, facts}
use Rattle.x64_of_port.proofs.Named.{signed_fits}

-- Numbers with the shape of a line are those that the line takes.

-- The place.

record Tail (field : PlaceField) (fields : OpFields) : Type 0 where
  mem : has_mem fields ≡ true
  takes : field_takes field fields ≡ true

tail_of : (reg : RegField) (field : PlaceField) (fields : OpFields) → tail_takes (Modrm reg field) fields ≡ true → Tail field fields
tail_of (reg_field.Digit d) field fields h =
    let a = and_parts (has_mem fields) _ h in
    record { mem = a.0; takes = (and_parts _ (field_takes field fields) a.1).1 }
tail_of reg_field.Register8 field fields h =
    let a = and_parts (has_mem fields) _ h in
    record { mem = a.0; takes = (and_parts _ (field_takes field fields) a.1).1 }
tail_of reg_field.Register field fields h =
    let a = and_parts (has_mem fields) _ h in
    record { mem = a.0; takes = (and_parts _ (field_takes field fields) a.1).1 }

field_there : (field : PlaceField) (fields : OpFields) (p : CorePlace) → Tail field fields → form.place_fits field (place_operand p) ≡ true → place_fits fields p ≡ true
field_there Memory fields Absent t h = cc
field_there RegisterOrMemory fields Absent t h = cc
field_there Register8OrMemory fields Absent t h = cc
field_there Memory fields (Register number) t h = cc
field_there RegisterOrMemory fields (Register number) t h = t.takes
field_there Register8OrMemory fields (Register number) t h = t.takes
field_there field fields (Base base trap offset displacement) t h = t.mem
field_there field fields (BaseAndIndex base index scale trap displacement) t h = t.mem
field_there field fields (Relative target) t h = t.mem

nothing_there : (fields : OpFields) (p : CorePlace) → tail_takes NoTail fields ≡ true → is_no_place (place_operand p) ≡ true → place_fits fields p ≡ true
nothing_there fields Absent h k = h
nothing_there fields (Register number) h k = cc
nothing_there fields (Base base trap offset displacement) h k = cc
nothing_there fields (BaseAndIndex base index scale trap displacement) h k = cc
nothing_there fields (Relative target) h k = cc

place_there : (tail : TailField) (fields : OpFields) (reg : Option Number) (p : CorePlace) → tail_takes tail fields ≡ true → tail_fits tail reg (place_operand p) ≡ true → place_fits fields p ≡ true
place_there NoTail fields reg p h k = nothing_there fields p h (and_parts (is_absent reg) (is_no_place (place_operand p)) k).1
place_there (Modrm field place_field) fields reg p h k = field_there place_field fields p (tail_of field place_field fields h) (and_parts (reg_fits field reg) (form.place_fits place_field (place_operand p)) k).1

-- The registers in reg and vvvv: each stands where the line has one, and is 0 elsewhere.

pub record Held (stands : Bool) (reg : Option ℕ) : Type 0 where
  pub when : when stands (unwrap_or reg 0) ≡ reg
  pub zero : (stands || (unwrap_or reg 0 == 0)) ≡ true

none_held : (reg : Option ℕ) → is_absent (option_map Settled reg) ≡ true → Held false reg
none_held None h = record { when = refl; zero = refl }
none_held (Some number) h = cc

digit_held : (d : ℕ) (reg : Option ℕ) → reg_fits (reg_field.Digit d) (option_map Settled reg) ≡ true → Held false reg
digit_held d None h = record { when = refl; zero = refl }
digit_held d (Some number) h = cc

register_held : (reg : Option ℕ) → reg_fits reg_field.Register (option_map Settled reg) ≡ true → Held true reg
register_held None h = cc
register_held (Some number) h = record { when = refl; zero = refl }

register8_held : (reg : Option ℕ) → reg_fits reg_field.Register8 (option_map Settled reg) ≡ true → Held true reg
register8_held None h = cc
register8_held (Some number) h = record { when = refl; zero = refl }

pub reg_held : (tail : TailField) (reg : Option ℕ) (p : PlaceOperand ℕ) → tail_fits tail (option_map Settled reg) p ≡ true → Held (line.has_register tail) reg
reg_held NoTail reg p h = none_held reg (and_parts (is_absent (option_map Settled reg)) _ h).0
reg_held (Modrm (reg_field.Digit d) field) reg p h = digit_held d reg (and_parts (reg_fits (reg_field.Digit d) (option_map Settled reg)) _ h).0
reg_held (Modrm reg_field.Register8 field) reg p h = register8_held reg (and_parts (reg_fits reg_field.Register8 (option_map Settled reg)) _ h).0
reg_held (Modrm reg_field.Register field) reg p h = register_held reg (and_parts (reg_fits reg_field.Register (option_map Settled reg)) _ h).0

some_held : (reg : Option ℕ) → vvvv_fits (VexField 0 0 0 VvvvRegister) (option_map Settled reg) ≡ true → Held true reg
some_held None h = cc
some_held (Some number) h = record { when = refl; zero = refl }

pub vvvv_held : (prefix : PrefixField) (vvvv : Option ℕ) → vvvv_fits prefix (option_map Settled vvvv) ≡ true → Held (line.has_vvvv prefix) vvvv
vvvv_held (LegacyField set rex) vvvv h = none_held vvvv h
vvvv_held (VexField pp map l VvvvRegister) vvvv h = some_held vvvv h
vvvv_held (VexField pp map l Stored1111) vvvv h = none_held vvvv h

-- The immediate's word.

small_8 : (v : ℤ) → signed_below (2 ^ 7) v ≡ true → nat_lt (cast_unsigned w8 v) 256 ≡ true
small_8 v h =
    let p = signed_fits (2 ^ 7) v h in
    let below : cast_unsigned w8 v < 256 = omega (arith, ints, p) in
    grind (arith, nat_tests, below)

small_32 : (v : ℤ) → signed_below (2 ^ 31) v ≡ true → nat_lt (cast_unsigned w32 v) (256 ^ 4) ≡ true
small_32 v h =
    let p = signed_fits (2 ^ 31) v h in
    let below : cast_unsigned w32 v < 4294967296 = omega (arith, ints, p) in
    grind (arith, nat_tests, below)

word_below : (kind : OpImm) (word : ℕ) → imm_fits (imm_field kind) (imm_named (imm_field kind) word) ≡ true → word ≡ optional_imm_word (imm_named (imm_field kind) word) → nat_lt word (256 ^ imm_bytes (imm_field kind)) ≡ true
word_below imm.None word h e = rw e refl
word_below imm.U8 word h e = h
word_below imm.U16 word h e = h
word_below imm.U32 word h e = h
word_below imm.I8 word h e = ap (λ (n : ℕ). nat_lt n 256) e ∙ small_8 (cast_signed w8 word) h
word_below imm.I32 word h e = ap (λ (n : ℕ). nat_lt n (256 ^ 4)) e ∙ small_32 (cast_signed w32 word) h

four : (a b c d : Bool) → a ≡ true → b ≡ true → c ≡ true → d ≡ true → (a && (b && (c && d))) ≡ true
four a b c d e f g h = rw (e, f, g, h) refl

-- Of a form that stands for numbers.
module _ (found : Line) (numbers : NumberedForm) (h : fits found (form_named found numbers) ≡ true) where
  tail_h : tail_fits found.tail (option_map Settled numbers.reg) (place_named numbers.place) ≡ true
  tail_h = (and_parts (tail_fits found.tail (option_map Settled numbers.reg) (place_named numbers.place)) _ h).0

  rest_h : (vvvv_fits found.prefix (option_map Settled numbers.vvvv) && imm_fits found.imm (imm_named found.imm numbers.imm)) ≡ true
  rest_h = (and_parts (tail_fits found.tail (option_map Settled numbers.reg) (place_named numbers.place)) _ h).1

  pub reg_is : Held (line.has_register found.tail) numbers.reg
  reg_is = reg_held found.tail numbers.reg (place_named numbers.place) tail_h

  pub vvvv_is : Held (line.has_vvvv found.prefix) numbers.vvvv
  vvvv_is = vvvv_held found.prefix numbers.vvvv (and_parts (vvvv_fits found.prefix (option_map Settled numbers.vvvv)) _ rest_h).0

  imm_h : imm_fits found.imm (imm_named found.imm numbers.imm) ≡ true
  imm_h = (and_parts (vvvv_fits found.prefix (option_map Settled numbers.vvvv)) (imm_fits found.imm (imm_named found.imm numbers.imm)) rest_h).1

  fits_by : (shape : OpShape) (p : CorePlace) → Facts found shape → HasImmWord found numbers → place_operand p ≡ place_named numbers.place → core_fits shape (unwrap_or numbers.reg 0) (unwrap_or numbers.vvvv 0) p numbers.imm ≡ true
  fits_by shape p f word e =
      let k : tail_fits found.tail (option_map Settled numbers.reg) (place_operand p) ≡ true = rw (← e) at tail_h in
      let i : imm_fits (imm_field shape.imm) (imm_named (imm_field shape.imm) numbers.imm) ≡ true = rw f.imm at imm_h in
      let w : numbers.imm ≡ optional_imm_word (imm_named (imm_field shape.imm) numbers.imm) = rw f.imm at word in
      four _ _ _ _
      (place_there found.tail shape.fields (option_map Settled numbers.reg) p f.tail k)
      (word_below shape.imm numbers.imm i w)
      (ap (λ (b : Bool). b || (unwrap_or numbers.reg 0 == 0)) (sym f.reg) ∙ reg_is.zero)
      (ap (λ (b : Bool). b || (unwrap_or numbers.vvvv 0 == 0)) (sym f.vvvv) ∙ vvvv_is.zero)

  -- a line of the core takes them
  pub core_takes : (op : Op) (p : CorePlace) → core_line op.number ≡ found → HasImmWord found numbers → place_operand p ≡ place_named numbers.place → core_fits (shape_of op.number) (unwrap_or numbers.reg 0) (unwrap_or numbers.vvvv 0) p numbers.imm ≡ true
  core_takes op p is word e =
      let f : Facts found (shape_of op.number) = rw is at (facts op) in
      fits_by (shape_of op.number) p f word e
