use Rattle.std.proofs.Common.{◌≡◌, ◌∙◌, ℕ, refl, ap, subst, true, Option, Some, None, ℤ}
use Rattle.std.proofs.Math.Bool.{Bool-set}
use mathlib.Core.HLevel.{is_prop→PathP}
use Rattle.std.specs.Prelude.{is_some, nat_lt}
use Rattle.std.specs.Int.{from_bool}
use Rattle.cax64_machine_code.specs.declared.reading.Place.{Place}
use Rattle.cax64_machine_code.specs.declared.reading.Place.TheVariants.{Reg, Mem, Rip}
use Rattle.cax64_machine_code.specs.declared.reading.RegView.{RegView}
use Rattle.cax64_machine_code.specs.declared.reading.RegView.TheVariants.{Low, High}
use Rattle.x64_plain.specs.NamedReading.{imm_named, index_named, number_named, part_in, part_named, view_named}
use Rattle.x64_plain.specs.Plain.{or_0}
use Rattle.x64_plain.specs.Reading.{factor_of, imm_of, index_of, part_of, plain_reading, reg_kind, reg_number}
use Rattle.x64_plain.specs.declared.reading.HqReading.{HqReading}
use Rattle.x64_plain.specs.declared.reading.PlacePart.{PlacePart}
use Rattle.x64_lines.specs.declared.lines.TheConstants.{COUNT}
use Rattle.x64_lines.specs.declared.op.Op.{Op}
use Rattle.x64_reader.specs.Reading.{line_reading}
use Rattle.x64_reader.specs.declared.reading.CoreReading.{CoreReading}

-- Readings are told by their integers.

same_op : (a b : Op) → a.number ≡ b.number → a ≡ b
same_op a b e = λ i. record { number = e i; below = is_prop→PathP (λ j. nat_lt (e j) COUNT ≡ true) (λ j. Bool-set (nat_lt (e j) COUNT) true) a.below b.below i }

view_back : (view : Option RegView) → view_named (reg_kind view) (reg_number view) ≡ view
view_back None = refl
view_back (Some (Low number)) = refl
view_back (Some (High number)) = refl

number_back : (o : Option ℕ) → number_named (from_bool (is_some o)) (or_0 o) ≡ o
number_back None = refl
number_back (Some number) = refl

imm_back : (o : Option ℤ) → imm_named (from_bool (is_some o)) (imm_of o) ≡ o
imm_back None = refl
imm_back (Some number) = refl

index_back : (o : Option (ℕ × ℕ)) → index_named (from_bool (is_some o)) (index_of o) (factor_of o) ≡ o
index_back None = refl
index_back (Some index) = refl

part_back : (place : Option Place) → part_named (part_of place) ≡ place
part_back None = refl
part_back (Some (Reg (Low number))) = refl
part_back (Some (Reg (High number))) = refl
part_back (Some (Mem base index disp)) = rw (number_back base, index_back index) refl
part_back (Some (Rip disp)) = refl

abbrev made : Op → HqReading → CoreReading
made op p = record { op = op; length = p.length; tail = p.tail; reg = view_named p.reg_kind p.reg; vvvv = number_named p.has_vvvv p.vvvv; place = part_named (part_in p); imm = imm_named p.has_imm p.imm }

read_back : (op : Op) (r : CoreReading) → op.number ≡ r.op.number → made op (plain_reading r.op.number (line_reading r)) ≡ r
read_back op r e = rw (same_op op r.op e, view_back r.reg, number_back r.vvvv, part_back r.place, imm_back r.imm) refl

pub read_is : (op : Op) (p : HqReading) → op.number ≡ p.line → (r : CoreReading) → plain_reading r.op.number (line_reading r) ≡ p → made op p ≡ r
read_is op p e r h = subst (λ (x : HqReading). op.number ≡ x.line → made op x ≡ r) h (read_back op r) e

pub read_all : (op : Op) (p : HqReading) (part : PlacePart) (reg : Option RegView) (vvvv : Option ℕ) (place : Option Place) (value : Option ℤ)
    → reg ≡ view_named p.reg_kind p.reg → vvvv ≡ number_named p.has_vvvv p.vvvv → place ≡ part_named part → part ≡ part_in p → value ≡ imm_named p.has_imm p.imm
    → op.number ≡ p.line → (r : CoreReading) → plain_reading r.op.number (line_reading r) ≡ p
    → ◌≡◌ {A = CoreReading} (record { op = op; length = p.length; tail = p.tail; reg = reg; vvvv = vvvv; place = place; imm = value }) r
read_all op p part reg vvvv place value er ev ep ee ei e r h = with_parts ∙ read_is op p e r h
  where
    with_parts : ◌≡◌ {A = CoreReading} (record { op = op; length = p.length; tail = p.tail; reg = reg; vvvv = vvvv; place = place; imm = value }) (made op p)
    with_parts = λ i. record { op = op; length = p.length; tail = p.tail; reg = er i; vvvv = ev i; place = (ep ∙ ap part_named ee) i; imm = ei i }
