use Rattle.std.proofs.Common.{◌≡◌, ℕ, refl, sym, ap, ◌∙◌, arith, Bool, true, false, Option, ℤ}
use Rattle.std.specs.Prelude.{◌&&◌, ◌||◌, ◌==◌, not, nat_lt}
use Rattle.std.proofs.lemmas.Bool.{and_parts}
use Rattle.std.proofs.lemmas.Bool.Decides.{nat_tests}
use Rattle.cax64_encoder.specs.Fault.{all_met, late_offset_fits}
use Rattle.cax64_encoder.specs.Numbered as numbered
use Rattle.cax64_encoder.specs.Numbered.{plain, numbered_place, place_named}
use Rattle.cax64_encoder.specs.Place.{memory_in}
use Rattle.cax64_encoder.specs.Real.{place_is_real}
use Rattle.cax64_encoder.specs.declared.role.PlaceOperand.{PlaceOperand}
use Rattle.cax64_machine_code.specs.declared.line.Line.{Line}
use Rattle.x64_place.specs.Operand as flat
use Rattle.x64_core.specs.Core.{is_encodable, register_before, place_visited, visited_of}
use Rattle.x64_core.specs.Fits.{place_fits}
use Rattle.x64_core.specs.Form.{core_form}
use Rattle.x64_lines.specs.Line.{core_line}
use Rattle.x64_lines.specs.Shape.{shape_of, has_reg, has_vvvv}
use Rattle.x64_core.specs.View.{core_view, place_operand, when}
use Rattle.x64_core.specs.Viewed.{viewed}
use Rattle.x64_core.specs.declared.instruction.Core.{Core}
use Rattle.x64_core.specs.declared.place.CorePlace.{CorePlace}
use Rattle.x64_core.specs.declared.place.CorePlace.TheVariants.{Absent, Register, Base, BaseAndIndex, Relative}
use Rattle.cax64_table.specs.Numbers as line
use Rattle.x64_core.proofs.Forms.{place_back}
use Rattle.x64_lines.proofs.Facts.{facts}
use Rattle.x64_core.proofs.Viewed.{viewed_operand}

-- The registers of an instruction are as they have to be where its numbers are below 16, and an index isn't number 4.

and_true : (b : Bool) → (b && true) ≡ b
and_true true = refl
and_true false = refl

place_met : (p : CorePlace) → place_is_real plain.settled plain.enc (place_operand p) ≡ all_met (place_visited (place_operand p))
place_met Absent = refl
place_met (Register number) = sym (and_true (nat_lt number 16))
place_met (Base base trap offset displacement) = sym (and_true (nat_lt base 16))
place_met (BaseAndIndex base index scale trap displacement) = ap (λ (b : Bool). nat_lt base 16 && b) (sym (and_true (nat_lt index 16 && not (index == 4))))
place_met (Relative target) = refl

is_zero : (n : ℕ) → (n == 0) ≡ true → nat_lt n 16 ≡ true
is_zero n h = grind (arith, nat_tests, h)

met_when : (b d : Bool) (reg vvvv : ℕ) (p : CorePlace) → (b || (reg == 0)) ≡ true → (d || (vvvv == 0)) ≡ true → (nat_lt reg 16 && (nat_lt vvvv 16 && place_is_real plain.settled plain.enc (place_operand p))) ≡ all_met (register_before (when b reg) (register_before (when d vvvv) (place_visited (place_operand p))))
met_when true true reg vvvv p h k = rw (place_met p) refl
met_when true false reg vvvv p h k = rw (is_zero vvvv k, place_met p) refl
met_when false true reg vvvv p h k = rw (is_zero reg h, place_met p) refl
met_when false false reg vvvv p h k = rw (is_zero reg h, is_zero vvvv k, place_met p) refl

record Absences (c : Core) : Type 0 where
  reg : (has_reg (shape_of c.op.number).fields || (c.reg == 0)) ≡ true
  vvvv : (has_vvvv (shape_of c.op.number).fields || (c.vvvv == 0)) ≡ true

absences : (c : Core) → Absences c
absences c =
    let a = and_parts (place_fits (shape_of c.op.number).fields (viewed c.place)) _ c.shape in
    let b = and_parts (nat_lt c.imm _) _ a.1 in
    let d = and_parts (has_reg (shape_of c.op.number).fields || (c.reg == 0)) _ b.1 in
    record { reg = d.0; vvvv = d.1 }

-- where the line has no such register, the number is 0
none_there : (b : Bool) (n : ℕ) → (b || (n == 0)) ≡ true → b ≡ false → n ≡ 0
none_there true n h e = cc
none_there false n h e = grind (arith, nat_tests, h)

pub no_register : (c : Core) (found : Line) → found ≡ core_line c.op.number → line.has_register found.tail ≡ false → c.reg ≡ 0
no_register c found e h = none_there (has_reg (shape_of c.op.number).fields) c.reg (absences c).reg (sym (facts c.op).reg ∙ (rw e at h))

pub no_vvvv : (c : Core) (found : Line) → found ≡ core_line c.op.number → line.has_vvvv found.prefix ≡ false → c.vvvv ≡ 0
no_vvvv c found e h = none_there (has_vvvv (shape_of c.op.number).fields) c.vvvv (absences c).vvvv (sym (facts c.op).vvvv ∙ (rw e at h))

met_of : (c : Core) → (nat_lt c.reg 16 && (nat_lt c.vvvv 16 && place_is_real plain.settled plain.enc (place_operand (viewed c.place)))) ≡ all_met (visited_of (core_view c))
met_of c =
    let f = facts c.op in
    let a = absences c in
    met_when (line.has_register (core_line c.op.number).tail) (line.has_vvvv (core_line c.op.number).prefix) c.reg c.vvvv (viewed c.place) (rw f.reg a.reg) (rw f.vvvv a.vvvv)

pub met_is : (c : Core) → (nat_lt c.reg 16 && (nat_lt c.vvvv 16 && place_is_real plain.settled plain.enc (flat.place_operand c.place))) ≡ all_met (visited_of (core_view c))
met_is c = ap (λ (o : PlaceOperand ℕ). nat_lt c.reg 16 && (nat_lt c.vvvv 16 && place_is_real plain.settled plain.enc o)) (sym (viewed_operand c.place)) ∙ met_of c

-- the late offset fits
pub late_is : (c : Core) (offsets : ℕ → Option ℤ) → is_encodable offsets (core_view c) ≡ true → late_offset_fits offsets (memory_in (flat.place_operand c.place)) ≡ true
late_is c offsets h = rw (viewed_operand c.place) at (and_parts (all_met (visited_of (core_view c))) (late_offset_fits offsets (memory_in (place_operand (viewed c.place)))) h).1

real_when : (b d : Bool) (reg vvvv : ℕ) (p : CorePlace) → all_met (register_before (when b reg) (register_before (when d vvvv) (place_visited (place_operand p)))) ≡ true → numbered.form_is_real (record { reg = when b reg; vvvv = when d vvvv; place = numbered_place plain (place_operand p); imm = 0 }) ≡ true
real_when true true reg vvvv p h = rw (place_back p, place_met p) h
real_when true false reg vvvv p h = rw (place_back p, place_met p) h
real_when false true reg vvvv p h = rw (place_back p, place_met p) h
real_when false false reg vvvv p h = rw (place_back p, place_met p) h

pub form_real : (c : Core) (offsets : ℕ → Option ℤ) → is_encodable offsets (core_view c) ≡ true → numbered.form_is_real (core_form c) ≡ true
form_real c offsets h =
    real_when (line.has_register (core_line c.op.number).tail) (line.has_vvvv (core_line c.op.number).prefix) c.reg c.vvvv (viewed c.place) (and_parts (all_met (visited_of (core_view c))) _ h).0
