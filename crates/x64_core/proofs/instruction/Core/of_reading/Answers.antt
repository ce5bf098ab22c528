use Rattle.std.proofs.Common.{◌≡◌, ◌∙◌, ℕ, ℤ, refl, subst, sym, Bool, true, false, Option, Some, None}
use Rattle.std.specs.Prelude.{◌&&◌, if◌then◌else◌, is_none, is_some, option_map}
use Rattle.std.proofs.lemmas.Bool.{and_parts}
use Rattle.cax64_address.specs.Offset.{sum_fits}
use Rattle.cax64_address.specs.declared.amode.Amode.TheVariants.{ImmReg, ImmRegRegShift, RipRelative}
use Rattle.cax64_encoder.specs.Fault.{all_met, late_offset_fits}
use Rattle.cax64_encoder.specs.Place.{memory_in}
use Rattle.cax64_encoder.specs.declared.role.PlaceOperand.{PlaceOperand}
use Rattle.cax64_encoder.specs.declared.role.PlaceOperand.TheVariants as operand
use Rattle.cax64_machine_code.specs.Line.{same_bool}
use Rattle.cax64_machine_code.specs.declared.reading.RegView.{RegView}
use Rattle.cax64_machine_code.specs.declared.reading.RegView.TheVariants.{Low}
use Rattle.x64_core.specs.Core.{is_encodable, place_visited, register_before}
use Rattle.x64_core.specs.Fits.{place_fits}
use Rattle.x64_lines.specs.Refusal.{imm_refusal}
use Rattle.x64_core.specs.Refusal.{refusal}
use Rattle.x64_lines.specs.Shape.{has_reg, has_vvvv, shape_of}
use Rattle.x64_core.specs.View.{CoreView, place_operand}
use Rattle.x64_core.specs.declared.place.CorePlace.{CorePlace}
use Rattle.x64_lines.specs.declared.refused.OperandError.{OperandError}
use Rattle.x64_lines.specs.declared.shapes.OpFields.{OpFields}
use Rattle.x64_lines.specs.declared.shapes.OpShape.{OpShape}
use Rattle.x64_core.specs.OfReading.{is_bare, number_given}
use Rattle.x64_reader.specs.Taken.{is_taken, is_taken_by, place_taken}
use Rattle.x64_reader.specs.declared.reading.CoreReading.{CoreReading}
use Rattle.x64_core.proofs.instruction.Core.of_reading.Goals as goal

-- nothing is refused exactly where all is taken

chain : (a b c : Bool) (o : Option OperandError) (x y z : OperandError) → is_none (if◌then◌else◌ {A = Option OperandError} a (if b then (if c then o else Some z) else Some y) (Some x)) ≡ (a && (b && (c && is_none o)))
chain true true true o x y z = refl
chain true true false o x y z = refl
chain true false c o x y z = refl
chain false b c o x y z = refl

as_many : (reg : Option ℕ) (view : Option RegView) → view ≡ option_map Low reg → is_some reg ≡ is_some view
as_many None view h = rw h refl
as_many (Some reg) view h = rw h refl

taken_is : (s : OpShape) (r : CoreReading) (reg vvvv : Option ℕ) (p : CorePlace) → r.reg ≡ option_map Low reg → vvvv ≡ r.vvvv → ((fields : OpFields) → place_fits fields p ≡ place_taken fields r.place) → is_none (refusal s reg vvvv p r.imm) ≡ is_taken_by s r
taken_is s r reg vvvv p hr hv hp =
    chain (same_bool (has_reg s.fields) (is_some reg)) (same_bool (has_vvvv s.fields) (is_some vvvv)) (place_fits s.fields p) (imm_refusal s.imm r.imm) _ _ _
    ∙ rw (as_many reg r.reg hr, hv, hp s.fields) refl

pub returns-in-Ok-clause-some : goal.returns-in-Ok-clause-some
returns-in-Ok-clause-some c =
    let r = c.args.reading.now in
    let taken : is_none (refusal (shape_of r.op.number) c.in_ok-reg.reg c.in_ok-vvvv.vvvv c.in_ok-place.place r.imm) ≡ is_taken r = taken_is (shape_of r.op.number) r c.in_ok-reg.reg c.in_ok-vvvv.vvvv c.in_ok-place.place c.in_ok-reg.ensures.number c.in_ok-vvvv.ensures.number c.in_ok-place.ensures.fits in
    rw (← c.in_ok-reg.ensures.some, ← c.in_ok-vvvv.ensures.some, ← c.in_ok-place.ensures.some, ← taken, c.in-Ok.ensures.taken) refl

pub returns-in-Err-clause-some : goal.returns-in-Err-clause-some
returns-in-Err-clause-some c =
    let r = c.args.reading.now in
    let taken : is_none (refusal (shape_of r.op.number) c.in_ok-reg.reg c.in_ok-vvvv.vvvv c.in_ok-place.place r.imm) ≡ is_taken r = taken_is (shape_of r.op.number) r c.in_ok-reg.reg c.in_ok-vvvv.vvvv c.in_ok-place.place c.in_ok-reg.ensures.number c.in_ok-vvvv.ensures.number c.in_ok-place.ensures.fits in
    rw (← c.in_ok-reg.ensures.some, ← c.in_ok-vvvv.ensures.some, ← c.in_ok-place.ensures.some, ← taken, c.in-Err.ensures.refused) refl

-- what is given can be encoded

met : (reg vvvv : Option ℕ) (o : PlaceOperand ℕ) → number_given reg ≡ true → number_given vvvv ≡ true → all_met (place_visited o) ≡ true → all_met (register_before reg (register_before vvvv (place_visited o))) ≡ true
met None None o h k l = l
met None (Some vvvv) o h k l = rw (k, l) refl
met (Some reg) None o h k l = rw (h, l) refl
met (Some reg) (Some vvvv) o h k l = rw (h, k, l) refl

no_offset : (offset : Option ℕ) (simm32 : ℤ) (offsets : ℕ → Option ℤ) → is_none offset ≡ true → sum_fits offsets offset simm32 ≡ true
no_offset None simm32 offsets h = refl
no_offset (Some key) simm32 offsets h = cc

late : (o : PlaceOperand ℕ) (offsets : ℕ → Option ℤ) → is_bare o ≡ true → late_offset_fits offsets (memory_in o) ≡ true
late operand.NoPlace offsets h = refl
late (operand.Register n) offsets h = refl
late (operand.Memory (ImmReg base simm32 trap)) offsets h = no_offset simm32.offset simm32.simm32 offsets (and_parts (is_none trap) (is_none simm32.offset) h).1
late (operand.Memory (ImmRegRegShift base index scale simm32 trap)) offsets h = refl
late (operand.Memory (RipRelative target)) offsets h = refl

both : (a b : Bool) → a ≡ true → b ≡ true → (a && b) ≡ true
both a b h k = rw (h, k) refl

given_can : (v : CoreView) (op : ℕ) (reg vvvv : Option ℕ) (p : CorePlace) (imm : Option ℤ) (offsets : ℕ → Option ℤ) → v ≡ record { op = op; reg = reg; vvvv = vvvv; place = place_operand p; imm = imm } → number_given reg ≡ true → number_given vvvv ≡ true → all_met (place_visited (place_operand p)) ≡ true → is_bare (place_operand p) ≡ true → is_encodable offsets v ≡ true
given_can v op reg vvvv p imm offsets e h k l bare =
    subst (λ (w : CoreView). is_encodable offsets w ≡ true) (sym e) (both _ _ (met reg vvvv (place_operand p) h k l) (late (place_operand p) offsets bare))

pub returns-in-Ok-clause-encodable : goal.returns-in-Ok-clause-encodable
returns-in-Ok-clause-encodable c = λ offsets.
    given_can _ _ _ _ c.in_ok-place.place _ offsets c.in-Ok.ensures.view c.in_ok-reg.ensures.real c.in_ok-vvvv.ensures.real c.in_ok-place.ensures.real c.in_ok-place.ensures.bare
