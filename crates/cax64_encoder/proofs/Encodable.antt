use Rattle.std.proofs.Common.{◌≡◌, ℕ, Bool, true, refl, ◌∙◌, ap, sym, Option, Some, None, List, [], ◌∷◌, length, ℤ}
use Rattle.std.specs.Prelude.{◌↔◌, IsTrue, is_none}
use Rattle.std.proofs.lemmas.Bool.{and_parts}
use Rattle.cax64_machine_code.specs.Len.{len_of}
use Rattle.cax64_machine_code.specs.Rows.{line_of}
use Rattle.cax64_machine_code.specs.declared.row.Row.{Row}
use Rattle.cax64_operand.specs.Family.{Family}
use Rattle.cax64_operand.specs.Fold.{fold}
use Rattle.cax64_operand.specs.OperandList.{list_of, nop_of}
use Rattle.cax64_operand.specs.Shape.{takes}
use Rattle.cax64_operand.specs.Signature.{HasSignature}
use Rattle.cax64_operand.specs.declared.nop.Nop.{Nop}
use Rattle.cax64_operand.specs.declared.operand.Operand.{Operand}
use Rattle.cax64_operand.specs.declared.operand.Operands.{Operands}
use Rattle.cax64_operand.specs.declared.operand.Operands.TheVariants as operands
use Rattle.cax64_operand.proofs.Shapes.{has_shape}
use Rattle.cax64_sink.specs.Run.{all_bytes}
use Rattle.cax64_sink.specs.Call.{Action}
use Rattle.cax64_encoder.specs.Content.{content_of, no_content, nop_content, with_content}
use Rattle.cax64_encoder.specs.declared.content.Content.{Content}
use Rattle.cax64_encoder.specs.Encodes.{EncodesParts, EncodesAs, form_parts}
use Rattle.cax64_encoder.specs.Fault.{all_met, late_offset_fits, late_fault, first_unmet, first_fault, is_encodable, fault_of_meant}
use Rattle.cax64_encoder.specs.Form.{Form, form_of, fits}
use Rattle.cax64_encoder.specs.Numbered as numbered
use Rattle.cax64_encoder.specs.Numbered.{numbered_form, numbered_place}
use Rattle.cax64_encoder.proofs.Numbers.{with_numbers, with_all_numbers, count_same}
use Rattle.cax64_encoder.specs.declared.numbered.NumberedForm.{NumberedForm}
use Rattle.cax64_encoder.specs.declared.role.PlaceOperand.{PlaceOperand}
use Rattle.cax64_encoder.specs.Meant.{meant_of, nop_or, operands_meant, place_in}
use Rattle.cax64_encoder.specs.Notices.{memory_notices, notice_count}
use Rattle.cax64_encoder.specs.Place.{memory_in, displacement_in}
use Rattle.cax64_encoder.specs.Real.{is_absent_or_real, place_is_real, form_is_real, place_is_addressable}
use Rattle.cax64_encoder.specs.Role.{roles_of}
use Rattle.cax64_encoder.specs.Visits.{visits_of}
use Rattle.cax64_encoder.specs.declared.fault.Fault.{Fault}
use Rattle.cax64_encoder.proofs.Faults.{no_fault, none_is, fault_same}
use Rattle.cax64_encoder.proofs.Forms.{direct, with_all, form_fits}
use Rattle.cax64_encoder.proofs.Seen.{roles_are_sound, direct_is_real}

-- What operands that can be encoded give to the encoder.

abbrev content_with : NumberedForm → Content
content_with form = record { nop = None; form = form }

-- what is kept of operands is what they come to
pub content_is : {R A B C D E F : Type 0} (f : Family A B C D E F) (o : Operands R A B C D E F) → fold no_content (with_content f) nop_content o ≡ content_of f o
content_is {R = R} {A = A} {B = B} {C = C} {D = D} {E = E} {F = F} f o = by_number o
  where
    kept : (operands : List (Operand R A B C D E F)) → ◌≡◌ {A = Content} (record { nop = None; form = with_numbers f.read_gpr (roles_of f operands) }) (record { nop = None; form = numbered_form f.read_gpr (form_of f operands) })
    kept operands = ap (λ (form : NumberedForm). content_with form) (with_all_numbers f.read_gpr (roles_of f operands))

    by_number : (o : Operands R A B C D E F) → fold no_content (with_content f) nop_content o ≡ content_of f o
    by_number operands.Zero = refl
    by_number (operands.One a) = kept (a ∷ [])
    by_number (operands.Two a b) = kept (a ∷ b ∷ [])
    by_number (operands.Three a b c) = kept (a ∷ b ∷ c ∷ [])
    by_number (operands.Four a b c d) = kept (a ∷ b ∷ c ∷ d ∷ [])
    by_number (operands.Five a b c d e) = kept (a ∷ b ∷ c ∷ d ∷ e ∷ [])
    by_number (operands.Nop nop) = refl

pub nop_is : {R A B C D E F : Type 0} (o : Operands R A B C D E F) (nop : Nop) → nop_of o ≡ Some nop → o ≡ operands.Nop nop
nop_is operands.Zero nop e = cc
nop_is (operands.One a) nop e = cc
nop_is (operands.Two a b) nop e = cc
nop_is (operands.Three a b c) nop e = cc
nop_is (operands.Four a b c d) nop e = cc
nop_is (operands.Five a b c d last) nop e = cc
nop_is (operands.Nop own) nop e = cc

module _ {R A B C D E F : Type 0} (f : Family A B C D E F) (row : Row) (o : Operands R A B C D E F) (none : nop_of o ≡ None) where
  meant_is : (offsets : ℕ → Option ℤ) → meant_of f row o offsets ≡ operands_meant f.read_gpr row (roles_of f (list_of o)) offsets
  meant_is offsets = ap (λ (nop : Option Nop). nop_or row nop (operands_meant f.read_gpr row (roles_of f (list_of o)) offsets)) none

  pub fits_row : HasSignature row o → fits (line_of row) (form_of f (list_of o)) ≡ true
  fits_row h =
      let has = has_shape row o h in
      let shape : takes (line_of row) (list_of o) ≡ true = rw none at has in
      form_fits f (line_of row) (list_of o) shape

  module _ (same : (a b : C) → f.same_write_gpr a b ≡ true → a ≡ b) (offsets : ℕ → Option ℤ) (h : is_encodable offsets (meant_of f row o offsets) ≡ true) where
    parts : (all_met (visits_of f.read_gpr (roles_of f (list_of o))) ≡ true) × (late_offset_fits offsets (memory_in (place_in (roles_of f (list_of o)))) ≡ true)
    parts =
        let k : is_encodable offsets (operands_meant f.read_gpr row (roles_of f (list_of o)) offsets) ≡ true = rw (meant_is offsets) at h in
        and_parts (all_met (visits_of f.read_gpr (roles_of f (list_of o)))) _ k

    pub is_real : form_is_real f.read_gpr.settled f.read_gpr.enc (form_of f (list_of o)) ≡ true
    is_real = rw (with_all (roles_of f (list_of o))) (direct_is_real f.read_gpr (roles_of f (list_of o)) (roles_are_sound f same (list_of o)) parts.0)

    pub is_addressable : place_is_addressable f.read_gpr.settled f.read_gpr.enc offsets (form_of f (list_of o)).place ≡ true
    is_addressable =
        let real = direct_is_real f.read_gpr (roles_of f (list_of o)) (roles_are_sound f same (list_of o)) parts.0 in
        let d = direct (roles_of f (list_of o)) in
        let p = (and_parts (is_absent_or_real d.vvvv) (place_is_real f.read_gpr.settled f.read_gpr.enc d.place) (and_parts (is_absent_or_real d.reg) _ real).1).1 in
        rw (with_all (roles_of f (list_of o)), p, parts.1) refl

  -- what encodes the form encodes the operands
  pub encodes_form : (offsets : ℕ → Option ℤ) (acts : List Action) → EncodesParts (form_parts f.read_gpr.enc row (displacement_in offsets (form_of f (list_of o)).place) (form_of f (list_of o))) (memory_in (form_of f (list_of o)).place) acts → length (all_bytes acts) ≡ len_of (form_parts f.read_gpr.enc row (displacement_in offsets (form_of f (list_of o)).place) (form_of f (list_of o))) → EncodesAs (meant_of f row o offsets) acts
  encodes_form offsets acts written size =
      let roles = roles_of f (list_of o) in
      let m = operands_meant f.read_gpr row roles offsets in
      let w : EncodesParts m.parts m.memory acts = rw (with_all roles) at written in
      let l : length (all_bytes acts) ≡ len_of m.parts = rw (with_all roles) at size in
      rw (meant_is offsets) (record { written = w; length = l; exact = tt })

-- Faults and notices by the form.

pub then_late : {R A B C D E F : Type 0} (f : Family A B C D E F) (offsets : ℕ → Option ℤ) (os : List (Operand R A B C D E F)) (place : PlaceOperand A) (late : Option Fault) → place ≡ place_in (roles_of f os) → None ≡ first_unmet 0 (visits_of f.read_gpr (roles_of f os)) → late ≡ late_fault offsets (memory_in place) → late ≡ first_fault offsets (visits_of f.read_gpr (roles_of f os)) (memory_in (place_in (roles_of f os)))
then_late f offsets os place late e met h =
    let k : late ≡ late_fault offsets (memory_in (place_in (roles_of f os))) = rw e at h in
    rw (← met) k

pub notices_by_content : {R A B C D E F : Type 0} (f : Family A B C D E F) (row : Row) (o : Operands R A B C D E F) (content : Content) (count : ℕ) (offsets : ℕ → Option ℤ) → content ≡ content_of f o → count ≡ numbered.notice_count content.form.place → count ≡ notice_count (meant_of f row o offsets)
notices_by_content {R = R} {A = A} {B = B} {C = C} {D = D} {E = E} {F = F} f row o content count offsets e h =
    (rw e at h) ∙ by_number o
  where
    counted : (operands : List (Operand R A B C D E F)) → numbered.notice_count (numbered_place f.read_gpr (form_of f operands).place) ≡ memory_notices (memory_in (place_in (roles_of f operands)))
    counted operands = count_same f.read_gpr (form_of f operands).place ∙ ap (λ (form : Form A). memory_notices (memory_in form.place)) (with_all (roles_of f operands))

    by_number : (o : Operands R A B C D E F) → numbered.notice_count (numbered_place f.read_gpr (form_of f (list_of o)).place) ≡ notice_count (meant_of f row o offsets)
    by_number operands.Zero = counted []
    by_number (operands.One a) = counted (a ∷ [])
    by_number (operands.Two a b) = counted (a ∷ b ∷ [])
    by_number (operands.Three a b c) = counted (a ∷ b ∷ c ∷ [])
    by_number (operands.Four a b c d) = counted (a ∷ b ∷ c ∷ d ∷ [])
    by_number (operands.Five a b c d e) = counted (a ∷ b ∷ c ∷ d ∷ e ∷ [])
    by_number (operands.Nop nop) = refl

pub none_where_encodable : {R A B C D E F : Type 0} (f : Family A B C D E F) (row : Row) (o : Operands R A B C D E F) (offsets : ℕ → Option ℤ) (r : Option Fault) → r ≡ first_fault offsets (visits_of f.read_gpr (roles_of f (list_of o))) (memory_in (place_in (roles_of f (list_of o)))) → (r ≡ None) ↔ IsTrue (is_encodable offsets (meant_of f row o offsets))
none_where_encodable f row o offsets r h =
    let m = meant_of f row o offsets in
    rw (h ∙ fault_same f row o offsets) (none_is (fault_of_meant offsets m) _ (no_fault offsets m.visited m.memory))

pub no_fault_where : {R A B C D E F : Type 0} (f : Family A B C D E F) (row : Row) (o : Operands R A B C D E F) (offsets : ℕ → Option ℤ) (can : Bool) → can ≡ is_encodable offsets (meant_of f row o offsets) → can ≡ true → None ≡ fault_of_meant offsets (meant_of f row o offsets)
no_fault_where f row o offsets can e h =
    let m = meant_of f row o offsets in
    none_of (fault_of_meant offsets m) (no_fault offsets m.visited m.memory ∙ sym e ∙ h)
  where
    none_of : {A : Type 0} (a : Option A) → is_none a ≡ true → None ≡ a
    none_of None h = refl
    none_of (Some a) h = cc
