use Rattle.std.proofs.Common.{◌≡◌, ℕ, refl, sym, ap, ◌∙◌, Bool, true, false, Option, Some, None, ℤ}
use Rattle.std.specs.Option.{unwrap_or}
use Rattle.std.specs.Prelude.{◌&&◌, ◌||◌, not, is_none, is_some}
use Rattle.cax64_encoder.specs.Checked.{holds}
use Rattle.cax64_encoder.specs.Fault as fault
use Rattle.cax64_encoder.specs.Form.{Form, fits, form_of}
use Rattle.cax64_encoder.specs.Meant.{meant_of}
use Rattle.cax64_encoder.specs.Numbered.{IsNumbered, form_named, numbered_form, place_named}
use Rattle.cax64_encoder.specs.declared.content.Content.{Content}
use Rattle.cax64_encoder.specs.declared.numbered.NumberedForm.{NumberedForm}
use Rattle.cax64_encoder.proofs.Encodable.{fits_row}
use Rattle.cax64_encoder.proofs.Numbers.{fits_of, imm_of, numbered_of}
use Rattle.cax64_machine_code.specs.Rows.{line_of}
use Rattle.cax64_machine_code.specs.declared.row.Row.{Row}
use Rattle.cax64_operand.specs.Family.{Family}
use Rattle.cax64_operand.specs.OperandList.{list_of, nop_of}
use Rattle.cax64_operand.specs.declared.nop.Nop.{Nop}
use Rattle.cax64_operand.specs.declared.operand.Operands.{Operands}
use Rattle.x64_place.specs.Operand as flat
use Rattle.x64_place.specs.declared.place.FlatPlace.{FlatPlace}
use Rattle.cax64_table.specs.Packed.{number_of}
use Rattle.x64_core.specs.Fits.{core_fits}
use Rattle.x64_lines.specs.Line.{core_line}
use Rattle.x64_lines.specs.Shape.{shape_of}
use Rattle.x64_core.specs.View.{core_view}
use Rattle.x64_core.specs.Viewed.{viewed}
use Rattle.x64_core.specs.declared.instruction.Core.{Core}
use Rattle.x64_lines.specs.declared.op.Op.{Op}
use Rattle.x64_lines.proofs.RowLines.{row_line}
use Rattle.x64_core.proofs.Viewed.{viewed_operand}
use Rattle.x64_of_port.specs.Task.{Answer, GivenOf}
use Rattle.x64_of_port.specs.declared.given.Given.{Given}
use Rattle.x64_of_port.proofs.Fits.{core_takes}
use Rattle.x64_of_port.proofs.Folded.{content_given, holds_given, nop_given}
use Rattle.x64_of_port.proofs.Means.{HasNumbers, is_core, named_view, view_is}

-- What is answered of operands by what they give.

refused_is : (nop : Option Nop) (can : Bool) → (is_some nop || not can) ≡ true → false ≡ (is_none nop && can)
refused_is None true h = cc
refused_is None false h = refl
refused_is (Some nop) can h = refl

record Taken (nop : Option Nop) (can : Bool) : Type 0 where
  none : nop ≡ None
  can_be : can ≡ true

taken_is : (nop : Option Nop) (can : Bool) → (is_some nop || not can) ≡ false → Taken nop can
taken_is None true h = record { none = refl; can_be = refl }
taken_is None false h = cc
taken_is (Some nop) can h = cc

there_is : (nop : Option Nop) (can : Bool) → Taken nop can → true ≡ (is_none nop && can)
there_is nop can t = sym (rw (t.none, t.can_be) refl)

-- an instruction of a line with these numbers where they stand
pub made_numbers : (c : Core) (op : Op) (d : FlatPlace) (number : ℕ) (numbers : NumberedForm) → c.op ≡ op → op.number ≡ number → c.reg ≡ unwrap_or numbers.reg 0 → c.vvvv ≡ unwrap_or numbers.vvvv 0 → c.imm ≡ numbers.imm → c.place ≡ d → flat.place_operand d ≡ place_named numbers.place → HasNumbers c number numbers
made_numbers c op d number numbers e n reg vvvv imm p h =
    record {
      op = ap (λ (op : Op). op.number) e ∙ n;
      reg = reg;
      vvvv = vvvv;
      place = viewed_operand c.place ∙ ap (λ (d : FlatPlace). flat.place_operand d) p ∙ h;
      imm = imm;
    }

module _ {R A B C D E F : Type 0} (f : Family A B C D E F) (row : Row) (o : Operands R A B C D E F) (given : Given) (h : GivenOf f row o given) where
  abbrev form : Form A
  form = form_of f (list_of o)

  abbrev numbers : NumberedForm
  numbers = given.content.form

  form_is : numbers ≡ numbered_form f.read_gpr form
  form_is = ap (λ (c : Content). c.form) (content_given f o given h.is)

  pub numbered : IsNumbered numbers.place
  numbered = numbered_of f.read_gpr numbers form form_is

  -- by the answers of the two tests
  module _ (offsets : ℕ → Option ℤ) (is_nop can : Bool) (nop_is : is_nop ≡ is_some given.content.nop) (can_is : can ≡ holds offsets given.checked) where
    test_is : (is_nop || not can) ≡ (is_some (nop_of o) || not (fault.is_encodable offsets (meant_of f row o offsets)))
    test_is = rw (nop_is, can_is, nop_given f o given h.is, holds_given f o given h.is row offsets) refl

    pub refused : (is_nop || not can) ≡ true → Answer f offsets row o None
    refused e = record { some = refused_is (nop_of o) (fault.is_encodable offsets (meant_of f row o offsets)) (sym test_is ∙ e); is = tt }

    module _ (e : (is_nop || not can) ≡ false) where
      taken : Taken (nop_of o) (fault.is_encodable offsets (meant_of f row o offsets))
      taken = taken_is (nop_of o) (fault.is_encodable offsets (meant_of f row o offsets)) (sym test_is ∙ e)

      fit : fits (line_of row) form ≡ true
      fit = fits_row f row o taken.none h.signature

      named_fit : fits (line_of row) (form_named (line_of row) numbers) ≡ true
      named_fit = fits_of f.read_gpr numbers form form_is (line_of row) fit

      -- the row's line takes the numbers
      pub takes : (op : Op) (d : FlatPlace) → core_line op.number ≡ line_of row → flat.place_operand d ≡ place_named numbers.place → core_fits (shape_of op.number) (unwrap_or numbers.reg 0) (unwrap_or numbers.vvvv 0) (viewed d) numbers.imm ≡ true
      takes op d is p = core_takes (line_of row) numbers named_fit op (viewed d) is (imm_of f.read_gpr numbers form form_is (line_of row) fit) (viewed_operand d ∙ p)

      -- what is made of them is the instruction
      pub made : ((a b : C) → f.same_write_gpr a b ≡ true → a ≡ b) → (c : Core) → HasNumbers c (number_of row) numbers → Answer f offsets row o (Some c)
      made same c n =
          record {
            some = there_is (nop_of o) (fault.is_encodable offsets (meant_of f row o offsets)) taken;
            is = is_core f row o taken.none h.signature same offsets taken.can_be (core_view c) (view_is (line_of row) numbers named_fit c (number_of row) n (row_line row) ∙ ap (λ (numbers : NumberedForm). named_view (number_of row) (line_of row) numbers) form_is);
          }
