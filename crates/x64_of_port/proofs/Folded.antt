use Rattle.std.proofs.Common.{◌≡◌, ℕ, refl, ap, ◌∙◌, Option, ℤ}
use Rattle.cax64_encoder.specs.Checked.{checked_of, holds, none_checked, with_checked_operand}
use Rattle.cax64_encoder.specs.Content.{content_of, nop_content, no_content, with_content}
use Rattle.cax64_encoder.specs.Fault as fault
use Rattle.cax64_encoder.specs.Meant.{meant_of}
use Rattle.cax64_encoder.specs.declared.checked.Checked.{Checked}
use Rattle.cax64_encoder.specs.declared.content.Content.{Content}
use Rattle.cax64_encoder.proofs.Checks.{checked_fold, holds_is}
use Rattle.cax64_encoder.proofs.Encodable.{content_is}
use Rattle.cax64_machine_code.specs.declared.row.Row.{Row}
use Rattle.cax64_operand.specs.Family.{Family}
use Rattle.cax64_operand.specs.Fold.{fold}
use Rattle.cax64_operand.specs.OperandList.{list_of, nop_of}
use Rattle.cax64_operand.specs.declared.operand.Operands.{Operands}
use Rattle.cax64_operand.specs.declared.operand.Operands.TheVariants as operands
use Rattle.x64_of_port.specs.Given.{given_of}
use Rattle.x64_of_port.specs.declared.given.Given.{Given}

-- What is given of operands is both of what they give.

folded : {R A B C D E F : Type 0} (f : Family A B C D E F) (o : Operands R A B C D E F) → given_of f o ≡ record { checked = fold none_checked (with_checked_operand f) (λ _. none_checked) o; content = fold no_content (with_content f) nop_content o }
folded f operands.Zero = refl
folded f (operands.One a) = refl
folded f (operands.Two a b) = refl
folded f (operands.Three a b c) = refl
folded f (operands.Four a b c d) = refl
folded f (operands.Five a b c d e) = refl
folded f (operands.Nop nop) = refl

module _ {R A B C D E F : Type 0} (f : Family A B C D E F) (o : Operands R A B C D E F) (given : Given) (e : given ≡ given_of f o) where
  pub content_given : given.content ≡ content_of f o
  content_given = ap (λ (g : Given). g.content) (e ∙ folded f o) ∙ content_is f o

  checked_given : given.checked ≡ checked_of f (list_of o)
  checked_given = ap (λ (g : Given). g.checked) (e ∙ folded f o) ∙ checked_fold f o

  pub nop_given : given.content.nop ≡ nop_of o
  nop_given = ap (λ (c : Content). c.nop) content_given

  pub holds_given : (row : Row) (offsets : ℕ → Option ℤ) → holds offsets given.checked ≡ fault.is_encodable offsets (meant_of f row o offsets)
  holds_given row offsets = ap (λ (c : Checked). holds offsets c) checked_given ∙ holds_is f row o offsets
