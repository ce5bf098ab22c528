use Rattle.std.proofs.Common.{◌≡◌, ◌∙◌, refl, Result, Ok, Err}
use Rattle.std.specs.Prelude.{IfOk}
use Rattle.x64_core.specs.View.{CoreView, core_view}
use Rattle.x64_core.specs.declared.instruction.Core.{Core}
use Rattle.x64_lines.specs.declared.refused.OperandError.{OperandError}
use Rattle.core_rows.proofs.compared.made_again.Goals as goal

same : (made : Result Core OperandError) (core : Core) (v : CoreView) → ((a b : Core) → core_view a ≡ core_view b → a ≡ b) → IfOk made (λ c. core_view c ≡ v) → v ≡ core_view core → IfOk made (λ c. c ≡ core)
same (Ok c) core v law h e = law c core (h ∙ e)
same (Err why) core v law h e = tt

pub returns : goal.returns
returns c = same c.new.result c.args.core.now _ c.laws_of_equality.ensures.view c.new.ensures.view (rw (c.op.ensures, c.reg.ensures, c.vvvv.ensures, c.place.ensures, c.imm.ensures.value) refl)
