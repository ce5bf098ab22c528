use Rattle.std.proofs.Common.{◌≡◌, ◌∙◌, ap, sym, subst, true, ℕ, FitsSigned, w32, rules}
use Rattle.std.proofs.lemmas.Int.{to_z-of_z}
use Rattle.cax64_encoder.specs.Code.{code_actions}
use Rattle.cax64_encoder.specs.Numbered.{form_is_real}
use Rattle.cax64_encoder.specs.Place.{displacement_in}
use Rattle.cax64_encoder.specs.declared.numbered.NumberedForm.{NumberedForm}
use Rattle.cax64_encoder.specs.declared.role.PlaceOperand.{PlaceOperand}
use Rattle.cax64_machine_code.specs.declared.line.Line.{Line}
use Rattle.x64_place.specs.Heads.{are_heads}
use Rattle.cax64_table.specs.EntryLine.{entry_line}
use Rattle.x64_core.proofs.Forms.{encodes_core, fits_given, given_is, length_core, word_given}
use Rattle.x64_core.proofs.Reals.{form_real, late_is, no_register, no_vvvv}
use Rattle.x64_core.proofs.Viewed.{viewed_operand}
use Rattle.x64_core.proofs.instruction.Core.code.Goals as goal

pub displacement-displacement-requires : goal.displacement-displacement-requires
displacement-displacement-requires g c = late_is c.args.self.now (g.S.CodeSink.state c.args.sink.now).offsets c.requires

pub code_by_heads-requires-clause-reg : goal.code_by_heads-requires-clause-reg
code_by_heads-requires-clause-reg g c = no_register c.args.self.now (entry_line c.entry.result) c.entry.ensures

pub code_by_heads-requires-clause-vvvv : goal.code_by_heads-requires-clause-vvvv
code_by_heads-requires-clause-vvvv g c = no_vvvv c.args.self.now (entry_line c.entry.result) c.entry.ensures

pub code_by_heads-requires-clause-fits : goal.code_by_heads-requires-clause-fits
code_by_heads-requires-clause-fits g c = fits_given c.args.self.now (entry_line c.entry.result) _ c.entry.ensures (given_is c.args.self.now (entry_line c.entry.result) c.entry.ensures)

pub code_by_heads-requires-clause-imm : goal.code_by_heads-requires-clause-imm
code_by_heads-requires-clause-imm g c = word_given c.args.self.now (entry_line c.entry.result) _ c.entry.ensures (given_is c.args.self.now (entry_line c.entry.result) c.entry.ensures)

pub code_by_heads-requires-clause-heads : goal.code_by_heads-requires-clause-heads
code_by_heads-requires-clause-heads g c = subst (λ (line : Line). are_heads line c.heads.result.now ≡ true) (sym c.entry.ensures) (rw c.number.ensures.is at c.heads.ensures)

pub code_by_heads-requires-clause-real : goal.code_by_heads-requires-clause-real
code_by_heads-requires-clause-real g c = subst (λ (form : NumberedForm). form_is_real form ≡ true) (sym (given_is c.args.self.now (entry_line c.entry.result) c.entry.ensures)) (form_real c.args.self.now (g.S.CodeSink.state c.args.sink.now).offsets c.requires)

pub returns-clause-encodes : goal.returns-clause-encodes
returns-clause-encodes g c =
    let offsets = (g.S.CodeSink.state c.args.sink.now).offsets in
    let small : FitsSigned w32 c.displacement-displacement.result = search rules in
    encodes_core c.args.self.now offsets _ (entry_line c.entry.result) _ _ c.entry.ensures (given_is c.args.self.now (entry_line c.entry.result) c.entry.ensures)
    (to_z-of_z w32 c.displacement-displacement.result small ∙ c.displacement-displacement.ensures ∙ ap (λ (o : PlaceOperand ℕ). displacement_in offsets o) (sym (viewed_operand c.args.self.now.place))) c.code_by_heads.ensures.encodes

pub returns-clause-length : goal.returns-clause-length
returns-clause-length g c =
    let offsets = (g.S.CodeSink.state c.args.sink.now).offsets in
    let small : FitsSigned w32 c.displacement-displacement.result = search rules in
    length_core c.args.self.now offsets (code_actions c.code_by_heads.result) (entry_line c.entry.result) _ _ c.entry.ensures (given_is c.args.self.now (entry_line c.entry.result) c.entry.ensures)
    (to_z-of_z w32 c.displacement-displacement.result small ∙ c.displacement-displacement.ensures ∙ ap (λ (o : PlaceOperand ℕ). displacement_in offsets o) (sym (viewed_operand c.args.self.now.place))) c.code_by_heads.ensures.length
