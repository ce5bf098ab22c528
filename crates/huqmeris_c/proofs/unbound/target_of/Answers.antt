use Rattle.std.proofs.Common.{◌≡◌, ◌∙◌, inl, ℕ, sym, ap, Some}
use Rattle.cax64_encoder.specs.Place.{memory_in}
use Rattle.cax64_encoder.specs.declared.role.PlaceOperand.{PlaceOperand}
use Rattle.huqmeris_c.specs.Items.{target_in}
use Rattle.x64_core.specs.View.{core_view, place_operand}
use Rattle.x64_core.specs.declared.place.CorePlace.{CorePlace}
use Rattle.huqmeris_c.proofs.unbound.target_of.Goals as goal

pub returns-in-Relative-clause-some : goal.returns-in-Relative-clause-some
returns-in-Relative-clause-some c =
    let there : target_in (memory_in (core_view c.in_ok-core.field-0).place) ≡ Some c.in-Relative.target = ap (λ (p : PlaceOperand ℕ). target_in (memory_in p)) (sym c.place.ensures) ∙ ap (λ (p : CorePlace). target_in (memory_in (place_operand p))) c.in-Relative.is in
    inl (c.if-item-eq-HQ_ITEM_INST.true, (c.in_ok-core.field-0, c.in_ok-core.ensures.is, there))
