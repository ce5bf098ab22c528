use Rattle.std.proofs.Common.{◌≡◌, ℕ, refl, sym, ap, ◌∙◌}
use Rattle.cax64_encoder.specs.Numbered.{plain, numbered_place}
use Rattle.cax64_encoder.specs.declared.role.PlaceOperand.{PlaceOperand}
use Rattle.x64_place.specs.Operand as flat
use Rattle.x64_place.specs.declared.place.FlatPlace.{FlatPlace}
use Rattle.x64_place.specs.declared.place.PlaceKind.{PlaceKind}
use Rattle.x64_place.specs.declared.place.PlaceKind.TheVariants.{Absent, Register, Base, BaseAndIndex, Label, Constant, NoTarget}
use Rattle.x64_place.proofs.Placed.{numbers_are}
use Rattle.x64_core.specs.View.{place_operand}
use Rattle.x64_core.specs.Viewed.{viewed, viewed_by}

-- The place that numbers are stands for what the numbers stand for.

operand_when : (kind : PlaceKind) (p : FlatPlace) → place_operand (viewed_by kind p) ≡ flat.operand_by kind p
operand_when Absent p = refl
operand_when Register p = refl
operand_when Base p = refl
operand_when BaseAndIndex p = refl
operand_when Label p = refl
operand_when Constant p = refl
operand_when NoTarget p = refl

pub viewed_operand : (p : FlatPlace) → place_operand (viewed p) ≡ flat.place_operand p
viewed_operand p = operand_when p.kind p

pub viewed_numbers : (p : FlatPlace) → flat.placed p ≡ numbered_place plain (place_operand (viewed p))
viewed_numbers p = numbers_are p ∙ ap (λ (o : PlaceOperand ℕ). numbered_place plain o) (sym (viewed_operand p))
