use Rattle.std.specs.Prelude.{ℕ, Option, Some, None, if◌then◌else◌}
use Rattle.cax64_encoder.specs.declared.numbered.NumberedPlace.{NumberedPlace}
use Rattle.x64_place.specs.declared.place.PlaceKind.{PlaceKind}
use Rattle.x64_place.specs.declared.place.PlaceKind.TheVariants.{Absent, Register, Base, BaseAndIndex, Label, Constant, NoTarget}
use Rattle.cax64_sink.specs.declared.DeferredTarget.{DeferredTarget}
use Rattle.cax64_sink.specs.declared.DeferredTarget.TheVariants as target

-- Numbers of operands as a flat place has them.

abbrev pub settled_kind : NumberedPlace → PlaceKind
settled_kind p = if p.stands then (if p.is_register then Register else (if p.has_index then BaseAndIndex else Base)) else Absent

abbrev pub kind_with : Option DeferredTarget → PlaceKind → PlaceKind
kind_with None kind = kind
kind_with (Some (target.Label label)) kind = Label
kind_with (Some (target.Constant constant)) kind = Constant
kind_with (Some target.None) kind = NoTarget

abbrev pub target_number : Option DeferredTarget → ℕ
target_number None = 0
target_number (Some (target.Label label)) = label.0
target_number (Some (target.Constant constant)) = constant.0
target_number (Some target.None) = 0

abbrev pub kind_of : NumberedPlace → PlaceKind
kind_of p = kind_with p.relative (settled_kind p)
