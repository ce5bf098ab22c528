use Rattle.x64_place.specs.declared.place.FlatPlace.{FlatPlace}
use Rattle.x64_place.specs.declared.place.PlaceKind.{PlaceKind}
use Rattle.x64_place.specs.declared.place.PlaceKind.TheVariants as kind
use Rattle.cax64_sink.specs.declared.DeferredTarget.TheVariants as target
use Rattle.x64_core.specs.declared.place.CorePlace.{CorePlace}
use Rattle.x64_core.specs.declared.place.CorePlace.TheVariants.{Absent, Register, Base, BaseAndIndex, Relative}

-- The place that numbers are.

abbrev pub viewed_by : PlaceKind → FlatPlace → CorePlace
viewed_by kind.Absent p = Absent
viewed_by kind.Register p = Register p.base
viewed_by kind.Base p = Base p.base p.trap p.offset p.displacement
viewed_by kind.BaseAndIndex p = BaseAndIndex p.base p.index p.scale p.trap p.displacement
viewed_by kind.Label p = Relative (target.Label (record { 0 = p.target }))
viewed_by kind.Constant p = Relative (target.Constant (record { 0 = p.target }))
viewed_by kind.NoTarget p = Relative target.None

abbrev pub viewed : FlatPlace → CorePlace
viewed p = viewed_by p.kind p
