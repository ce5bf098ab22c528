use Rattle.std.specs.Prelude.{ℕ, Bool, true, false, Option, Some, None}
use Rattle.cax64_sink.specs.declared.DeferredTarget.{DeferredTarget}
use Rattle.cax64_sink.specs.declared.DeferredTarget.TheVariants as target
use Rattle.x64_place.specs.declared.place.PlaceKind.{PlaceKind}
use Rattle.x64_place.specs.declared.place.PlaceKind.TheVariants.{Absent, Register, Base, BaseAndIndex, Label, Constant, NoTarget}

-- What a place of a kind has.

abbrev pub is_present : PlaceKind → Bool
is_present Absent = false
is_present Register = true
is_present Base = true
is_present BaseAndIndex = true
is_present Label = true
is_present Constant = true
is_present NoTarget = true

abbrev pub is_register : PlaceKind → Bool
is_register Absent = false
is_register Register = true
is_register Base = false
is_register BaseAndIndex = false
is_register Label = false
is_register Constant = false
is_register NoTarget = false

-- whether the base is a number of a register
abbrev pub has_base : PlaceKind → Bool
has_base Absent = false
has_base Register = true
has_base Base = true
has_base BaseAndIndex = true
has_base Label = false
has_base Constant = false
has_base NoTarget = false

abbrev pub has_index : PlaceKind → Bool
has_index Absent = false
has_index Register = false
has_index Base = false
has_index BaseAndIndex = true
has_index Label = false
has_index Constant = false
has_index NoTarget = false

abbrev pub is_relative : PlaceKind → Bool
is_relative Absent = false
is_relative Register = false
is_relative Base = false
is_relative BaseAndIndex = false
is_relative Label = true
is_relative Constant = true
is_relative NoTarget = true

abbrev pub relative_by : PlaceKind → ℕ → Option DeferredTarget
relative_by Absent number = None
relative_by Register number = None
relative_by Base number = None
relative_by BaseAndIndex number = None
relative_by Label number = Some (target.Label (record { 0 = number }))
relative_by Constant number = Some (target.Constant (record { 0 = number }))
relative_by NoTarget number = Some target.None
