use Rattle.std.specs.Prelude.{ℕ, ◌==◌, ◌||◌, ◌&&◌, nat_le, nat_lt, Bool, true, false, if◌then◌else◌, Option, Some, None}
use Rattle.x64_place.specs.Kind.{has_base, has_index}
use Rattle.x64_place.specs.Place.{is_zero}
use Rattle.x64_place.specs.declared.place.PlaceKind.{PlaceKind}
use Rattle.x64_place.specs.declared.place.PlaceKind.TheVariants.{Absent, Register, Base, BaseAndIndex, Label, Constant, NoTarget}
use Rattle.x64_plain.specs.declared.place.HqPlace.{HqPlace}
use Rattle.x64_plain.specs.declared.place.Most.{Most}

-- the late offset of a key, where there is one
abbrev pub offset_named : ℕ → ℕ → Option ℕ
offset_named has_offset offset = if has_offset == 1 then Some offset else None

-- beside a base alone a place keeps 4 as its index, which is none
abbrev pub index_beside : PlaceKind → ℕ → ℕ
index_beside Absent index = index
index_beside Register index = index
index_beside Base index = 4
index_beside BaseAndIndex index = index
index_beside Label index = index
index_beside Constant index = index
index_beside NoTarget index = index

-- whether a trap and a displacement may stand in a place, a late offset, a target

abbrev pub has_displacement : PlaceKind → Bool
has_displacement Absent = false
has_displacement Register = false
has_displacement Base = true
has_displacement BaseAndIndex = true
has_displacement Label = false
has_displacement Constant = false
has_displacement NoTarget = false

abbrev pub has_offset : PlaceKind → Bool
has_offset Absent = false
has_offset Register = false
has_offset Base = true
has_offset BaseAndIndex = false
has_offset Label = false
has_offset Constant = false
has_offset NoTarget = false

abbrev pub has_target : PlaceKind → Bool
has_target Absent = false
has_target Register = false
has_target Base = false
has_target BaseAndIndex = false
has_target Label = true
has_target Constant = true
has_target NoTarget = false

-- each number is at most the one of these, and an offset has a key only where it stands
abbrev pub is_within : Most → HqPlace → Bool
is_within most s = (((((((nat_le s.base most.base && nat_le s.index most.index) && nat_le s.scale most.scale) && nat_le s.trap most.trap) && nat_le s.has_offset most.has_offset) && ((s.has_offset == 1) || (s.offset == 0))) && (most.has_displacement || is_zero s.disp)) && (most.has_target || (s.target == 0))) && (s.reserved == 0)

-- what a place of a kind lacks is 0, and the rest is in its range
abbrev pub is_whole : PlaceKind → HqPlace → Bool
is_whole kind s = ((((((((((has_base kind || (s.base == 0)) && (has_index kind || (s.index == 0))) && (has_index kind || (s.scale == 0))) && nat_lt s.scale 4) && (has_displacement kind || (s.trap == 0))) && (has_offset kind || (s.has_offset == 0))) && nat_lt s.has_offset 2) && ((s.has_offset == 1) || (s.offset == 0))) && (has_displacement kind || is_zero s.disp)) && (has_target kind || (s.target == 0))) && (s.reserved == 0)
