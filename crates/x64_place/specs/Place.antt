use Rattle.std.specs.Prelude.{ℕ, ◌==◌, ◌&&◌, Bool, true, false, Option, is_none, ℤ, pos, negsuc}
use Rattle.cax64_address.specs.declared.amode.Scale.{Scale}
use Rattle.cax64_address.specs.declared.amode.Scale.TheVariants.{One, Two, Four, Eight}
use Rattle.cax64_sink.specs.declared.TrapCode.{TrapCode}
use Rattle.x64_place.specs.declared.place.PlaceKind.{PlaceKind}
use Rattle.x64_place.specs.declared.place.PlaceKind.TheVariants.{Absent, Register, Base, BaseAndIndex, Label, Constant, NoTarget}

abbrev pub is_zero : ℤ → Bool
is_zero (pos n) = n == 0
is_zero (negsuc n) = false

abbrev pub is_one : Scale → Bool
is_one One = true
is_one Two = false
is_one Four = false
is_one Eight = false

-- no factor, no trap, no late offset and no displacement
abbrev pub nothing_more : Scale → Option TrapCode → Option ℕ → ℤ → Bool
nothing_more scale trap offset displacement = is_one scale && (is_none trap && (is_none offset && is_zero displacement))

-- what a place has no use for is 0, absent or the scale 1
abbrev pub is_plain : PlaceKind → ℕ → ℕ → Scale → Option TrapCode → Option ℕ → ℤ → ℕ → Bool
is_plain Absent base index scale trap offset displacement target = (base == 0) && ((index == 0) && ((target == 0) && nothing_more scale trap offset displacement))
is_plain Register base index scale trap offset displacement target = (index == 0) && ((target == 0) && nothing_more scale trap offset displacement)
is_plain Base base index scale trap offset displacement target = (index == 4) && ((target == 0) && is_one scale)
is_plain BaseAndIndex base index scale trap offset displacement target = (target == 0) && is_none offset
is_plain Label base index scale trap offset displacement target = (base == 0) && ((index == 0) && nothing_more scale trap offset displacement)
is_plain Constant base index scale trap offset displacement target = (base == 0) && ((index == 0) && nothing_more scale trap offset displacement)
is_plain NoTarget base index scale trap offset displacement target = (base == 0) && ((index == 0) && ((target == 0) && nothing_more scale trap offset displacement))
