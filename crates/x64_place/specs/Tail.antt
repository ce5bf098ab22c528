use Rattle.std.specs.Prelude.{ℕ, ◌+◌, ◌*◌, ◌%◌, ◌^◌, ◌==◌, nat_le, Bool, true, Option, Some, None, List, [], ◌∷◌, pos, ◌-ℤ◌}
use Rattle.std.specs.Int.{from_bool, cast_unsigned, w32}
use Rattle.cax64_address.specs.Memory.{option_when}
use Rattle.cax64_encoder.specs.Tails.{mode_of, memory_front}
use Rattle.x64_place.specs.declared.place.PlaceKind.{PlaceKind}
use Rattle.x64_place.specs.declared.place.PlaceKind.TheVariants.{Absent, Register, Base, BaseAndIndex, Label, Constant, NoTarget}

-- The tail of a place by its kind, the width of its displacement and the low bits of its base.

abbrev pub kind_number : PlaceKind → ℕ
kind_number Absent = 0
kind_number Register = 1
kind_number Base = 2
kind_number BaseAndIndex = 3
kind_number Label = 4
kind_number Constant = 5
kind_number NoTarget = 6

-- by whether a SIB byte stands, the field mod, and the field rm
abbrev pub memory_entry : Bool → ℕ → ℕ → List ℕ
memory_entry has_sib mode rm = (from_bool (mode == 1) * 256 ^ (1 + from_bool has_sib)) ∷ (from_bool has_sib * 256) ∷ (mode * 64 + rm) ∷ (1 + (from_bool has_sib + from_bool (mode == 1))) ∷ from_bool (mode == 2) ∷ []

abbrev pub relative_entry : List ℕ
relative_entry = 0 ∷ 0 ∷ 5 ∷ 1 ∷ 1 ∷ []

-- what the table has
abbrev pub tail_entry : PlaceKind → ℕ → ℕ → List ℕ
tail_entry Absent width low = 0 ∷ 0 ∷ 0 ∷ 0 ∷ 0 ∷ []
tail_entry Register width low = 0 ∷ 0 ∷ (192 + low) ∷ 1 ∷ 0 ∷ []
tail_entry Base width low = memory_entry (low == 4) (mode_of width low) low
tail_entry BaseAndIndex width low = memory_entry true (mode_of width low) 4
tail_entry Label width low = relative_entry
tail_entry Constant width low = relative_entry
tail_entry NoTarget width low = relative_entry

-- ModR/M, SIB and a displacement of one byte
abbrev pub front_of : PlaceKind → ℕ → ℕ → ℕ → ℕ → ℕ → List ℕ
front_of Absent width low reg sib byte = []
front_of Register width low reg sib byte = (3 * 64 + reg * 8 + low) ∷ []
front_of Base width low reg sib byte = memory_front (low == 4) (mode_of width low) low reg sib byte
front_of BaseAndIndex width low reg sib byte = memory_front true (mode_of width low) 4 reg sib byte
front_of Label width low reg sib byte = (reg * 8 + 5) ∷ []
front_of Constant width low reg sib byte = (reg * 8 + 5) ∷ []
front_of NoTarget width low reg sib byte = (reg * 8 + 5) ∷ []

abbrev pub relative_word : ℕ → ℕ
relative_word at_end = cast_unsigned w32 (pos 0 -ℤ pos at_end)

-- a displacement of four bytes
abbrev pub long_of : PlaceKind → ℕ → ℕ → ℕ → Option ℕ
long_of Absent width word at_end = None
long_of Register width word at_end = None
long_of Base width word at_end = option_when (width == 2) word
long_of BaseAndIndex width word at_end = option_when (width == 2) word
long_of Label width word at_end = Some (relative_word at_end)
long_of Constant width word at_end = Some (relative_word at_end)
long_of NoTarget width word at_end = Some (relative_word at_end)

-- whether the low bits of a register are 4 to 7
abbrev pub special_of : PlaceKind → ℕ → ℕ
special_of Absent base = 0
special_of Register base = from_bool (nat_le 4 (base % 8))
special_of Base base = 0
special_of BaseAndIndex base = 0
special_of Label base = 0
special_of Constant base = 0
special_of NoTarget base = 0
