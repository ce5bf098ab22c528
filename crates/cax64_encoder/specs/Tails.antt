use Rattle.std.specs.Prelude.{ℕ, ◌+◌, ◌*◌, ◌%◌, ◌^◌, ◌==◌, nat_lt, not, ◌||◌, Bool, if◌then◌else◌, List, [], ◌∷◌, ◌++◌}
use Rattle.std.specs.Int.{from_bool}
use Rattle.cax64_address.specs.Memory.{option_when}
use Rattle.cax64_encoder.specs.ByteWhen.{byte_of}

-- The tail of a base by the width of its displacement and the low bits of the base.

-- A displacement's width: 0 for none, 1 for one byte, 2 for four; by whether it is 0, and whether a byte holds it.
abbrev pub width_with : Bool → Bool → ℕ
width_with zero small = from_bool (not zero) + from_bool (not small)

abbrev pub width_of_word : ℕ → ℕ
width_of_word word = width_with (word == 0) (nat_lt ((word + 128) % 4294967296) 256)

-- The field mod: beside low bits 5 a byte stands for 0 too.
abbrev pub mode_of : ℕ → ℕ → ℕ
mode_of width low = if width == 0 then from_bool (low == 5) else width

-- ModR/M, SIB and a displacement of one byte, by whether a SIB byte stands, the field mod, and the fields rm and reg
abbrev pub memory_front : Bool → ℕ → ℕ → ℕ → ℕ → ℕ → List ℕ
memory_front has_sib mode rm reg sib byte = (((mode * 64 + reg * 8 + rm) ∷ []) ++ byte_of (option_when has_sib sib)) ++ byte_of (option_when (mode == 1) byte)

-- What the table has, by whether a SIB byte stands, the field mod, and the field rm.
abbrev pub memory_entry : Bool → ℕ → ℕ → List ℕ
memory_entry has_sib mode rm = (mode * 64 + rm) ∷ (from_bool has_sib * 256) ∷ (from_bool (mode == 1) * 256 ^ (1 + from_bool has_sib)) ∷ (1 + (from_bool has_sib + from_bool (mode == 1))) ∷ []

abbrev pub base_entry : Bool → ℕ → ℕ → List ℕ
base_entry has_index width low = memory_entry (has_index || (low == 4)) (mode_of width low) (if has_index || (low == 4) then 4 else low)
