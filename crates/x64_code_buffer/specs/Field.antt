-- The relative fields of a buffer: what is stored in them, and what they are to hold.
use Rattle.std.specs.Prelude.{ℕ, ◌+◌, ℤ, pos, ◌+ℤ◌, ◌-ℤ◌, if◌then◌else◌, Option, Some, None, option_map, List, drop}
use Rattle.cax64_address.specs.Offset.{fits_i32}
use Rattle.cax64_machine_code.specs.Fields.{number_at, s32}

abbrev pub if_i32 : ℤ → Option ℤ
if_i32 z = if fits_i32 z then Some z else None

-- What is stored, and the distance from the end of the field at a position to a target, where that is an i32.
abbrev pub patched : ℕ → ℕ → ℤ → Option ℤ
patched place target stored = if_i32 (stored +ℤ pos target -ℤ pos (place + 4))

-- what is stored in the four bytes at a position, if they are all there
abbrev pub stored_at : List ℕ → ℕ → Option ℤ
stored_at bytes at = option_map (λ n. s32 n.0) (number_at 4 (drop at bytes))
