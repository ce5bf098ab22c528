use Rattle.std.specs.Prelude.{ℕ, ◌+◌, ◌-◌, ◌*◌, ◌/◌, ◌%◌, ◌<◌, ◌≤◌, Bool, nat_lt, if◌then◌else◌, List, [], ◌∷◌, length, slice_index, slice_index_or}
use Rattle.std.specs.Int.{from_bool}
use Rattle.cax64_machine_code.specs.Fields.{reg_of}
use Rattle.cax64_machine_code.specs.declared.line.Opcode.{Opcode}
use Rattle.x64_reader.specs.declared.index.TheConstants.{INDEX, PLACES, SLOTS}

-- Which line is tried where an opcode and a digit stand behind a prefix.

-- what the table holds for an opcode in a map, of which the first is that without VEX
abbrev pub entry_in : ℕ → Opcode → ℕ
entry_in map opcode = slice_index (slice_index_or SLOTS (2 * map + from_bool opcode.escape) []) opcode.byte

-- what it holds for an opcode behind a prefix by low: its set of legacy prefixes, or pp and sixteen times its map
abbrev pub entry_for : ℕ → Opcode → ℕ
entry_for low opcode = entry_in (low / 16 % 4) opcode

-- the slots of an entry are in the index
pub record Fits (entry : ℕ) : Type 0 where
  pub alone : entry < 32768 → entry < length INDEX
  pub by_digit : 32768 ≤ entry → entry - 32768 + 7 < length INDEX

-- the slot of an entry, and of a digit where the entry has one for each
abbrev pub slot_with : ℕ → ℕ → ℕ
slot_with entry digit = if nat_lt entry 32768 then entry else (entry - 32768 + digit)

-- the place of a set of legacy prefixes, or of pp
abbrev pub place_of : ℕ → ℕ
place_of low = slice_index PLACES (low % 16)

-- the number in a slot, by its place and W
abbrev pub number_in : ℕ → ℕ → Bool → ℕ
number_in slot place w = slice_index_or (slice_index_or (slice_index_or INDEX slot []) place []) (from_bool w) 0

-- the digit that follows an opcode, 0 where nothing does
abbrev pub digit_behind : List ℕ → ℕ
digit_behind [] = 0
digit_behind (modrm ∷ bytes) = reg_of modrm

-- the number of a key: low, W, an opcode and a digit
abbrev pub number_of_key : ℕ → Bool → Opcode → ℕ → ℕ
number_of_key low w opcode digit = number_in (slot_with (entry_for low opcode) digit) (place_of low) w
