use Rattle.std.specs.Prelude.{ℕ, ◌/◌, ◌%◌, ◌+◌, ◌*◌, ◌^◌, ◌==◌, ◌&&◌, Bool, true, not, List, [], ◌∷◌, slice_index_or}
use Rattle.x64_lines.specs.declared.flags.Flag.{Flag}
use Rattle.x64_lines.specs.declared.flags.Flag.TheVariants.{Carry, Parity, Adjust, Zero, Sign, Overflow}
use Rattle.x64_lines.specs.declared.flags.FlagSet.{FlagSet}
use Rattle.x64_lines.specs.declared.flags.Flags.{Flags}
use Rattle.x64_lines.specs.declared.flags.TheConstants.{FLAGS}

-- The flags that a line reads, writes and leaves undefined, by its number.

abbrev pub no_flags : FlagSet
no_flags = record { bits = 0 }

abbrev pub flags_of : ℕ → Flags
flags_of number = slice_index_or FLAGS number (record { read = no_flags; written = no_flags; undefined = no_flags })

-- the place of a flag in EFLAGS (Intel SDM, volume 1, 3.4.3)
abbrev pub place_of : Flag → ℕ
place_of Carry = 0
place_of Parity = 2
place_of Adjust = 4
place_of Zero = 6
place_of Sign = 7
place_of Overflow = 11

abbrev pub has_flag : FlagSet → Flag → Bool
has_flag set flag = set.bits / 2 ^ place_of flag % 2 == 1

abbrev pub all_flags : List Flag
all_flags = Carry ∷ Parity ∷ Adjust ∷ Zero ∷ Sign ∷ Overflow ∷ []

-- a set has no other bits
abbrev pub bits_in : FlagSet → List Flag → ℕ
bits_in set [] = 0
bits_in set (flag ∷ flags) = (set.bits / 2 ^ place_of flag % 2) * 2 ^ place_of flag + bits_in set flags

abbrev pub is_set : FlagSet → Bool
is_set set = set.bits == bits_in set all_flags

-- two sets have no flag together
abbrev pub are_apart : FlagSet → FlagSet → List Flag → Bool
are_apart a b [] = true
are_apart a b (flag ∷ flags) = not (has_flag a flag && has_flag b flag) && are_apart a b flags

-- none is written and undefined
abbrev pub flags_fit : Flags → Bool
flags_fit flags = is_set flags.read && (is_set flags.written && (is_set flags.undefined && are_apart flags.written flags.undefined all_flags))
