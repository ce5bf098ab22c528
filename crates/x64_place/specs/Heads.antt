use Rattle.std.specs.Prelude.{ℕ, ◌+◌, ◌*◌, ◌/◌, ◌%◌, ◌^◌, ◌==◌, ◌&&◌, ◌||◌, not, nat_eq, nat_le, nat_lt, Bool, List, slice_index, take}
use Rattle.std.specs.Cmp.Lexicographic.{pointwise}
use Rattle.std.specs.Int.{from_bool, to_le_bytes, w64}
use Rattle.cax64_machine_code.specs.declared.line.Line.{Line}
use Rattle.cax64_table.specs.Numbers.{is_vex}
use Rattle.x64_place.specs.Head.{head_of}

-- Four numbers that hold what stands in front of the tail in a line without VEX: which of them by whether a register that may
-- be one of 8 bits has a number of 4 to 7, and by whether R, X or B is 1. The lowest byte is how many bytes these are, the
-- next one how far up R, X and B stand in them.

-- the four bits of a head, of R, X and B as one number
abbrev pub head_bits : ℕ → ℕ → ℕ
head_bits high special = high / 4 * 8 + special * 4 + high % 4

abbrev pub entry_in : List ℕ → ℕ → ℕ → ℕ
entry_in heads high special = slice_index heads (special * 2 + from_bool (not (high == 0)))

abbrev pub held_word : ℕ → ℕ → ℕ
held_word entry high = entry / 65536 + (high * 2 ^ (entry / 256 % 64)) % 2 ^ 64

abbrev pub held_bytes : ℕ → ℕ → List ℕ
held_bytes entry high = take (entry % 256) (to_le_bytes w64 (held_word entry high))

abbrev pub holds_head : Line → List ℕ → ℕ → ℕ → Bool
holds_head line heads high special =
    nat_le (entry_in heads high special % 256) 6
    && (nat_lt (held_word (entry_in heads high special) high) (256 ^ (entry_in heads high special % 256))
    && pointwise nat_eq (held_bytes (entry_in heads high special) high) (head_of line (head_bits high special)))

abbrev pub all_high : (ℕ → Bool) → Bool
all_high f = f 0 && (f 1 && (f 2 && (f 3 && (f 4 && (f 5 && (f 6 && f 7))))))

-- numbers are those of a line
unfoldable pub are_heads : Line → List ℕ → Bool
are_heads line heads = is_vex line.prefix || (all_high (λ high. holds_head line heads high 0) && all_high (λ high. holds_head line heads high 1))
