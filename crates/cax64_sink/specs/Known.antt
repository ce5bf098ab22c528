-- The offsets that a recorder knows.
use Rattle.std.specs.Prelude.{ℕ, ℤ, pos, Option, Some, None, if◌then◌else◌, ◌==◌, ◌/◌, ◌%◌, slice_index_or}
use Rattle.std.specs.Int.{bit_at}
use Rattle.cax64_sink.specs.declared.known.Known.{Known}

-- the offset at a key, if it was set
abbrev pub known_at : Known → ℕ → Option ℤ
known_at known key = if bit_at (slice_index_or known.is_set (key / 64) 0) (key % 64) == 1 then Some (slice_index_or known.values key (pos 0)) else None
