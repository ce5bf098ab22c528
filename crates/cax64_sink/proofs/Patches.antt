use Rattle.std.proofs.Common.{◌≡◌, ℕ, ◌+◌, ◌<◌, ◌≤◌, List, length, slice_index_or, arith}
use Rattle.std.proofs.lemmas.Grind.{common_steps}
use Rattle.cax64_sink.specs.Recorder.{written_over}

-- what is written over keeps its length
pub length_written_over : (bytes : List ℕ) (at : ℕ) (more : List ℕ) → at + length more ≤ length bytes → length (written_over bytes at more) ≡ length bytes
length_written_over bytes at more h = grind (arith, common_steps)

-- and the bytes before the place
pub written_over_before : (bytes : List ℕ) (at : ℕ) (more : List ℕ) (k d : ℕ) → at + length more ≤ length bytes → k < at → slice_index_or (written_over bytes at more) k d ≡ slice_index_or bytes k d
written_over_before bytes at more k d h before = grind (arith, common_steps)

-- and those after what is written
pub written_over_after : (bytes : List ℕ) (at : ℕ) (more : List ℕ) (k d : ℕ) → at + length more ≤ length bytes → at + length more ≤ k → slice_index_or (written_over bytes at more) k d ≡ slice_index_or bytes k d
written_over_after bytes at more k d h after = grind (arith, common_steps)

-- at the place stand the new bytes
pub written_over_at : (bytes : List ℕ) (at : ℕ) (more : List ℕ) (k d : ℕ) → at + length more ≤ length bytes → k < length more → slice_index_or (written_over bytes at more) (at + k) d ≡ slice_index_or more k d
written_over_at bytes at more k d h within = grind (arith, common_steps)
