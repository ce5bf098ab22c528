-- What a contract sees of a `Vec<u8>` as a sink.
use Rattle.std.specs.Prelude.{ℕ, ◌-◌, vec_len, vec_capacity, Vec}
use Rattle.cax64_sink.specs.Room.{count}
use Rattle.cax64_sink.specs.Sink.{State, bytes_only, is_no_memory}

-- a vector's room is its spare capacity
abbrev pub vec_state : {A : Type 0} → Vec ℕ A → State
vec_state v = bytes_only v.items (count (vec_capacity v - vec_len v)) is_no_memory
