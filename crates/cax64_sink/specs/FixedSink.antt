-- What a contract sees of a `FixedSink`.
use Rattle.std.specs.Prelude.{ℕ, ◌-◌, take, length}
use Rattle.cax64_sink.specs.Room.{count}
use Rattle.cax64_sink.specs.Sink.{State, bytes_only, is_full}
use Rattle.cax64_sink.specs.declared.fixed_sink.FixedSink.{FixedSink}

-- a fixed sink's room is what its bytes leave of `N`
abbrev pub fixed_sink_state : {N : ℕ} → FixedSink N → State
fixed_sink_state {N} s = bytes_only (take s.len s.held) (count (N - length (take s.len s.held))) is_full
