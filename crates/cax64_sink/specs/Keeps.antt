-- What no call of a sink changes.
use Rattle.std.specs.Prelude.{◌≡◌}
use Rattle.cax64_sink.specs.Sink.{State}

-- offsets, whether the sink records, and its possible errors are as before
pub record Keeps (old new : State) : Type 0 where
  pub offsets : new.offsets ≡ old.offsets
  pub records : new.records ≡ old.records
  pub answers : new.answers ≡ old.answers
