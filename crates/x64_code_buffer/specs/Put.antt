-- Bytes that are put where there is room.
use Rattle.std.specs.Prelude.{◌≡◌, ℕ, List, ◌++◌, length}
use Rattle.cax64_sink.specs.Keeps.{Keeps}
use Rattle.cax64_sink.specs.Room.{FallsBy}
use Rattle.cax64_sink.specs.Sink.{State}

-- A sink has got these bytes, and no notice. Its room falls by their number at most.
pub record PutsBytes (added : List ℕ) (old new : State) : Type 0 where
  pub bytes : new.bytes ≡ old.bytes ++ added
  pub notices : new.notices ≡ old.notices
  pub byte_room : FallsBy old.byte_room new.byte_room (length added)
  pub notice_room : FallsBy old.notice_room new.notice_room 0
  pub keeps : Keeps old new
