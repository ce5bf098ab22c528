-- What a contract sees of a sink.
use Rattle.std.specs.Prelude.{ℕ, ℤ, None, Option, List, [], Bool, true, false}
use Rattle.cax64_sink.specs.Room.{Room, endless}
use Rattle.cax64_sink.specs.declared.SinkError.{SinkError}
use Rattle.cax64_sink.specs.declared.SinkError.TheVariants.{NoMemory, Full}
use Rattle.cax64_sink.specs.declared.Notice.{Notice}

pub record State : Type 0 where
  pub bytes : List ℕ
  pub notices : List Notice
  pub records : Bool
  pub offsets : ℕ → Option ℤ
  pub byte_room : Room
  pub notice_room : Room
  pub answers : SinkError → Bool

-- a sink that keeps bytes alone: it never refuses a notice, and knows no offset
abbrev pub bytes_only : List ℕ → Room → (SinkError → Bool) → State
bytes_only held room errors = record {
  bytes = held;
  notices = [];
  records = false;
  offsets = λ _. None;
  byte_room = room;
  notice_room = endless;
  answers = errors;
}

-- the errors of a sink that is refused memory alone
abbrev pub is_no_memory : SinkError → Bool
is_no_memory NoMemory = true
is_no_memory Full = false

-- the errors of a sink that is full alone
abbrev pub is_full : SinkError → Bool
is_full NoMemory = false
is_full Full = true
