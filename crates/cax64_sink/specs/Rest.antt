-- What stands at the end of an instruction: a displacement of four bytes and an immediate.
use Rattle.std.specs.Prelude.{◌≡◌, ℕ, ◌==◌, ◌%◌, ◌^◌, Bool, ◌||◌, if◌then◌else◌, Option, Some, None, Result, List, [], ◌∷◌, ◌++◌}
use Rattle.std.specs.Int.{to_le_bytes, w16, w32}
use Rattle.cax64_sink.specs.Room.{FallsBy}
use Rattle.cax64_sink.specs.Sink.{State}
use Rattle.cax64_sink.specs.Call.{Action, put}
use Rattle.cax64_sink.specs.Run.{Ran}
use Rattle.cax64_sink.specs.declared.SinkError.{SinkError}

-- one put of a displacement of four bytes, if there is one
abbrev pub long_actions : Option ℕ → List Action
long_actions None = []
long_actions (Some word) = put (to_le_bytes w32 word) ∷ []

-- how many bytes an immediate may have
abbrev pub is_imm_len : ℕ → Bool
is_imm_len len = len == 0 || (len == 1 || (len == 2 || len == 4))

-- one put of so many lowest bytes of a word
abbrev pub word_actions : ℕ → ℕ → List Action
word_actions len word = if len == 1 then put (word % 2 ^ 8 ∷ []) ∷ [] else (if len == 2 then put (to_le_bytes w16 (word % 2 ^ 16)) ∷ [] else (if len == 4 then put (to_le_bytes w32 word) ∷ [] else []))

-- a displacement of four bytes, if there is one, and then so many lowest bytes of a word
abbrev pub rest_actions : Option ℕ → ℕ → ℕ → List Action
rest_actions long len word = long_actions long ++ word_actions len word

-- the same sink with rooms that are no smaller
pub record Roomier (s t : State) : Type 0 where
  pub bytes : t.bytes ≡ s.bytes
  pub notices : t.notices ≡ s.notices
  pub records : t.records ≡ s.records
  pub offsets : t.offsets ≡ s.offsets
  pub answers : t.answers ≡ s.answers
  pub byte_room : FallsBy s.byte_room t.byte_room 0
  pub notice_room : FallsBy s.notice_room t.notice_room 0

-- a run of calls, after which the rooms may be larger than the calls would leave them
pub record RanRoomier (acts : List Action) (old new : State) (r : Result (Unit {0}) SinkError) : Type 0 where
  pub between : State
  pub ran : Ran acts old between r
  pub roomier : Roomier between new
