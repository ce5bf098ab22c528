-- A run of calls of a sink, up to the first that is refused.
use Rattle.std.specs.Prelude.{ℕ, ◌+◌, ◌≡◌, List, [], ◌∷◌, ◌++◌, length, if◌then◌else◌, Result, Ok, Err, ◌⊎◌}
use Rattle.cax64_sink.specs.Call.{Action, Step, bytes_of, notice_of, notice_count_of}
use Rattle.cax64_sink.specs.Sink.{State}
use Rattle.cax64_sink.specs.declared.SinkError.{SinkError}
use Rattle.cax64_sink.specs.declared.Notice.{Notice}

-- states that a list of calls leads through, up to the first that is refused
unfoldable pub Went : List Action → State → State → Result (Unit {0}) SinkError → Type 0
Went [] s t r = (r ≡ Ok tt) × (s ≡ t)
Went (act ∷ acts) s t r = ((u : State) × Step act s u (Ok tt) × Went acts u t r) ⊎ ((e : SinkError) × (r ≡ Err e) × Step act s t (Err e))

-- a run of calls that stops at the first refusal
pub record Ran (acts : List Action) (old new : State) (r : Result (Unit {0}) SinkError) : Type 0 where
  pub went : Went acts old new r

-- all bytes of some actions
abbrev pub all_bytes : List Action → List ℕ
all_bytes [] = []
all_bytes (act ∷ acts) = bytes_of act ++ all_bytes acts

-- all notices of some actions after so many bytes
abbrev pub all_notices : List Action → ℕ → List Notice
all_notices [] at = []
all_notices (act ∷ acts) at = notice_of act at ++ all_notices acts (at + length (bytes_of act))

-- how many bytes some actions put
abbrev pub byte_total : List Action → ℕ
byte_total [] = 0
byte_total (act ∷ acts) = byte_total acts + length (bytes_of act)

-- how many notices some actions ask room for
abbrev pub notice_total : List Action → ℕ
notice_total [] = 0
notice_total (act ∷ acts) = notice_total acts + notice_count_of act

-- what a refused run leaves: bytes and notices of the calls that were done, and nothing of the one that was refused
pub record Refusal (acts : List Action) (old new : State) : Type 0 where
  pub done : List Action
  pub act : Action
  pub later : List Action
  pub parts : acts ≡ done ++ act ∷ later
  pub bytes : new.bytes ≡ old.bytes ++ all_bytes done
  pub notices : new.notices ≡ (if old.records then old.notices ++ all_notices done (length old.bytes) else old.notices)
