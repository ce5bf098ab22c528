-- One call of a sink, and its law.
use Rattle.std.specs.Prelude.{ℕ, ◌≡◌, List, [], ◌∷◌, ◌++◌, length, true, if◌then◌else◌, Result, is_ok, IsOk, IsErr, IfErr}
use Rattle.cax64_sink.specs.Room.{HasRoom, FallsBy}
use Rattle.cax64_sink.specs.Sink.{State}
use Rattle.cax64_sink.specs.declared.SinkError.{SinkError}
use Rattle.cax64_sink.specs.declared.TrapCode.{TrapCode}
use Rattle.cax64_sink.specs.declared.DeferredTarget.{DeferredTarget}
use Rattle.cax64_sink.specs.declared.Notice.{Notice}
use Rattle.cax64_sink.specs.declared.Notice.TheVariants.{Trap, Target}

-- what a sink is asked to do
pub data Action : Type 0 where
  put : List ℕ → Action
  trap : TrapCode → Action
  target : DeferredTarget → Action

-- the bytes that an action puts
abbrev pub bytes_of : Action → List ℕ
bytes_of (put bytes) = bytes
bytes_of (trap code) = []
bytes_of (target t) = []

-- the notice of an action after so many bytes
abbrev pub notice_of : Action → ℕ → List Notice
notice_of (put bytes) at = []
notice_of (trap code) at = Trap at code ∷ []
notice_of (target t) at = Target at t ∷ []

-- how many notices an action asks room for
abbrev pub notice_count_of : Action → ℕ
notice_count_of (put bytes) = 0
notice_count_of (trap code) = 1
notice_count_of (target t) = 1

-- one call of a sink, which answers r: a refused call adds nothing and lowers no room, and one with room for it isn't
-- refused
pub record Step (act : Action) (old new : State) (r : Result (Unit {0}) SinkError) : Type 0 where
  pub bytes : new.bytes ≡ (if is_ok r then old.bytes ++ bytes_of act else old.bytes)
  pub notices : new.notices ≡ (if is_ok r then (if old.records then old.notices ++ notice_of act (length old.bytes) else old.notices) else old.notices)
  pub records : new.records ≡ old.records
  pub offsets : new.offsets ≡ old.offsets
  pub answers : new.answers ≡ old.answers
  pub succeeds : HasRoom old.byte_room (length (bytes_of act)) → HasRoom old.notice_room (notice_count_of act) → IsOk r
  pub byte_room : FallsBy old.byte_room new.byte_room (length (bytes_of act))
  pub notice_room : FallsBy old.notice_room new.notice_room (notice_count_of act)
  pub refused_byte_room : IsErr r → FallsBy old.byte_room new.byte_room 0
  pub refused_notice_room : IsErr r → FallsBy old.notice_room new.notice_room 0
  pub error : IfErr r (λ e. old.answers e ≡ true)
