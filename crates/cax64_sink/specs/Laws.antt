-- What follows for each run of calls, from the law of one call.
use Rattle.std.specs.Prelude.{ℕ, ◌-◌, ◌≤◌, ◌≡◌, List, ◌++◌, length, true, if◌then◌else◌, Result, Ok, Err, IsOk, ◌↔◌}
use Rattle.cax64_sink.specs.Keeps.{Keeps}
use Rattle.cax64_sink.specs.Room.{HasRoom, FallsBy}
use Rattle.cax64_sink.specs.Sink.{State, is_no_memory, is_full}
use Rattle.cax64_sink.specs.Run.{Ran, Refusal, all_bytes, all_notices, byte_total, notice_total}
use Rattle.cax64_sink.specs.Call.{Action}
use Rattle.cax64_sink.specs.FixedSink.{fixed_sink_state}
use Rattle.cax64_sink.specs.declared.SinkError.{SinkError}
use Rattle.cax64_sink.specs.declared.SinkError.TheVariants.{NoMemory, Full}
use Rattle.cax64_sink.specs.declared.fixed_sink.FixedSink.{FixedSink}

-- a law of each run, of its calls, the states before and after it, and its answer
abbrev pub EachRun : (List Action → State → State → Result (Unit {0}) SinkError → Type 0) → Type 0
EachRun Law = (acts : List Action) (s t : State) (r : Result (Unit {0}) SinkError) → Ran acts s t r → Law acts s t r

-- after an Ok the old bytes and then those of all calls, in order
abbrev pub RunsAddBytes : Type 0
RunsAddBytes = EachRun (λ acts s t r. r ≡ Ok tt → t.bytes ≡ s.bytes ++ all_bytes acts)

-- after an Ok the old notices and then, in a recording sink, those of all calls, each at its place
abbrev pub RunsAddNotices : Type 0
RunsAddNotices = EachRun (λ acts s t r. r ≡ Ok tt → t.notices ≡ (if s.records then s.notices ++ all_notices acts (length s.bytes) else s.notices))

-- after a refusal bytes and notices of the calls before the refused one
abbrev pub RefusedRunsLeave : Type 0
RefusedRunsLeave = EachRun (λ acts s t r. (e : SinkError) → r ≡ Err e → Refusal acts s t)

-- a refusal's error is one that the sink can answer
abbrev pub RunsAnswerErrors : Type 0
RunsAnswerErrors = EachRun (λ acts s t r. (e : SinkError) → r ≡ Err e → s.answers e ≡ true)

-- a sink that can answer `NoMemory` alone, as a vector or a recorder, does so
abbrev pub RunsAnswerNoMemory : Type 0
RunsAnswerNoMemory = EachRun (λ acts s t r. (e : SinkError) → s.answers ≡ is_no_memory → r ≡ Err e → e ≡ NoMemory)

-- a sink that can answer `Full` alone, as a fixed sink, does so
abbrev pub RunsAnswerFull : Type 0
RunsAnswerFull = EachRun (λ acts s t r. (e : SinkError) → s.answers ≡ is_full → r ≡ Err e → e ≡ Full)

-- offsets, whether the sink records, and its possible errors stay, whatever a run answers
abbrev pub RunsKeep : Type 0
RunsKeep = EachRun (λ acts s t r. Keeps s t)

-- a run succeeds where there is room for all of it
abbrev pub RunsWithRoomSucceed : Type 0
RunsWithRoomSucceed = EachRun (λ acts s t r. HasRoom s.byte_room (byte_total acts) → HasRoom s.notice_room (notice_total acts) → IsOk r)

-- a run lowers the rooms by no more than what it asks for
abbrev pub RunsLowerRooms : Type 0
RunsLowerRooms = EachRun (λ acts s t r. FallsBy s.byte_room t.byte_room (byte_total acts) × FallsBy s.notice_room t.notice_room (notice_total acts))

-- a fixed sink never holds more than its size
abbrev pub FixedSinksHold : ℕ → Type 0
FixedSinksHold N = (s : FixedSink N) → length (fixed_sink_state s).bytes ≤ N

-- a fixed sink takes a run exactly where its bytes fit in what is left
abbrev pub FixedSinksTake : ℕ → Type 0
FixedSinksTake N = (acts : List Action) (s t : FixedSink N) (r : Result (Unit {0}) SinkError) → Ran acts (fixed_sink_state s) (fixed_sink_state t) r → IsOk r ↔ (byte_total acts ≤ N - length (fixed_sink_state s).bytes)
