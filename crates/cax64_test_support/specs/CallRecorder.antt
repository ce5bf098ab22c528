-- What a contract sees of a `CallRecorder`.
use Rattle.std.specs.Prelude.{ℕ, List, string_bytes}
use Rattle.cax64_sink.specs.Recorder.{recorder_state}
use Rattle.cax64_sink.specs.Room.{count}
use Rattle.cax64_sink.specs.Sink.{State}
use Rattle.cax64_test_support.specs.declared.call_recorder.CallRecorder.{CallRecorder}

-- the recorder's state, with no room that is promised
abbrev pub call_recorder_state : {A : Type 0} → CallRecorder A → State
call_recorder_state s = record (recorder_state s.recorder) { byte_room = count 0; notice_room = count 0 }

-- the names of its calls, with spaces between them
abbrev pub calls_of : {A : Type 0} → CallRecorder A → List ℕ
calls_of s = string_bytes s.calls
