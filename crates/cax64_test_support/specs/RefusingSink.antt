-- What a contract sees of a `RefusingSink`.
use Rattle.std.specs.Prelude.{ℕ}
use Rattle.cax64_sink.specs.Room.{count}
use Rattle.cax64_sink.specs.Sink.{State}
use Rattle.cax64_sink.specs.Recorder.{recorder_state}
use Rattle.cax64_test_support.specs.declared.refusing_sink.RefusingSink.{RefusingSink}

-- the recorder's state, with no room that is promised
abbrev pub refusing_state : {A : Type 0} → RefusingSink A → State
refusing_state s = record (recorder_state s.recorder) { byte_room = count 0; notice_room = count 0 }

-- how many more calls it lets pass
abbrev pub calls_left : {A : Type 0} → RefusingSink A → ℕ
calls_left s = s.calls
