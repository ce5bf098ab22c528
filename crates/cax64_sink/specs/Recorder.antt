-- What a contract sees of a `Recorder`.
use Rattle.std.specs.Prelude.{ℕ, ℤ, Some, List, ◌++◌, ◌+◌, ◌-◌, ◌==◌, if◌then◌else◌, true, take, drop, length, vec_len, vec_capacity}
use Rattle.cax64_sink.specs.Known.{known_at}
use Rattle.cax64_sink.specs.Room.{count}
use Rattle.cax64_sink.specs.Sink.{State, is_no_memory}
use Rattle.cax64_sink.specs.declared.recorder.Recorder.{Recorder}

-- a recorder's rooms are the spare capacities of its two lists
abbrev pub recorder_state : {A : Type 0} → Recorder A → State
recorder_state r = record {
  bytes = r.code.items;
  notices = r.told.items;
  records = true;
  offsets = known_at r.known;
  byte_room = count (vec_capacity r.code - vec_len r.code);
  notice_room = count (vec_capacity r.told - vec_len r.told);
  answers = is_no_memory;
}

-- the state with one offset set
abbrev pub with_offset : ℕ → ℤ → State → State
with_offset key value s = record s { offsets = λ k. if k == key then Some value else s.offsets k }

-- the bytes with others written over them from a place on
abbrev pub written_over : List ℕ → ℕ → List ℕ → List ℕ
written_over bytes at more = take at bytes ++ more ++ drop (at + length more) bytes

-- the state with bytes written over those from a place on
abbrev pub with_patch : ℕ → List ℕ → State → State
with_patch at more s = record s { bytes = written_over s.bytes at more }
