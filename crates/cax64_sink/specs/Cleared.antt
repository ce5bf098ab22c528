-- A sink that was emptied, or lost its notices.
use Rattle.std.specs.Prelude.{ℕ, ◌+◌, [], length}
use Rattle.cax64_sink.specs.Room.{Room, endless, count}
use Rattle.cax64_sink.specs.Sink.{State}

-- a room with so many more
abbrev pub more_room : Room → ℕ → Room
more_room endless n = endless
more_room (count m) n = count (m + n)

-- the state without bytes and notices, whose places are room again
abbrev pub cleared : State → State
cleared s = record s {
  bytes = [];
  notices = [];
  byte_room = more_room s.byte_room (length s.bytes);
  notice_room = more_room s.notice_room (length s.notices);
}

-- the state without notices, whose places are room again
abbrev pub without_notices : State → State
without_notices s = record s {
  notices = [];
  notice_room = more_room s.notice_room (length s.notices);
}
