use Rattle.std.proofs.Common.{◌≡◌, ℕ, ℤ, true, List, [], ◌∷◌, ◌++◌, Option, Result, Ok, Err, inl, inr, refl, sym, ap, append-nil, is_ok, if◌then◌else◌, arith}
use Rattle.cax64_sink.specs.Sink.{State}
use Rattle.cax64_sink.specs.Room.{Room, HasRoom, endless, count}
use Rattle.cax64_sink.specs.Run.{Went, Ran}
use Rattle.cax64_sink.specs.Call.{Action, put, trap, target, Step}
use Rattle.cax64_sink.specs.Puts.{puts}
use Rattle.cax64_sink.specs.Rest.{RanRoomier}
use Rattle.cax64_sink.specs.declared.SinkError.{SinkError}
use Rattle.cax64_sink.specs.declared.Notice.{Notice}
use Rattle.cax64_sink.proofs.Rooms.{falls_by_none}

-- a sink that records, whose bytes another one keeps
abbrev recorded : State → List Notice → (ℕ → Option ℤ) → Room → State
recorded s told known room = record s { notices = told; records = true; offsets = known; notice_room = room }

room_for_none : (room : Room) → HasRoom room 0
room_for_none endless = tt
room_for_none (count m) = omega arith

none_told : (told : List Notice) (r : Result (Unit {0}) SinkError) → told ≡ (if is_ok r then told ++ [] else told)
none_told told (Ok v) = sym (append-nil told)
none_told told (Err e) = refl

step_recorded : (bytes : List ℕ) (s t : State) (r : Result (Unit {0}) SinkError) (told : List Notice) (known : ℕ → Option ℤ) (room : Room) → Step (put bytes) s t r → Step (put bytes) (recorded s told known room) (recorded t told known room) r
step_recorded bytes s t r told known room h = record {
  bytes = h.bytes;
  notices = none_told told r;
  records = refl;
  offsets = refl;
  answers = h.answers;
  succeeds = λ fit _. h.succeeds fit (room_for_none s.notice_room);
  byte_room = h.byte_room;
  notice_room = falls_by_none room;
  refused_byte_room = h.refused_byte_room;
  refused_notice_room = λ _. falls_by_none room;
  error = h.error;
}

-- actions that put bytes alone
abbrev pub OnlyPuts : List Action → Type 0
OnlyPuts [] = Unit {0}
OnlyPuts (put bytes ∷ acts) = OnlyPuts acts
OnlyPuts (trap code ∷ acts) = ⊥
OnlyPuts (target place ∷ acts) = ⊥

pub only_puts : (bytes : List ℕ) → OnlyPuts (puts bytes)
only_puts [] = tt
only_puts (byte ∷ bytes) = only_puts bytes

pub only_puts_append : (acts more : List Action) → OnlyPuts acts → OnlyPuts more → OnlyPuts (acts ++ more)
only_puts_append [] more h k = k
only_puts_append (put bytes ∷ acts) more h k = only_puts_append acts more h k
only_puts_append (trap code ∷ acts) more h k = absurd h
only_puts_append (target place ∷ acts) more h k = absurd h

went_recorded : (acts : List Action) (s t : State) (r : Result (Unit {0}) SinkError) (told : List Notice) (known : ℕ → Option ℤ) (room : Room) → OnlyPuts acts → Went acts s t r → Went acts (recorded s told known room) (recorded t told known room) r
unfolding Went
went_recorded [] s t r told known room only (ok, same) = (ok, ap (λ (x : State). recorded x told known room) same)
went_recorded (put bytes ∷ acts) s t r told known room only (inl (u, h, rest)) = inl (recorded u told known room, step_recorded bytes s u (Ok tt) told known room h, went_recorded acts u t r told known room only rest)
went_recorded (put bytes ∷ acts) s t r told known room only (inr (e, is, h)) = inr (e, is, step_recorded bytes s t (Err e) told known room h)
went_recorded (trap code ∷ acts) s t r told known room only h = absurd only
went_recorded (target place ∷ acts) s t r told known room only h = absurd only

-- bytes that are put where another sink keeps them
pub ran_recorded : {acts : List Action} {s t : State} {r : Result (Unit {0}) SinkError} (told : List Notice) (known : ℕ → Option ℤ) (room : Room) → OnlyPuts acts → Ran acts s t r → Ran acts (recorded s told known room) (recorded t told known room) r
ran_recorded {acts} {s} {t} {r} told known room only h = record { went = went_recorded acts s t r told known room only h.went }

-- the same of bytes that are put one by one
pub puts_recorded : (bytes : List ℕ) {s t : State} {r : Result (Unit {0}) SinkError} (told : List Notice) (known : ℕ → Option ℤ) (room : Room) → Ran (puts bytes) s t r → Ran (puts bytes) (recorded s told known room) (recorded t told known room) r
puts_recorded bytes told known room h = ran_recorded told known room (only_puts bytes) h

-- the same where the other one's room may be larger
pub roomier_recorded : {acts : List Action} {s t : State} {r : Result (Unit {0}) SinkError} (told : List Notice) (known : ℕ → Option ℤ) (room : Room) → OnlyPuts acts → RanRoomier acts s t r → RanRoomier acts (recorded s told known room) (recorded t told known room) r
roomier_recorded told known room only h = record {
  between = recorded h.between told known room;
  ran = ran_recorded told known room only h.ran;
  roomier = record {
    bytes = h.roomier.bytes;
    notices = refl;
    records = refl;
    offsets = refl;
    answers = h.roomier.answers;
    byte_room = h.roomier.byte_room;
    notice_room = falls_by_none room;
  };
}
