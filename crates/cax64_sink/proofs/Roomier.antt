use Rattle.std.proofs.Common.{◌≡◌, ℕ, ◌+◌, ◌≤◌, List, [], ◌∷◌, ◌++◌, length, Result, Ok, inl, inr, refl, sym, ◌∙◌, arith, subst}
use Rattle.cax64_sink.specs.Room.{Room, FallsBy}
use Rattle.cax64_sink.specs.Sink.{State}
use Rattle.cax64_sink.specs.Run.{Went, Ran}
use Rattle.cax64_sink.specs.Call.{Action, Step, bytes_of, notice_count_of}
use Rattle.cax64_sink.specs.Rest.{Roomier, RanRoomier}
use Rattle.cax64_sink.specs.declared.SinkError.{SinkError}
use Rattle.cax64_sink.proofs.Runs.{ran_append}
use Rattle.cax64_sink.proofs.Rooms.{falls_by_none, less_room}

-- rooms that stay are no smaller
pub roomier_same : (s : State) → Roomier s s
roomier_same s = record {
  bytes = refl;
  notices = refl;
  records = refl;
  offsets = refl;
  answers = refl;
  byte_room = falls_by_none s.byte_room;
  notice_room = falls_by_none s.notice_room;
}

-- a run is one after which the rooms are no smaller
pub ran_is_roomier : {acts : List Action} {s t : State} {r : Result (Unit {0}) SinkError} → Ran acts s t r → RanRoomier acts s t r
ran_is_roomier {t = t} h = record { between = t; ran = h; roomier = roomier_same t }

-- a run that succeeded, and what follows it
pub ran_roomier_after : {acts more : List Action} {s u t : State} {q r : Result (Unit {0}) SinkError} → Ran acts s u q → q ≡ Ok tt → RanRoomier more u t r → RanRoomier (acts ++ more) s t r
ran_roomier_after h e k = record { between = k.between; ran = ran_append h e k.ran; roomier = k.roomier }

-- a fall by so many, and then one by nothing
falls_then_none : (r q p : Room) (n : ℕ) → FallsBy r q n → FallsBy q p 0 → FallsBy r p n
falls_then_none r q p n first second k h = second k (less_room q k (k + 0) (omega arith) (first k h))

-- one call, after which the rooms are larger, is such a call itself
pub step_roomier : {act : Action} {s u t : State} {r : Result (Unit {0}) SinkError} → Step act s u r → Roomier u t → Step act s t r
step_roomier {act} {s} {u} {t} {r} h k = record {
  bytes = k.bytes ∙ h.bytes;
  notices = k.notices ∙ h.notices;
  records = k.records ∙ h.records;
  offsets = k.offsets ∙ h.offsets;
  answers = k.answers ∙ h.answers;
  succeeds = h.succeeds;
  byte_room = falls_then_none s.byte_room u.byte_room t.byte_room (length (bytes_of act)) h.byte_room k.byte_room;
  notice_room = falls_then_none s.notice_room u.notice_room t.notice_room (notice_count_of act) h.notice_room k.notice_room;
  refused_byte_room = λ bad. falls_then_none s.byte_room u.byte_room t.byte_room 0 (h.refused_byte_room bad) k.byte_room;
  refused_notice_room = λ bad. falls_then_none s.notice_room u.notice_room t.notice_room 0 (h.refused_notice_room bad) k.notice_room;
  error = h.error;
}

went_roomier : (act : Action) (acts : List Action) (s u t : State) (r : Result (Unit {0}) SinkError) → Went (act ∷ acts) s u r → Roomier u t → Went (act ∷ acts) s t r
unfolding Went
went_roomier act [] s u t r (inl (v, h, (ok, same))) k = inl (t, step_roomier h (subst (λ (x : State). Roomier x t) (sym same) k), (ok, refl))
went_roomier act (next ∷ acts) s u t r (inl (v, h, rest)) k = inl (v, h, went_roomier next acts v u t r rest k)
went_roomier act acts s u t r (inr (e, is, h)) k = inr (e, is, step_roomier h k)

-- the last call of some can have left the rooms so large
pub roomier_absorbed : (acts : List Action) {s t : State} {r : Result (Unit {0}) SinkError} → 1 ≤ length acts → RanRoomier acts s t r → Ran acts s t r
roomier_absorbed [] some h = let bad : ⊥ = omega (arith, some) in absurd bad
roomier_absorbed (act ∷ acts) {s} {t} {r} some h = record { went = went_roomier act acts s h.between t r h.ran.went h.roomier }
