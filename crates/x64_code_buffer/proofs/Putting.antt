use Rattle.std.proofs.Common.{◌≡◌, ℕ, ◌+◌, ◌≤◌, arith, refl, ◌∙◌, ap, sym, subst, List, [], ◌++◌, append_assoc, append-nil, length-append, Bool, true, false, Option, Result, Ok, Err, length, take, drop}
use Rattle.std.proofs.lemmas.List.{length-take-le, take-append-le, take-take}
use Rattle.std.specs.Prelude.{if◌then◌else◌, is_ok, IsErr, IsOk, OnErr, OnOk}
use Rattle.cax64_sink.proofs.Rooms.{falls_by_none, less_room}
use Rattle.cax64_sink.specs.Call.{Action, Step, bytes_of, notice_of, put}
use Rattle.cax64_sink.specs.Room.{FallsBy, HasRoom, Room}
use Rattle.cax64_sink.specs.Sink.{State}
use Rattle.cax64_sink.specs.declared.Notice.{Notice}
use Rattle.cax64_sink.specs.declared.SinkError.{SinkError}
use Rattle.cax64_sink.specs.Keeps.{Keeps}
use Rattle.cax64_sink.specs.Recorder.{written_over}
use Rattle.cax64_sink.proofs.Patches.{length_written_over}
use Rattle.cax64_sink.specs.declared.DeferredTarget.{DeferredTarget}
use Rattle.x64_code_buffer.proofs.Filling.{falls_after_none, stays}
use Rattle.x64_code_buffer.specs.Buffer.{AsBefore}
use Rattle.x64_code_buffer.specs.Filled.{places_told}
use Rattle.x64_code_buffer.specs.Laid.{Laid, Piece}
use Rattle.x64_code_buffer.specs.Put.{PutsBytes}
use Rattle.x64_code_buffer.specs.Use.{uses_of}

-- Bytes that are put where there is room, one string behind the other.

pub puts_none : (s : State) → PutsBytes [] s s
puts_none s = record {
  bytes = sym (append-nil s.bytes);
  notices = refl;
  byte_room = falls_by_none s.byte_room;
  notice_room = falls_by_none s.notice_room;
  keeps = record { offsets = refl; records = refl; answers = refl };
}

falls_on : (r q p : Room) (m n : ℕ) → FallsBy r q m → FallsBy q p n → FallsBy r p (m + n)
falls_on r q p m n first second k h = second k (first (k + n) (less_room r (k + (m + n)) ((k + n) + m) (omega arith) h))

pub puts_on : (a b : List ℕ) (s u t : State) → PutsBytes a s u → PutsBytes b u t → PutsBytes (a ++ b) s t
puts_on a b s u t h k = record {
  bytes = k.bytes ∙ ap (λ (z : List ℕ). z ++ b) h.bytes ∙ append_assoc s.bytes a b;
  notices = k.notices ∙ h.notices;
  byte_room = subst (λ (n : ℕ). FallsBy s.byte_room t.byte_room n) (sym (length-append a b)) (falls_on s.byte_room u.byte_room t.byte_room (length a) (length b) h.byte_room k.byte_room);
  notice_room = falls_on s.notice_room u.notice_room t.notice_room 0 0 h.notice_room k.notice_room;
  keeps = record { offsets = k.keeps.offsets ∙ h.keeps.offsets; records = k.keeps.records ∙ h.keeps.records; answers = k.keeps.answers ∙ h.keeps.answers };
}

-- a room that is no smaller falls by no more than any number
pub falls_more : (r q : Room) (n : ℕ) → FallsBy r q 0 → FallsBy r q n
falls_more r q n h k room = h k (less_room r (k + n) (k + 0) (omega arith) room)

-- what is left of the room
pub room_left : (a : List ℕ) (s t : State) (n k : ℕ) → PutsBytes a s t → HasRoom s.byte_room n → k + length a ≤ n → HasRoom t.byte_room k
room_left a s t n k h room few = h.byte_room k (less_room s.byte_room n (k + length a) few room)

ok_bytes : (r : Result (Unit {0}) SinkError) (a b : List ℕ) → IsOk r → (if is_ok r then a ++ b else a) ≡ a ++ b
ok_bytes (Ok v) a b h = refl
ok_bytes (Err e) a b h = cc

no_notice : (r : Result (Unit {0}) SinkError) (records : Bool) (a : List Notice) → (if is_ok r then (if records then a ++ [] else a) else a) ≡ a
no_notice (Ok v) true a = append-nil a
no_notice (Ok v) false a = refl
no_notice (Err e) records a = refl

-- one call that puts some bytes
pub put_ok : (b : List ℕ) (s t : State) (r : Result (Unit {0}) SinkError) → HasRoom s.byte_room (length b) → HasRoom s.notice_room 0 → Step (put b) s t r → IsOk r
put_ok b s t r room told step = step.succeeds room told

pub put_once : (b : List ℕ) (s t : State) (r : Result (Unit {0}) SinkError) → IsOk r → Step (put b) s t r → PutsBytes b s t
put_once b s t r ok step = record {
  bytes = step.bytes ∙ ok_bytes r s.bytes b ok;
  notices = step.notices ∙ no_notice r s.records s.notices;
  byte_room = step.byte_room;
  notice_room = step.notice_room;
  keeps = record { offsets = step.offsets; records = step.records; answers = step.answers };
}

-- Bytes that are put once there is room for them.

pub puts_after : (added : List ℕ) (s u t : State) → AsBefore s u → Keeps s u → PutsBytes added u t → PutsBytes added s t
puts_after added s u t before keeps h = record {
  bytes = h.bytes ∙ ap (λ (z : List ℕ). z ++ added) before.bytes;
  notices = h.notices ∙ before.notices;
  byte_room = falls_after_none s.byte_room u.byte_room t.byte_room (length added) before.byte_room h.byte_room;
  notice_room = falls_after_none s.notice_room u.notice_room t.notice_room 0 before.notice_room h.notice_room;
  keeps = record { offsets = h.keeps.offsets ∙ keeps.offsets; records = h.keeps.records ∙ keeps.records; answers = h.keeps.answers ∙ keeps.answers };
}

pub stays_put : (added : List ℕ) (pieces : List Piece) (n : ℕ) (s t : State) (old new : DeferredTarget → Option ℕ) → PutsBytes added s t → ((target : DeferredTarget) → new target ≡ old target) → Laid pieces n s old → Laid pieces n t new
stays_put added pieces n s t old new h same laid = stays pieces n s t old new added h.bytes (ap (λ (z : List Notice). places_told (uses_of z)) h.notices) same laid

-- Bytes that are written over those behind what is laid out.

four_over : (bytes more : List ℕ) (at n : ℕ) → at + length more ≤ length bytes → n ≤ at → take n (written_over bytes at more) ≡ take n bytes
four_over bytes more at n within before =
    let front : List ℕ = take at bytes in
    let len : length front ≡ at = length-take-le at bytes (omega arith) in
    let grouped : length (front ++ more) ≡ length front + length more = length-append front more in
    take-append-le n (front ++ more) (drop (at + length more) bytes) (omega arith) ∙ take-append-le n front more (omega arith) ∙ take-take n at bytes before

pub stays_patched : (more : List ℕ) (at : ℕ) (pieces : List Piece) (n : ℕ) (s t : State) (places : DeferredTarget → Option ℕ) → at + length more ≤ length s.bytes → n ≤ at → t.bytes ≡ written_over s.bytes at more → t.notices ≡ s.notices → Laid pieces n s places → Laid pieces n t places
stays_patched more at pieces n s t places within before bytes notices h =
    let len : length t.bytes ≡ length s.bytes = ap length bytes ∙ length_written_over s.bytes at more within in
    let front : take n t.bytes ≡ take n s.bytes = ap (take n) bytes ∙ four_over s.bytes more at n within before in
    record {
      within = omega (arith, len, h.within);
      reads = rw front h.reads;
      opened = h.opened;
      told = ap (λ (z : List Notice). places_told (uses_of z)) notices ∙ h.told;
      bound = λ target place e. let b = h.bound target place e in (b.0, omega (arith, len, b.1));
    }

pub no_ok : {E : Type 0} (P : Type 0) (r : Result (Unit {0}) E) → IsErr r → OnOk r P
no_ok P (Ok v) h = cc
no_ok P (Err e) h = tt

-- A call that was refused.

pub if_err : {E : Type 0} (P : Type 0) (r : Result (Unit {0}) E) → ((e : E) → r ≡ Err e → P) → OnErr r P
if_err P (Ok v) h = tt
if_err P (Err e) h = h e refl

pub step_refused : (act : Action) (s t : State) (r : Result (Unit {0}) SinkError) (e : SinkError) → r ≡ Err e → Step act s t r → (t.bytes ≡ s.bytes) × (t.notices ≡ s.notices)
step_refused act s t r e is step = let f : Step act s t (Err e) = rw is at step in (f.bytes, f.notices)

-- and one that wasn't

pub if_ok_is : {E : Type 0} (P : Type 0) (r : Result (Unit {0}) E) → (r ≡ Ok tt → P) → OnOk r P
if_ok_is P (Ok tt) h = h refl
if_ok_is P (Err e) h = tt

pub step_taken : (act : Action) (s t : State) (r : Result (Unit {0}) SinkError) → r ≡ Ok tt → Step act s t r → (t.bytes ≡ s.bytes ++ bytes_of act) × (t.notices ≡ (if s.records then s.notices ++ notice_of act (length s.bytes) else s.notices))
step_taken act s t r is step = let f : Step act s t (Ok tt) = rw is at step in (f.bytes, f.notices)
