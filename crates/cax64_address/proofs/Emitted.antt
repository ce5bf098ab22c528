use Rattle.std.proofs.Common.{◌≡◌, ◌≢◌, ℕ, ◌+◌, ◌^◌, ◌<◌, ◌≤◌, arith, refl, ◌∙◌, ap, sym, subst, List, [], ◌∷◌, ◌++◌, ℤ, pos, Some, Bool, true, length, length-append, append-nil, Result, Ok, Err}
use Rattle.std.specs.Prelude.{◌↔◌, ◌-◌, if◌then◌else◌, OnOk, OnErr, IfErr, IsOk, Option, ◌+ℤ◌, ◌-ℤ◌, slice_index}
use Rattle.std.proofs.lemmas.Int.{ints}
use Rattle.std.proofs.lemmas.List.{append_cancel_left}
use Rattle.cax64_machine_code.specs.Fields.{IsBytes}
use Rattle.cax64_machine_code.specs.Address.{address_of}
use Rattle.cax64_machine_code.specs.Tail.{Tail, read_tail}
use Rattle.cax64_machine_code.specs.declared.reading.Place.{Place}
use Rattle.cax64_sink.specs.Room.{HasRoom, FallsBy}
use Rattle.cax64_sink.specs.Sink.{State}
use Rattle.cax64_sink.specs.Run.{Ran, all_bytes, all_notices, byte_total, notice_total}
use Rattle.cax64_sink.specs.Call.{Action}
use Rattle.cax64_sink.specs.declared.SinkError.{SinkError}
use Rattle.cax64_sink.specs.declared.Notice.{Notice}
use Rattle.cax64_sink.proofs.Runs.{ran_bytes, ran_notices, ran_error}
use Rattle.cax64_sink.proofs.Refusals.{ran_refusal}
use Rattle.cax64_sink.specs.FixedSink.{fixed_sink_state}
use Rattle.cax64_sink.specs.declared.fixed_sink.FixedSink.{FixedSink}
use Rattle.cax64_sink.proofs.Rooms.{bytes_fit, less_room, ran_succeeds, ran_byte_room, ran_notice_room, size_is_length, notes_is_length}
use Rattle.cax64_sink.proofs.Ends.{refused_bytes, refused_notices}
use Rattle.cax64_address.specs.Address.{target_notices, target_count, place_of, scale_number}
use Rattle.cax64_address.specs.declared.amode.Amode.{Amode}
use Rattle.cax64_address.specs.declared.amode.Amode.TheVariants.{ImmReg, ImmRegRegShift, RipRelative}
use Rattle.cax64_address.specs.declared.amode.Scale.{Scale}
use Rattle.cax64_address.specs.declared.amode.Scale.TheVariants.{One, Two, Four, Eight}
use Rattle.cax64_address.specs.Effective.{effective_address, scale_factor}
use Rattle.cax64_address.specs.Emitted.{PutsTail}
use Rattle.cax64_address.specs.OperandTail.{TailMeant, IsTailMeant, tail_length, AddsTail, FitsTail, LeavesTail, ReadsAddress}

told_same : (records : Bool) (old a b : List Notice) → a ≡ b → (if records then old ++ a else old) ≡ (if records then old ++ b else old)
told_same records old a b e = rw e refl

-- a run of a tail's actions that succeeded
pub run_adds : {m : TailMeant} {acts : List Action} {s t : State} (r : Result (Unit {0}) SinkError) → PutsTail m acts → IsBytes (all_bytes acts) → length (all_bytes acts) ≡ tail_length m → Ran acts s t r → OnOk r (AddsTail m s t)
run_adds {acts = acts} {s} {t} (Ok tt) h are count run = record {
  added = all_bytes acts;
  bytes = ran_bytes run refl;
  are_bytes = are;
  tail = h.tail;
  shortest = h.shortest;
  notices = ran_notices run refl ∙ told_same s.records s.notices _ _ (h.notices (length s.bytes));
  length = count;
}
run_adds (Err e) h are count run = tt

not_empty : {A : Type 0} (xs : List A) → 0 < length xs → xs ≢ []
not_empty [] h e = omega arith
not_empty (x ∷ xs) h e = cc

-- a run of a tail's actions that was refused
pub run_leaves : {m : TailMeant} {acts : List Action} {s t : State} (r : Result (Unit {0}) SinkError) → PutsTail m acts → IsBytes (all_bytes acts) → Ran acts s t r → OnErr r (LeavesTail m s t)
run_leaves (Ok tt) h are run = tt
run_leaves {acts = acts} {s} {t} (Err e) h are run =
    let left = ran_refusal run refl in
    let part = refused_bytes left h.ends in
    let told_part = refused_notices left (length s.bytes) in
    record {
      left = all_bytes left.done;
      whole = all_bytes acts;
      bytes = left.bytes;
      are_bytes = are;
      tail = h.tail;
      shortest = h.shortest;
      front = record { rest = part.0; whole = part.1; proper = not_empty part.0 part.2 };
      told_left = all_notices left.done (length s.bytes);
      told_later = told_part.0;
      notices = left.notices;
      notices_front = told_part.1 ∙ h.notices (length s.bytes);
    }

pub run_error : {acts : List Action} {s t : State} (r : Result (Unit {0}) SinkError) → Ran acts s t r → IfErr r (λ e. s.answers e ≡ true)
run_error (Ok tt) run = tt
run_error (Err e) run = ran_error run refl

-- an operand's notices are as many as are asked for
pub count_is : {R : Type 0} (amode : Amode R) (at : ℕ) → length (target_notices amode at) ≡ target_count amode
count_is (ImmReg base simm32 trap) at = refl
count_is (ImmRegRegShift base index scale simm32 trap) at = refl
count_is (RipRelative target) at = refl

one_at_most : {R : Type 0} (amode : Amode R) → target_count amode ≤ 1
one_at_most (ImmReg base simm32 trap) = omega arith
one_at_most (ImmRegRegShift base index scale simm32 trap) = omega arith
one_at_most (RipRelative target) = omega arith

-- a run asks for the room of its tail
size_is : (m : TailMeant) (acts : List Action) → length (all_bytes acts) ≡ tail_length m → byte_total acts ≡ tail_length m
size_is m acts count = size_is_length acts ∙ count

notes_are : {R : Type 0} (m : TailMeant) (acts : List Action) (amode : Amode R) → m.told ≡ target_notices amode → PutsTail m acts → notice_total acts ≡ target_count amode
notes_are m acts amode told h = notes_is_length acts 0 ∙ ap length (h.notices 0) ∙ ap (λ (f : ℕ → List Notice). length (f 0)) told ∙ count_is amode 0

pub run_room : {R : Type 0} {m : TailMeant} {acts : List Action} {s t : State} {r : Result (Unit {0}) SinkError} (amode : Amode R) → m.told ≡ target_notices amode → PutsTail m acts → length (all_bytes acts) ≡ tail_length m → Ran acts s t r → HasRoom s.byte_room (tail_length m) → HasRoom s.notice_room (target_count amode) → IsOk r
run_room {m = m} {acts = acts} amode told h count run bytes notices = ran_succeeds run (rw (size_is m acts count) bytes) (rw (notes_are m acts amode told h) notices)

-- room for six bytes and a notice is enough
pub run_enough : {R : Type 0} {m : TailMeant} {acts : List Action} {s t : State} {r : Result (Unit {0}) SinkError} (amode : Amode R) → m.told ≡ target_notices amode → PutsTail m acts → Ran acts s t r → HasRoom s.byte_room 6 → HasRoom s.notice_room 1 → IsOk r
run_enough {m = m} {acts = acts} {s = s} amode told h run bytes notices =
    let small : byte_total acts ≤ 6 = omega (arith, size_is_length acts, h.most) in
    let few : notice_total acts ≤ 1 = omega (arith, notes_are m acts amode told h, one_at_most amode) in
    ran_succeeds run (less_room s.byte_room 6 (byte_total acts) small bytes) (less_room s.notice_room 1 (notice_total acts) few notices)

pub run_byte_room : (m : TailMeant) {acts : List Action} {s t : State} {r : Result (Unit {0}) SinkError} → length (all_bytes acts) ≡ tail_length m → Ran acts s t r → FallsBy s.byte_room t.byte_room (tail_length m)
run_byte_room m {acts = acts} {s = s} {t = t} count run = subst (λ (n : ℕ). FallsBy s.byte_room t.byte_room n) (size_is m acts count) (ran_byte_room run)

pub run_notice_room : {R : Type 0} {m : TailMeant} {acts : List Action} {s t : State} {r : Result (Unit {0}) SinkError} (amode : Amode R) → m.told ≡ target_notices amode → PutsTail m acts → Ran acts s t r → FallsBy s.notice_room t.notice_room (target_count amode)
run_notice_room {m = m} {acts = acts} {s = s} {t = t} amode told h run = subst (λ (n : ℕ). FallsBy s.notice_room t.notice_room n) (notes_are m acts amode told h) (ran_notice_room run)

pub length_most : {m : TailMeant} {acts : List Action} → PutsTail m acts → length (all_bytes acts) ≡ tail_length m → tail_length m ≤ 6
length_most h count = subst (λ (n : ℕ). n ≤ 6) count h.most

-- a string that reads the same is no shorter than the tail
pub length_least : {m : TailMeant} {acts : List Action} → PutsTail m acts → length (all_bytes acts) ≡ tail_length m → (u : List ℕ) → IsBytes u → IsTailMeant m u → tail_length m ≤ length u
length_least h count u hb hu =
    let read = hu.reads [] in
    subst (λ (n : ℕ). n ≤ length u) count (h.shortest.least u hb (rw append-nil at read))

-- what a run of a tail's actions has put
put_by_run : {acts : List Action} {s t : State} → Ran acts s t (Ok tt) → (added : List ℕ) → t.bytes ≡ s.bytes ++ added → all_bytes acts ≡ added
put_by_run {acts} {s} {t} run added e = append_cancel_left s.bytes (all_bytes acts) added (sym (ran_bytes run refl) ∙ e)

factor_is : (scale : Scale) → 2 ^ scale_number scale ≡ scale_factor scale
factor_is One = refl
factor_is Two = refl
factor_is Four = refl
factor_is Eight = refl

and_none : (n : ℕ) → n + 0 ≡ n
and_none n = omega arith

from_end : (end at_end : ℕ) → (pos end +ℤ (pos 0 -ℤ pos at_end)) ≡ (pos end -ℤ pos at_end)
from_end end at_end = omega (arith, ints)

-- the address of the place that an operand names is the operand's
place_address : {R : Type 0} (enc : R → ℕ) (offsets : ℕ → Option ℤ) (at_end : ℕ) (amode : Amode R) (regs : List ℕ) (end : ℕ) → address_of (place_of enc offsets at_end amode) regs end ≡ Some (effective_address enc offsets at_end amode regs end)
place_address enc offsets at_end (ImmReg base simm32 trap) regs end = rw (and_none (slice_index regs (enc base))) refl
place_address enc offsets at_end (ImmRegRegShift base index scale simm32 trap) regs end = rw (factor_is scale) refl
place_address enc offsets at_end (RipRelative target) regs end = rw (from_end end at_end) refl

some_tail : (a b : Tail) → ◌≡◌ {A = Option Tail} (Some a) (Some b) → a ≡ b
some_tail a b e = cc

pub run_address : {R : Type 0} {m : TailMeant} {acts : List Action} {s t : State} (enc : R → ℕ) (offsets : ℕ → Option ℤ) (at_end : ℕ) (amode : Amode R) (r : Result (Unit {0}) SinkError) → m.place ≡ place_of enc offsets at_end amode → PutsTail m acts → Ran acts s t r → OnOk r (ReadsAddress m (effective_address enc offsets at_end amode) s t)
run_address {m = m} {acts = acts} enc offsets at_end amode (Ok tt) is h run = record {
  names = λ added rest tail e read regs end.
      let put_all : all_bytes acts ≡ added = put_by_run run added e in
      let whole : read_tail m.x m.b m.factor (added ++ rest) ≡ Some (record { reg = m.reg; place = m.place; rest = rest }) = rw put_all at h.tail.reads rest in
      let same : place_of enc offsets at_end amode ≡ tail.place = sym is ∙ ap (λ (z : Tail). z.place) (some_tail _ _ (sym whole ∙ read)) in
      subst (λ (p : Place). address_of p regs end ≡ Some (effective_address enc offsets at_end amode regs end)) same (place_address enc offsets at_end amode regs end);
}
run_address enc offsets at_end amode (Err e) is h run = tt

-- over a fixed sink a call with these clauses succeeds exactly where some tail fits
pub fixed_fits : {N : ℕ} {m : TailMeant} (s t : FixedSink N) (r : Result (Unit {0}) SinkError) → OnOk r (AddsTail m (fixed_sink_state s) (fixed_sink_state t)) → ((u : List ℕ) → IsBytes u → IsTailMeant m u → length u ≤ N - length (fixed_sink_state s).bytes → IsOk r) → IsOk r ↔ FitsTail m (N - length (fixed_sink_state s).bytes)
fixed_fits {N = N} s t (Ok tt) adds room = (
  λ _.
      let sum : length (fixed_sink_state t).bytes ≡ length (fixed_sink_state s).bytes + length adds.added = ap length adds.bytes ∙ length-append (fixed_sink_state s).bytes adds.added in
      let within : length (fixed_sink_state t).bytes ≤ N = bytes_fit t in
      record { whole = adds.added; are_bytes = adds.are_bytes; tail = adds.tail; fits = omega arith },
  λ h. refl,
)
fixed_fits {N = N} s t (Err e) adds room = (λ (bad : IsOk {T = Unit {0}} (Err e)). cc, λ h. room h.whole h.are_bytes h.tail h.fits)

-- room for any tail is room for the least
pub room_for_any : (room least : ℕ) → (u : List ℕ) → least ≤ length u → length u ≤ room → least ≤ room
room_for_any room least u h fit = omega arith
