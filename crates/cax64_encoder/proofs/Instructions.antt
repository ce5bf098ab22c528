use Rattle.std.proofs.Common.{◌≡◌, ◌≢◌, ◌↔◌, ℕ, ◌+◌, ◌-◌, ◌<◌, ◌≤◌, arith, length-append, refl, ◌∙◌, ap, sym, List, [], ◌∷◌, ◌++◌, Bool, true, length, Result, Ok, Err, Option, Some, None}
use Rattle.std.specs.Prelude.{if◌then◌else◌, OnOk, OnErr, IfErr, IsOk}
use Rattle.cax64_machine_code.specs.Sequence.{IsFront}
use Rattle.cax64_machine_code.specs.declared.reading.Reading.{Reading}
use Rattle.cax64_sink.specs.FixedSink.{fixed_sink_state}
use Rattle.cax64_sink.specs.Keeps.{Keeps}
use Rattle.cax64_sink.specs.Room.{HasRoom, FallsBy}
use Rattle.cax64_sink.specs.Sink.{State}
use Rattle.cax64_sink.specs.Run.{Ran, all_bytes, all_notices, byte_total, notice_total}
use Rattle.cax64_sink.specs.Call.{Action}
use Rattle.cax64_sink.specs.declared.SinkError.{SinkError}
use Rattle.cax64_sink.specs.declared.fixed_sink.FixedSink.{FixedSink}
use Rattle.cax64_sink.specs.declared.Notice.{Notice}
use Rattle.cax64_sink.proofs.Runs.{ran_bytes, ran_notices, ran_error}
use Rattle.cax64_sink.proofs.Refusals.{ran_refusal}
use Rattle.cax64_sink.proofs.Rooms.{less_room, ran_succeeds, ran_byte_room, ran_notice_room, size_is_length, notes_is_length, bytes_fit}
use Rattle.cax64_sink.proofs.Ends.{ran_keeps, refused_bytes, refused_notices}
use Rattle.cax64_address.specs.declared.amode.Amode.{Amode}
use Rattle.cax64_address.specs.declared.amode.Amode.TheVariants.{ImmReg, ImmRegRegShift, RipRelative}
use Rattle.cax64_encoder.specs.Encodes.{EncodesAs}
use Rattle.cax64_encoder.specs.Instruction.{AddsInstruction, LeavesInstruction}
use Rattle.cax64_encoder.specs.Meant.{Meant, len}
use Rattle.cax64_encoder.specs.Notices.{notices_of, memory_notices, notice_count}
use Rattle.cax64_encoder.specs.Task.{Writes}

pub told_same : (records : Bool) (old a b : List Notice) → a ≡ b → (if records then old ++ a else old) ≡ (if records then old ++ b else old)
told_same records old a b e = rw e refl

-- a run of an instruction's actions that succeeded
pub run_adds : {M : Type 0} {m : Meant M} {acts : List Action} {s t : State} (r : Result (Unit {0}) SinkError) → EncodesAs m acts → Ran acts s t r → OnOk r (AddsInstruction m s t)
run_adds {acts = acts} {s} {t} (Ok tt) h run = record {
  added = all_bytes acts;
  bytes = ran_bytes run refl;
  are_bytes = h.written.are_bytes;
  reads = h.written.reads;
  notices = ran_notices run refl ∙ told_same s.records s.notices _ _ (h.written.notices (length s.bytes));
  shortest = h.written.shortest;
  length = h.length;
  exact = h.exact;
}
run_adds (Err e) h run = tt

pub not_empty : {A : Type 0} (xs : List A) → 0 < length xs → xs ≢ []
not_empty [] h e = omega arith
not_empty (x ∷ xs) h e = cc

-- a run of an instruction's actions that was refused
pub run_leaves : {M : Type 0} {m : Meant M} {acts : List Action} {s t : State} (r : Result (Unit {0}) SinkError) → EncodesAs m acts → Ran acts s t r → OnErr r (LeavesInstruction m s t)
run_leaves (Ok tt) h run = tt
run_leaves {acts = acts} {s} {t} (Err e) h run =
    let left = ran_refusal run refl in
    let part = refused_bytes left h.written.ends in
    let told_part = refused_notices left (length s.bytes) in
    record {
      left = all_bytes left.done;
      whole = all_bytes acts;
      bytes = left.bytes;
      are_bytes = h.written.are_bytes;
      reads = h.written.reads;
      shortest = h.written.shortest;
      length = h.length;
      exact = h.exact;
      front = record { rest = part.0; whole = part.1; proper = not_empty part.0 part.2 };
      told_left = all_notices left.done (length s.bytes);
      told_later = told_part.0;
      notices = left.notices;
      notices_front = told_part.1 ∙ h.written.notices (length s.bytes);
    }

-- the old bytes stay in front
pub stays_in_front : {M : Type 0} (m : Meant M) (s t : State) (r : Result (Unit {0}) SinkError) → OnOk r (AddsInstruction m s t) → OnErr r (LeavesInstruction m s t) → IsFront s.bytes t.bytes
stays_in_front m s t (Ok tt) adds leaves = record { rest = adds.added; whole = sym adds.bytes }
stays_in_front m s t (Err e) adds leaves = record { rest = leaves.left; whole = sym leaves.bytes }

pub run_error : {acts : List Action} {s t : State} (r : Result (Unit {0}) SinkError) → Ran acts s t r → IfErr r (λ e. s.answers e ≡ true)
run_error (Ok tt) run = tt
run_error (Err e) run = ran_error run refl

notices_counted : {M : Type 0} (memory : Option (Amode M)) (at : ℕ) (read : Reading) → length (notices_of memory at read) ≡ memory_notices memory
notices_counted None at read = refl
notices_counted (Some (ImmReg base simm32 None)) at read = refl
notices_counted (Some (ImmReg base simm32 (Some code))) at read = refl
notices_counted (Some (ImmRegRegShift base index scale simm32 None)) at read = refl
notices_counted (Some (ImmRegRegShift base index scale simm32 (Some code))) at read = refl
notices_counted (Some (RipRelative target)) at read = refl

-- an instruction has one notice at most
pub one_notice : {M : Type 0} (memory : Option (Amode M)) → memory_notices memory ≤ 1
one_notice None = omega arith
one_notice (Some (ImmReg base simm32 None)) = omega arith
one_notice (Some (ImmReg base simm32 (Some code))) = omega arith
one_notice (Some (ImmRegRegShift base index scale simm32 None)) = omega arith
one_notice (Some (ImmRegRegShift base index scale simm32 (Some code))) = omega arith
one_notice (Some (RipRelative target)) = omega arith

bytes_are : {M : Type 0} {m : Meant M} {acts : List Action} → EncodesAs m acts → byte_total acts ≡ len m
bytes_are {acts = acts} h = size_is_length acts ∙ h.length

notices_are : {M : Type 0} {m : Meant M} {acts : List Action} → EncodesAs m acts → notice_total acts ≡ notice_count m
notices_are {m = m} {acts} h = notes_is_length acts 0 ∙ ap length (h.written.notices 0) ∙ notices_counted m.memory 0 h.written.reads.reading

-- an instruction has one byte at least, and thirteen at most
pub len_least : {M : Type 0} {m : Meant M} {acts : List Action} → EncodesAs m acts → 1 ≤ len m
len_least h = omega (arith, h.length, h.written.reads.length, h.written.reads.least)

pub len_most : {M : Type 0} {m : Meant M} {acts : List Action} → EncodesAs m acts → len m ≤ 13
len_most h = omega (arith, h.length, h.written.reads.length, h.written.reads.most)

-- room for its bytes and its notices is enough
pub run_room : {M : Type 0} {m : Meant M} {acts : List Action} {s t : State} {r : Result (Unit {0}) SinkError} → EncodesAs m acts → Ran acts s t r → HasRoom s.byte_room (len m) → HasRoom s.notice_room (notice_count m) → IsOk r
run_room {m = m} {s = s} h run bytes told =
    ran_succeeds run (rw (bytes_are h) bytes) (rw (notices_are h) told)

-- and so is room for thirteen bytes and a notice
pub run_enough : {M : Type 0} {m : Meant M} {acts : List Action} {s t : State} {r : Result (Unit {0}) SinkError} → EncodesAs m acts → Ran acts s t r → HasRoom s.byte_room 13 → HasRoom s.notice_room 1 → IsOk r
run_enough {m = m} {s = s} h run bytes told =
    run_room h run (less_room s.byte_room 13 (len m) (len_most h) bytes) (less_room s.notice_room 1 (notice_count m) (one_notice m.memory) told)

-- an instruction lowers the rooms by no more than its bytes and its notices
pub run_bytes_fall : {M : Type 0} {m : Meant M} {acts : List Action} {s t : State} {r : Result (Unit {0}) SinkError} → EncodesAs m acts → Ran acts s t r → FallsBy s.byte_room t.byte_room (len m)
run_bytes_fall {acts = acts} {s} h run k room = ran_byte_room run k (rw (bytes_are h) room)

pub run_notices_fall : {M : Type 0} {m : Meant M} {acts : List Action} {s t : State} {r : Result (Unit {0}) SinkError} → EncodesAs m acts → Ran acts s t r → FallsBy s.notice_room t.notice_room (notice_count m)
run_notices_fall {acts = acts} {s} h run k room = ran_notice_room run k (rw (notices_are h) room)

-- all that a call says that puts an instruction
pub record Put {M : Type 0} (m : Meant M) (s t : State) (r : Result (Unit {0}) SinkError) : Type 0 where
  pub adds : OnOk r (AddsInstruction m s t)
  pub leaves : OnErr r (LeavesInstruction m s t)
  pub front : IsFront s.bytes t.bytes
  pub error : IfErr r (λ e. s.answers e ≡ true)
  pub keeps : Keeps s t
  pub enough : HasRoom s.byte_room 13 → HasRoom s.notice_room 1 → IsOk r
  pub room : HasRoom s.byte_room (len m) → HasRoom s.notice_room (notice_count m) → IsOk r
  pub byte_room : FallsBy s.byte_room t.byte_room (len m)
  pub notice_room : FallsBy s.notice_room t.notice_room (notice_count m)

pub put_of : {M : Type 0} (m : Meant M) (s t : State) (r : Result (Unit {0}) SinkError) → Writes m s t r → Put m s t r
put_of m s t r w =
    let adds : OnOk r (AddsInstruction m s t) = run_adds r w.encodes w.ran in
    let leaves : OnErr r (LeavesInstruction m s t) = run_leaves r w.encodes w.ran in
    record {
      adds = adds;
      leaves = leaves;
      front = stays_in_front m s t r adds leaves;
      error = run_error r w.ran;
      keeps = ran_keeps w.ran;
      enough = run_enough w.encodes w.ran;
      room = run_room w.encodes w.ran;
      byte_room = run_bytes_fall w.encodes w.ran;
      notice_room = run_notices_fall w.encodes w.ran;
    }

-- what a fixed sink took fitted in what was left
pub taken_fits : {N : ℕ} (s t : FixedSink N) (added : List ℕ) (n : ℕ) → (fixed_sink_state t).bytes ≡ (fixed_sink_state s).bytes ++ added → length added ≡ n → n ≤ N - length (fixed_sink_state s).bytes
taken_fits {N = N} s t added n e h =
    let old : List ℕ = (fixed_sink_state s).bytes in
    let new : List ℕ = (fixed_sink_state t).bytes in
    let sum : length new ≡ length old + length added = ap length e ∙ length-append old added in
    let fit : length new ≤ N = bytes_fit t in
    omega arith

-- a fixed sink takes an instruction exactly where its bytes fit in what is left
pub fixed_takes : {M : Type 0} {N : ℕ} (m : Meant M) (s t : FixedSink N) (r : Result (Unit {0}) SinkError) → OnOk r (AddsInstruction m (fixed_sink_state s) (fixed_sink_state t)) → (HasRoom (fixed_sink_state s).byte_room (len m) → HasRoom (fixed_sink_state s).notice_room (notice_count m) → IsOk r) → IsOk r ↔ (len m ≤ N - length (fixed_sink_state s).bytes)
fixed_takes m s t (Ok tt) h room = (λ _. taken_fits s t h.added (len m) h.bytes h.length, λ _. refl)
fixed_takes m s t (Err e) h room = (λ (bad : IsOk {T = Unit {0}} (Err e)). cc, λ fit. room fit tt)
