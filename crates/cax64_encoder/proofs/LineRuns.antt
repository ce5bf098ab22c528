use Rattle.std.proofs.Common.{◌≡◌, ◌≤◌, arith, refl, ◌∙◌, ap, ℕ, List, ◌∷◌, pos, length, Result, Ok, Err, Option, Some, None}
use Rattle.std.specs.Prelude.{OnOk, OnErr, IsOk}
use Rattle.cax64_address.specs.declared.amode.Amode.{Amode}
use Rattle.cax64_address.specs.declared.amode.Amode.TheVariants.{ImmReg, ImmRegRegShift, RipRelative}
use Rattle.cax64_machine_code.specs.Len.{line_len}
use Rattle.cax64_machine_code.specs.Reading.{PartsOf}
use Rattle.cax64_machine_code.specs.ReadLine.{LineReading, read_of, lines_of}
use Rattle.cax64_machine_code.specs.Rows.{all_rows}
use Rattle.cax64_machine_code.specs.WorkedLine.{reg_and_rm}
use Rattle.cax64_machine_code.specs.declared.line.Line.{Line}
use Rattle.cax64_sink.specs.Room.{HasRoom}
use Rattle.cax64_sink.specs.Sink.{State}
use Rattle.cax64_sink.specs.Run.{Ran, all_bytes, all_notices, byte_total, notice_total}
use Rattle.cax64_sink.specs.Call.{Action}
use Rattle.cax64_sink.specs.declared.SinkError.{SinkError}
use Rattle.cax64_sink.proofs.Runs.{ran_bytes, ran_notices}
use Rattle.cax64_sink.proofs.Refusals.{ran_refusal}
use Rattle.cax64_sink.proofs.Rooms.{less_room, ran_succeeds, size_is_length, notes_is_length}
use Rattle.cax64_sink.proofs.Ends.{refused_bytes, refused_notices}
use Rattle.cax64_encoder.specs.AddsLine.{AddsLine, LeavesLine}
use Rattle.cax64_encoder.specs.EncodesLine.{EncodesLine, line_notices_of, line_form_parts}
use Rattle.cax64_encoder.specs.Numbered.{plain, form_named, place_named, register_place}
use Rattle.cax64_encoder.specs.Place.{memory_in}
use Rattle.cax64_encoder.specs.Worked.{GetsLine, add_rax_rdi}
use Rattle.cax64_encoder.specs.declared.numbered.NumberedPlace.{NumberedPlace}
use Rattle.cax64_encoder.proofs.Instructions.{told_same, not_empty}

-- a run of a line's actions that succeeded
pub line_adds : {M : Type 0} {parts : PartsOf Line} {memory : Option (Amode M)} {acts : List Action} {s t : State} (r : Result (Unit {0}) SinkError) → EncodesLine parts memory acts → length (all_bytes acts) ≡ line_len parts.row parts → Ran acts s t r → OnOk r (AddsLine parts memory s t)
line_adds {acts = acts} {s} {t} (Ok tt) h len run = record {
  added = all_bytes acts;
  bytes = ran_bytes run refl;
  length = len;
  are_bytes = h.are_bytes;
  reads = h.reads;
  notices = ran_notices run refl ∙ told_same s.records s.notices _ _ (h.notices (length s.bytes));
  shortest = h.shortest;
}
line_adds (Err e) h len run = tt

-- a run of them that was refused
pub line_leaves : {M : Type 0} {parts : PartsOf Line} {memory : Option (Amode M)} {acts : List Action} {s t : State} (r : Result (Unit {0}) SinkError) → EncodesLine parts memory acts → length (all_bytes acts) ≡ line_len parts.row parts → Ran acts s t r → OnErr r (LeavesLine parts memory s t)
line_leaves (Ok tt) h len run = tt
line_leaves {acts = acts} {s} {t} (Err e) h len run =
    let left = ran_refusal run refl in
    let part = refused_bytes left h.ends in
    let told_part = refused_notices left (length s.bytes) in
    record {
      left = all_bytes left.done;
      whole = all_bytes acts;
      bytes = left.bytes;
      are_bytes = h.are_bytes;
      reads = h.reads;
      shortest = h.shortest;
      front = record { rest = part.0; whole = part.1; proper = not_empty part.0 part.2 };
      told_left = all_notices left.done (length s.bytes);
      told_later = told_part.0;
      notices = left.notices;
      notices_front = told_part.1 ∙ h.notices (length s.bytes);
      length = len;
    }

few_notices : {M : Type 0} (memory : Option (Amode M)) (at : ℕ) (r : LineReading) → length (line_notices_of memory at r) ≤ 1
few_notices None at r = omega arith
few_notices (Some (ImmReg base simm32 None)) at r = omega arith
few_notices (Some (ImmReg base simm32 (Some code))) at r = omega arith
few_notices (Some (ImmRegRegShift base index scale simm32 None)) at r = omega arith
few_notices (Some (ImmRegRegShift base index scale simm32 (Some code))) at r = omega arith
few_notices (Some (RipRelative target)) at r = omega arith

-- room for thirteen bytes and a notice is enough
pub line_enough : {M : Type 0} {parts : PartsOf Line} {memory : Option (Amode M)} {acts : List Action} {s t : State} {r : Result (Unit {0}) SinkError} → EncodesLine parts memory acts → Ran acts s t r → HasRoom s.byte_room 13 → HasRoom s.notice_room 1 → IsOk r
line_enough {memory = memory} {acts} {s} h run bytes told =
    let most : byte_total acts ≤ 13 = omega (arith, size_is_length acts, h.reads.length, h.reads.most) in
    let few : notice_total acts ≤ 1 = rw (notes_is_length acts 0 ∙ ap length (h.notices 0)) (few_notices memory 0 h.reads.reading) in
    ran_succeeds run (less_room s.byte_room 13 (byte_total acts) most bytes) (less_room s.notice_room 1 (notice_total acts) few told)

-- the first of some lines is read
first_gets : {M : Type 0} (parts : PartsOf Line) (memory : Option (Amode M)) (s t : State) (lines : List Line) (r : Result (Unit {0}) SinkError) → OnOk r (AddsLine parts memory s t) → OnOk r (GetsLine (parts.row ∷ lines) parts (line_len parts.row parts) s t)
unfolding read_of
first_gets parts memory s t lines (Ok _) h = record { added = h.added; bytes = h.bytes; length = h.length; reading = h.reads.reading; reads = λ more. rw (h.reads.reads more) refl; same = h.reads.same }
first_gets parts memory s t lines (Err e) h = tt

pub add_gets : (line : Line) (place : NumberedPlace) (s t : State) (r : Result (Unit {0}) SinkError) → line ≡ reg_and_rm 0x03 → place ≡ register_place 7 → OnOk r (AddsLine (line_form_parts plain.enc line (pos 0) (form_named line (record { reg = Some 0; vvvv = None; place = place; imm = 0 }))) (memory_in (place_named place)) s t) → OnOk r (GetsLine (reg_and_rm 0x03 ∷ lines_of all_rows) add_rax_rdi 3 s t)
add_gets line place s t r e f = rw (e, f) (first_gets add_rax_rdi None s t (lines_of all_rows) r)
