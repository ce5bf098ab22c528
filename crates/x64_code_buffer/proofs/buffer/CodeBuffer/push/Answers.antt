use Rattle.std.proofs.Common.{refl, subst, ◌≡◌, ℕ, ℤ, Option, length}
use Rattle.cax64_encoder.specs.Notices.{memory_notices}
use Rattle.cax64_machine_code.specs.Reading.{PartsOf}
use Rattle.cax64_machine_code.specs.declared.line.Line.{Line}
use Rattle.cax64_sink.specs.Recorder.{recorder_state}
use Rattle.cax64_sink.specs.Room.{FallsBy}
use Rattle.cax64_sink.specs.Sink.{State}
use Rattle.x64_code_buffer.specs.Buffer.{places_of}
use Rattle.x64_code_buffer.proofs.Filling.{stays_both, stays_as, falls_after_none, few_notices, if_ok, on_err, meant_laid}
use Rattle.x64_code_buffer.specs.Laid.{LaidOn, whole, whole_pieces}
use Rattle.x64_code_buffer.proofs.Jumped.{on_ok}
use Rattle.x64_code_buffer.proofs.Pieces.{filled_is_laid, laid_on_is_filled_on}
use Rattle.x64_encode.specs.Encode.{ReadsRelativeBy, SamePut}
use Rattle.x64_code_buffer.proofs.buffer.CodeBuffer.push.Goals as goal

pub returns-in_err-make_room-clause-refused : goal.returns-in_err-make_room-clause-refused
returns-in_err-make_room-clause-refused g c = on_err c.from_residual.result (stays_both _ _ (λ pieces n h.
    let places = places_of c.args.self.now in
    stays_as pieces n (recorder_state c.args.self.now.recorder) (recorder_state c.make_room.new.recorder) places places c.make_room.ensures.as_before.bytes c.make_room.ensures.as_before.notices (λ target. refl) h))

pub returns-clause-adds : goal.returns-clause-adds
returns-clause-adds g c =
    let s : State = recorder_state c.args.self.now.recorder in
    let u : State = recorder_state c.make_room.new.recorder in
    let t : State = recorder_state c.encode.new.sink in
    let b = c.make_room.ensures.as_before in
    let same : SamePut s u = record { bytes = b.bytes; notices = b.notices; offsets = b.offsets; records = refl } in
    if_ok c.encode.result (λ a. g.met.I.Encode.adds_from c.args.inst.now s u t same a) c.encode.ensures.adds

pub returns-clause-byte_room : goal.returns-clause-byte_room
returns-clause-byte_room g c =
    let s : State = recorder_state c.args.self.now.recorder in
    let u : State = recorder_state c.make_room.new.recorder in
    let t : State = recorder_state c.encode.new.sink in
    let n = (g.I.Encode.line_meant c.args.inst.now s.offsets).len in
    let offsets : u.offsets ≡ s.offsets = c.make_room.ensures.as_before.offsets in
    let fall : FallsBy u.byte_room t.byte_room n = subst (λ (o : ℕ → Option ℤ). FallsBy u.byte_room t.byte_room (g.I.Encode.line_meant c.args.inst.now o).len) offsets c.encode.ensures.byte_room in
    falls_after_none s.byte_room u.byte_room t.byte_room n c.make_room.ensures.as_before.byte_room fall

pub returns-clause-notice_room : goal.returns-clause-notice_room
returns-clause-notice_room g c =
    let s : State = recorder_state c.args.self.now.recorder in
    let u : State = recorder_state c.make_room.new.recorder in
    let t : State = recorder_state c.encode.new.sink in
    let n = memory_notices (g.I.Encode.line_meant c.args.inst.now s.offsets).memory in
    let offsets : u.offsets ≡ s.offsets = c.make_room.ensures.as_before.offsets in
    let fall : FallsBy u.notice_room t.notice_room n = subst (λ (o : ℕ → Option ℤ). FallsBy u.notice_room t.notice_room (memory_notices (g.I.Encode.line_meant c.args.inst.now o).memory)) offsets c.encode.ensures.notice_room in
    falls_after_none s.notice_room u.notice_room t.notice_room n c.make_room.ensures.as_before.notice_room fall

pub returns-in_err-make_room-clause-most_notices : goal.returns-in_err-make_room-clause-most_notices
returns-in_err-make_room-clause-most_notices g c = few_notices (g.I.Encode.line_meant c.args.inst.now (recorder_state c.args.self.now.recorder).offsets).memory

pub returns-clause-most_notices : goal.returns-clause-most_notices
returns-clause-most_notices g c = few_notices (g.I.Encode.line_meant c.args.inst.now (recorder_state c.args.self.now.recorder).offsets).memory

pub returns-clause-laid : goal.returns-clause-laid
returns-clause-laid g c pieces h =
    let s : State = recorder_state c.args.self.now.recorder in
    let u : State = recorder_state c.make_room.new.recorder in
    let t : State = recorder_state c.encode.new.sink in
    let places = places_of c.args.self.now in
    let b = c.make_room.ensures.as_before in
    let same : SamePut s u = record { bytes = b.bytes; notices = b.notices; offsets = b.offsets; records = refl } in
    let relative : ReadsRelativeBy (g.I.Encode.line_meant c.args.inst.now s.offsets) = subst (λ (o : ℕ → Option ℤ). ReadsRelativeBy (g.I.Encode.line_meant c.args.inst.now o)) b.offsets c.encode.ensures.relative in
    if_ok c.encode.result (λ a. meant_laid (g.I.Encode.line_meant c.args.inst.now s.offsets) pieces s t places places refl (λ target. refl) relative h (g.met.I.Encode.adds_meant c.args.inst.now s t (g.met.I.Encode.adds_from c.args.inst.now s u t same a))) c.encode.ensures.adds

pub returns-clause-filled : goal.returns-clause-filled
returns-clause-filled g c meant is readings h =
    let s : State = recorder_state c.args.self.now.recorder in
    let t : State = recorder_state c.encode.new.sink in
    let places = places_of c.args.self.now in
    if_ok c.encode.result (λ (l : LaidOn whole (g.I.Encode.line_meant c.args.inst.now s.offsets).parts (whole_pieces readings) t places). laid_on_is_filled_on meant readings t places (subst (λ (p : PartsOf Line). LaidOn whole p (whole_pieces readings) t places) is l)) (returns-clause-laid g c (whole_pieces readings) (filled_is_laid readings (length s.bytes) s places h))

pub returns-clause-relative : goal.returns-clause-relative
returns-clause-relative g c =
    let s : State = recorder_state c.args.self.now.recorder in
    let offsets = c.make_room.ensures.as_before.offsets in
    let relative : ReadsRelativeBy (g.I.Encode.line_meant c.args.inst.now s.offsets) = subst (λ (o : ℕ → Option ℤ). ReadsRelativeBy (g.I.Encode.line_meant c.args.inst.now o)) offsets c.encode.ensures.relative in
    on_ok c.encode.result relative
