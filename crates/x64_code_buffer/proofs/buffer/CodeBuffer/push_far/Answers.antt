use Rattle.std.proofs.Common.{None, refl, subst, ℕ}
use Rattle.std.proofs.lemmas.Int.{to_z-of_z}
use Rattle.std.specs.Int.{w32}
use Rattle.cax64_machine_code.specs.Rows.{line_of}
use Rattle.cax64_sink.specs.Recorder.{recorder_state}
use Rattle.cax64_sink.specs.Room.{FallsBy}
use Rattle.x64_code_buffer.specs.Buffer.{places_of}
use Rattle.x64_code_buffer.specs.Jump.{long_row}
use Rattle.x64_code_buffer.proofs.Filling.{stays_both, stays_as, on_err}
use Rattle.x64_code_buffer.proofs.Jumped.{JumpPut, jump_put, len_same, adds_at, filled_at, laid_at, no_err, no_error, on_ok}
use Rattle.x64_code_buffer.proofs.buffer.CodeBuffer.push_far.Goals as goal

pub returns-in_err-make_room-clause-refused : goal.returns-in_err-make_room-clause-refused
returns-in_err-make_room-clause-refused g c = on_err c.from_residual.result (stays_both _ _ (λ pieces n h.
    let places = places_of c.args.self.now in
    stays_as pieces n (recorder_state c.args.self.now.recorder) (recorder_state c.make_room.new.recorder) places places c.make_room.ensures.as_before.bytes c.make_room.ensures.as_before.notices (λ target. refl) h))

pub returns : goal.returns
returns g c =
    let s = recorder_state c.args.self.now.recorder in
    let u = recorder_state c.make_room.new.recorder in
    let t = recorder_state c.put.new.sink in
    let places = places_of c.args.self.now in
    let p : JumpPut (line_of (long_row c.args.jump)) c.args.distance (None) s t c.put.result =
    jump_put (line_of (long_row c.args.jump)) c.args.distance (None) c.long_code.result s u t c.put.result (rw (to_z-of_z w32 c.args.distance c.ranges.distance) at c.long_code.ensures) c.make_room.ensures.as_before refl refl refl c.in_ok-make_room.ensures.room_for_bytes c.in_ok-make_room.ensures.room_for_notices c.put.ensures.run in
    record {
      adds = on_ok c.put.result (adds_at (long_row c.args.jump) c.args.distance s t c.put.result p);
      unchanged = no_err _ c.put.result p.ok;
      error = no_error _ c.put.result p.ok;
      enough = λ bytes told. rw p.ok refl;
      byte_room = subst (λ (n : ℕ). FallsBy s.byte_room t.byte_room n) (len_same (long_row c.args.jump) c.args.distance) p.byte_room;
      notice_room = p.notice_room;
      keeps = p.keeps;
      labels = refl;
      label_room = refl;
      places = λ target. refl;
      filled = λ readings h. on_ok c.put.result (filled_at (long_row c.args.jump) c.args.distance readings s t places (adds_at (long_row c.args.jump) c.args.distance s t c.put.result p) h);
      laid = λ pieces h. on_ok c.put.result (laid_at (long_row c.args.jump) c.args.distance pieces s t places (adds_at (long_row c.args.jump) c.args.distance s t c.put.result p) h);
      refused = no_err _ c.put.result p.ok;
    }
