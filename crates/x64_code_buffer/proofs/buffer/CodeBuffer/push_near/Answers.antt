use Rattle.std.proofs.Common.{◌≡◌, ℕ, refl, subst}
use Rattle.std.proofs.lemmas.Int.{to_z-of_z}
use Rattle.std.specs.Int.{w8}
use Rattle.cax64_machine_code.specs.Len.{line_len}
use Rattle.cax64_machine_code.specs.Rows.{line_of}
use Rattle.cax64_machine_code.specs.declared.row.Row.{Row}
use Rattle.cax64_sink.specs.Recorder.{recorder_state}
use Rattle.cax64_sink.specs.Room.{FallsBy}
use Rattle.x64_code_buffer.specs.Buffer.{places_of}
use Rattle.x64_code_buffer.specs.Filled.{FilledOn}
use Rattle.x64_code_buffer.specs.Jump.{AddsAt, jump_parts, short_row}
use Rattle.x64_code_buffer.specs.Laid.{LaidOn, whole}
use Rattle.x64_code_buffer.proofs.Filling.{on_err, stays_as, stays_both}
use Rattle.x64_code_buffer.proofs.Jumped.{NearPut, adds_at, at_some, filled_at, laid_at, near_put, no_err, no_error, of_some, on_ok}
use Rattle.x64_code_buffer.proofs.Jumping.{short_len}
use Rattle.x64_code_buffer.proofs.buffer.CodeBuffer.push_near.Goals as goal

pub returns-in_err-make_room-clause-refused : goal.returns-in_err-make_room-clause-refused
returns-in_err-make_room-clause-refused g c = on_err c.from_residual.result (stays_both _ _ (λ pieces n h.
    let places = places_of c.args.self.now in
    stays_as pieces n (recorder_state c.args.self.now.recorder) (recorder_state c.make_room.new.recorder) places places c.make_room.ensures.as_before.bytes c.make_room.ensures.as_before.notices (λ target. refl) h))

pub returns : goal.returns
returns g c =
    let s = recorder_state c.args.self.now.recorder in
    let u = recorder_state c.make_room.new.recorder in
    let t = recorder_state c.put.new.sink in
    let places = places_of c.args.self.now in
    let r = c.put.result in
    let o = short_row c.args.jump in
    let z = c.args.distance in
    let p : NearPut o z s t r =
    near_put o z c.short_code.result s u t r c.requires (rw (to_z-of_z w8 c.args.distance c.ranges.distance) at c.short_code.ensures) c.make_room.ensures.as_before refl refl refl c.in_ok-make_room.ensures.room_for_bytes c.in_ok-make_room.ensures.room_for_notices c.put.ensures.run in
    let adds : AddsAt p.row z s t = adds_at p.row z s t r p.put in
    let two : line_len (line_of p.row) (jump_parts (line_of p.row) z) ≡ 2 = of_some (λ (row : Row). line_len (line_of row) (jump_parts (line_of row) z) ≡ 2) o p.row p.is (short_len c.args.jump z) in
    record {
      adds = on_ok r (at_some (λ (row : Row). AddsAt row z s t) o p.row p.is adds);
      unchanged = no_err _ r p.put.ok;
      error = no_error _ r p.put.ok;
      enough = λ bytes told. rw p.put.ok refl;
      byte_room = subst (λ (n : ℕ). FallsBy s.byte_room t.byte_room n) two p.put.byte_room;
      notice_room = p.put.notice_room;
      keeps = p.put.keeps;
      labels = refl;
      label_room = refl;
      places = λ target. refl;
      filled = λ readings h. on_ok r (at_some (λ (row : Row). FilledOn (jump_parts row z) readings t places) o p.row p.is (filled_at p.row z readings s t places adds h));
      laid = λ pieces h. on_ok r (at_some (λ (row : Row). LaidOn whole (jump_parts (line_of row) z) pieces t places) o p.row p.is (laid_at p.row z pieces s t places adds h));
      refused = no_err _ r p.put.ok;
    }
