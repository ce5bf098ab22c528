use Rattle.std.proofs.Common.{refl}
use Rattle.cax64_sink.specs.Recorder.{recorder_state}
use Rattle.x64_code_buffer.specs.Buffer.{buffer_state, places_of}
use Rattle.x64_code_buffer.specs.Put.{PutsBytes}
use Rattle.x64_code_buffer.proofs.Filling.{stays_both}
use Rattle.x64_code_buffer.proofs.Putting.{puts_after, stays_put}
use Rattle.x64_code_buffer.proofs.buffer.CodeBuffer.put_bytes.Goals as goal

pub returns-in_err-reserve-clause-filled : goal.returns-in_err-reserve-clause-filled
returns-in_err-reserve-clause-filled g c = c.reserve.ensures.filled

pub put_all-requires : goal.put_all-requires
put_all-requires g c = c.in_ok-reserve.ensures.room_for_bytes

pub returns : goal.returns
returns g c =
    let s = buffer_state c.args.self.now in
    let t = recorder_state c.put_all.new.recorder in
    let p : PutsBytes c.args.bytes.now s t = puts_after c.args.bytes.now s (buffer_state c.reserve.new.self) t c.reserve.ensures.as_before c.reserve.ensures.keeps c.put_all.ensures in
    record {
      adds = p.bytes;
      notices = p.notices;
      unchanged = tt;
      error = tt;
      enough = λ room. refl;
      byte_room = p.byte_room;
      notice_room = p.notice_room;
      keeps = p.keeps;
      labels = c.reserve.ensures.labels;
      label_room = c.reserve.ensures.label_room;
      places = c.reserve.ensures.places;
      filled = stays_both _ _ (λ pieces n h. stays_put c.args.bytes.now pieces n s t (places_of c.args.self.now) (places_of c.reserve.new.self) p c.reserve.ensures.places h);
    }
