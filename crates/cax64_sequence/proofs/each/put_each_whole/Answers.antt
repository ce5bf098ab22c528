use Rattle.std.proofs.Common.{arith, ◌≡◌, ◌∙◌, subst, refl, IsOk}
use Rattle.cax64_sequence.specs.Each.{each_len, each_notice_count}
use Rattle.cax64_sequence.specs.List.{StaysAs}
use Rattle.cax64_sequence.proofs.Putting.{whole_list}
use Rattle.cax64_sequence.proofs.Rooms.{falls_less, falls_on, keeps_on, never_err, no_err, on_ok}
use Rattle.cax64_sink.specs.Keeps.{Keeps}
use Rattle.cax64_sink.specs.Recorder.{recorder_state}
use Rattle.cax64_sink.specs.Room.{HasRoom, FallsBy}
use Rattle.cax64_sink.specs.declared.SinkError.TheVariants.{NoMemory}
use Rattle.x64_encode.specs.Encode.{SamePut}
use Rattle.cax64_sequence.proofs.each.put_each_whole.Goals as goal

pub returns-in_err-reserve-clause-byte_room : goal.returns-in_err-reserve-clause-byte_room
returns-in_err-reserve-clause-byte_room g c =
    let s = recorder_state c.args.recorder.now in
    falls_less s.byte_room (recorder_state c.reserve.new.self).byte_room 0 (each_len s g.I.Encode.line_meant c.args.insts.now) (omega arith) c.reserve.ensures.byte_room_stays

pub returns-in_err-reserve-clause-notice_room : goal.returns-in_err-reserve-clause-notice_room
returns-in_err-reserve-clause-notice_room g c =
    let s = recorder_state c.args.recorder.now in
    falls_less s.notice_room (recorder_state c.reserve.new.self).notice_room 0 (each_notice_count s g.I.Encode.line_meant c.args.insts.now) (omega arith) c.reserve.ensures.notice_room_stays

pub returns : goal.returns
returns g c =
    let s = recorder_state c.args.recorder.now in
    let u = recorder_state c.reserve.new.self in
    let t = recorder_state c.put_each.new.sink in
    let kept = c.in_ok-reserve.ensures in
    let len = each_len s g.I.Encode.line_meant c.args.insts.now in
    let count = each_notice_count s g.I.Encode.line_meant c.args.insts.now in
    let byte_room : HasRoom u.byte_room len = subst (HasRoom u.byte_room) c.measure-bytes.ensures.bytes kept.room_for_bytes in
    let notice_room : HasRoom u.notice_room count = subst (HasRoom u.notice_room) c.measure-bytes.ensures.notices kept.room_for_notices in
    let as_before : SamePut s u = record { bytes = kept.bytes; notices = kept.notices; offsets = kept.offsets; records = refl } in
    let same : Keeps s u = record { offsets = kept.offsets; records = refl; answers = refl } in
    let all = whole_list g.I.Encode.adds g.I.Encode.leaves g.I.Encode.line_meant c.args.insts.now s u t c.put_each.result g.met.I.Encode.adds_from as_before same byte_room notice_room c.put_each.ensures.adds c.put_each.ensures.leaves c.put_each.ensures.room in
    let ok : IsOk c.map_err.result = c.map_err.ensures.variant ∙ all.0 in
    let bytes : FallsBy u.byte_room t.byte_room len = rw kept.offsets at c.put_each.ensures.byte_room in
    let notices : FallsBy u.notice_room t.notice_room count = rw kept.offsets at c.put_each.ensures.notice_room in
    record {
      adds = on_ok c.map_err.result all.1;
      unchanged = no_err (StaysAs s t) c.map_err.result ok;
      front = rw kept.bytes at c.put_each.ensures.front;
      error = never_err (λ e. e ≡ NoMemory) c.map_err.result ok;
      keeps = keeps_on same c.put_each.ensures.keeps;
      byte_room = falls_on s.byte_room u.byte_room t.byte_room 0 _ _ (omega arith) c.reserve.ensures.byte_room_stays bytes;
      notice_room = falls_on s.notice_room u.notice_room t.notice_room 0 _ _ (omega arith) c.reserve.ensures.notice_room_stays notices;
      room = λ b n. ok;
    }
