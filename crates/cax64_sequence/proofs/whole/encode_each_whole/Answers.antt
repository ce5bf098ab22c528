use Rattle.std.proofs.Common.{sym, subst}
use Rattle.cax64_sequence.proofs.Rows.{each_adds, each_len_is, each_notice_count_is, ok_then}
use Rattle.cax64_sink.specs.Recorder.{recorder_state}
use Rattle.cax64_sink.specs.Room.{FallsBy, HasRoom}
use Rattle.cax64_sequence.proofs.whole.encode_each_whole.Goals as goal

pub returns-clause-adds : goal.returns-clause-adds
returns-clause-adds g c = ok_then c.put_each_whole.result (each_adds g.I.Instruction.meant c.args.insts.now (recorder_state c.args.recorder.now) (recorder_state c.put_each_whole.new.recorder)) c.put_each_whole.ensures.adds

pub returns-clause-byte_room : goal.returns-clause-byte_room
returns-clause-byte_room g c =
    let s = recorder_state c.args.recorder.now in
    subst (FallsBy s.byte_room (recorder_state c.put_each_whole.new.recorder).byte_room) (each_len_is g.I.Instruction.meant s c.args.insts.now) c.put_each_whole.ensures.byte_room

pub returns-clause-notice_room : goal.returns-clause-notice_room
returns-clause-notice_room g c =
    let s = recorder_state c.args.recorder.now in
    subst (FallsBy s.notice_room (recorder_state c.put_each_whole.new.recorder).notice_room) (each_notice_count_is g.I.Instruction.meant s c.args.insts.now) c.put_each_whole.ensures.notice_room

pub returns-clause-room : goal.returns-clause-room
returns-clause-room g c bytes notices =
    let s = recorder_state c.args.recorder.now in
    c.put_each_whole.ensures.room (subst (HasRoom s.byte_room) (sym (each_len_is g.I.Instruction.meant s c.args.insts.now)) bytes) (subst (HasRoom s.notice_room) (sym (each_notice_count_is g.I.Instruction.meant s c.args.insts.now)) notices)
