use Rattle.std.proofs.Common.{sym, subst}
use Rattle.cax64_sequence.proofs.Rows.{each_adds, each_leaves, each_len_is, each_notice_count_is, err_then, front_count_is, front_len_is, ok_then}
use Rattle.cax64_sink.specs.Room.{FallsBy, HasRoom}
use Rattle.cax64_sequence.proofs.sequence.encode_each.Goals as goal

pub returns-clause-adds : goal.returns-clause-adds
returns-clause-adds g c = ok_then c.put_each.result (each_adds g.I.Instruction.meant c.args.insts.now (g.S.CodeSink.state c.args.sink.now) (g.S.CodeSink.state c.put_each.new.sink)) c.put_each.ensures.adds

pub returns-clause-leaves : goal.returns-clause-leaves
returns-clause-leaves g c = err_then c.put_each.result (λ e. each_leaves g.I.Instruction.meant c.args.insts.now e.whole (g.S.CodeSink.state c.args.sink.now) (g.S.CodeSink.state c.put_each.new.sink)) c.put_each.ensures.leaves

pub returns-clause-room : goal.returns-clause-room
returns-clause-room g c j within bytes notices =
    let s = g.S.CodeSink.state c.args.sink.now in
    c.put_each.ensures.room j within (subst (HasRoom s.byte_room) (sym (front_len_is g.I.Instruction.meant s c.args.insts.now j)) bytes) (subst (HasRoom s.notice_room) (sym (front_count_is g.I.Instruction.meant s c.args.insts.now j)) notices)

pub returns-clause-byte_room : goal.returns-clause-byte_room
returns-clause-byte_room g c =
    let s = g.S.CodeSink.state c.args.sink.now in
    subst (FallsBy s.byte_room (g.S.CodeSink.state c.put_each.new.sink).byte_room) (each_len_is g.I.Instruction.meant s c.args.insts.now) c.put_each.ensures.byte_room

pub returns-clause-notice_room : goal.returns-clause-notice_room
returns-clause-notice_room g c =
    let s = g.S.CodeSink.state c.args.sink.now in
    subst (FallsBy s.notice_room (g.S.CodeSink.state c.put_each.new.sink).notice_room) (each_notice_count_is g.I.Instruction.meant s c.args.insts.now) c.put_each.ensures.notice_room
