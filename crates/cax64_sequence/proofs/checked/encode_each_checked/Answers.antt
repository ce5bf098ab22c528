use Rattle.std.proofs.Common.{sym, subst, take}
use Rattle.cax64_sequence.proofs.Putting.{fault_then, refusal_then}
use Rattle.cax64_sequence.proofs.Rows.{each_adds, each_leaves, each_len_is, each_notice_count_is, err_then, front_count_is, front_len_is, ok_then}
use Rattle.cax64_sink.specs.Room.{FallsBy, HasRoom}
use Rattle.cax64_sequence.proofs.checked.encode_each_checked.Goals as goal

pub returns-clause-adds : goal.returns-clause-adds
returns-clause-adds g c = ok_then c.put_each_checked.result (each_adds g.I.Instruction.meant c.args.insts.now (g.S.CodeSink.state c.args.sink.now) (g.S.CodeSink.state c.put_each_checked.new.sink)) c.put_each_checked.ensures.adds

pub returns-clause-before : goal.returns-clause-before
returns-clause-before g c = err_then c.put_each_checked.result (λ e. fault_then e.error (each_adds g.I.Instruction.meant (take e.whole c.args.insts.now) (g.S.CodeSink.state c.args.sink.now) (g.S.CodeSink.state c.put_each_checked.new.sink))) c.put_each_checked.ensures.before

pub returns-clause-leaves : goal.returns-clause-leaves
returns-clause-leaves g c = err_then c.put_each_checked.result (λ e. refusal_then e.error (λ why. each_leaves g.I.Instruction.meant c.args.insts.now e.whole (g.S.CodeSink.state c.args.sink.now) (g.S.CodeSink.state c.put_each_checked.new.sink))) c.put_each_checked.ensures.leaves

pub returns-clause-room : goal.returns-clause-room
returns-clause-room g c j within bytes notices =
    let s = g.S.CodeSink.state c.args.sink.now in
    c.put_each_checked.ensures.room j within (subst (HasRoom s.byte_room) (sym (front_len_is g.I.Instruction.meant s c.args.insts.now j)) bytes) (subst (HasRoom s.notice_room) (sym (front_count_is g.I.Instruction.meant s c.args.insts.now j)) notices)

pub returns-clause-byte_room : goal.returns-clause-byte_room
returns-clause-byte_room g c =
    let s = g.S.CodeSink.state c.args.sink.now in
    subst (FallsBy s.byte_room (g.S.CodeSink.state c.put_each_checked.new.sink).byte_room) (each_len_is g.I.Instruction.meant s c.args.insts.now) c.put_each_checked.ensures.byte_room

pub returns-clause-notice_room : goal.returns-clause-notice_room
returns-clause-notice_room g c =
    let s = g.S.CodeSink.state c.args.sink.now in
    subst (FallsBy s.notice_room (g.S.CodeSink.state c.put_each_checked.new.sink).notice_room) (each_notice_count_is g.I.Instruction.meant s c.args.insts.now) c.put_each_checked.ensures.notice_room
