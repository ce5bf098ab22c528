use Rattle.std.proofs.Common.{subst, sym, take}
use Rattle.std.proofs.lemmas.List.Elements.{All-nil}
use Rattle.cax64_sequence.specs.Each.{AddsEach}
use Rattle.cax64_sequence.proofs.Putting.{put_none, put_next, front_on, put_leaves, put_late, put_bytes_fall, put_notices_fall, room_for_bytes, room_for_notices, all_but_none, few_bytes, tested_next, fault_there, fault_then, refusal_then, refused_though}
use Rattle.cax64_sequence.proofs.Rooms.{keeps_on}
use Rattle.cax64_sequence.proofs.each.put_each_checked.Goals as goal

pub loop-whole-init : goal.loop-whole-init
loop-whole-init g c = record {
  put = put_none g.I.Encode.adds g.I.Encode.line_meant c.args.insts.now (g.S.CodeSink.state c.args.sink.now);
  tested = All-nil _;
  beside = g.met.S.CodeSink.may_stay c.args.sink.now;
}

pub loop-whole-preserved : goal.loop-whole-preserved
loop-whole-preserved g c =
    let held = c.loop-whole.invariant in
    let next = c.in_default.ensures in
    record {
      put = put_next g.I.Encode.adds g.I.Encode.line_meant c.args.insts.now c.loop-whole.whole c.index-insts-whole.result (g.S.CodeSink.state c.args.sink.now) (g.S.CodeSink.state c.loop-whole.sink) (g.S.CodeSink.state c.encode_checked.new.sink) g.met.I.Encode.adds_from c.loop-whole-test.true c.index-insts-whole.is held.put next.adds next.front next.keeps next.byte_room next.notice_room (few_bytes _ (g.S.CodeSink.state c.loop-whole.sink) (g.S.CodeSink.state c.encode_checked.new.sink) (g.met.I.Encode.adds_meant c.index-insts-whole.result (g.S.CodeSink.state c.loop-whole.sink) (g.S.CodeSink.state c.encode_checked.new.sink) next.adds));
      tested = tested_next g.I.Encode.line_meant c.args.insts.now c.loop-whole.whole c.index-insts-whole.result (g.S.CodeSink.state c.args.sink.now) (g.S.CodeSink.state c.loop-whole.sink) c.loop-whole-test.true c.index-insts-whole.is held.put.keeps.offsets held.tested next.fault;
      beside = g.met.S.CodeSink.may_go_on _ _ _ held.beside next.beside;
    }

pub returns-clause-adds : goal.returns-clause-adds
returns-clause-adds g c = rw (all_but_none c.args.insts.now c.loop-whole.whole c.loop-whole-test.false c.loop-whole.auto.whole-end) at c.loop-whole.invariant.put.each

pub returns-clause-encodable : goal.returns-clause-encodable
returns-clause-encodable g c = rw (all_but_none c.args.insts.now c.loop-whole.whole c.loop-whole-test.false c.loop-whole.auto.whole-end) at c.loop-whole.invariant.tested

pub returns-clause-front : goal.returns-clause-front
returns-clause-front g c = c.loop-whole.invariant.put.front

pub returns-clause-keeps : goal.returns-clause-keeps
returns-clause-keeps g c = c.loop-whole.invariant.put.keeps

pub returns-clause-byte_room : goal.returns-clause-byte_room
returns-clause-byte_room g c = rw (all_but_none c.args.insts.now c.loop-whole.whole c.loop-whole-test.false c.loop-whole.auto.whole-end) at c.loop-whole.invariant.put.byte_room

pub returns-clause-notice_room : goal.returns-clause-notice_room
returns-clause-notice_room g c = rw (all_but_none c.args.insts.now c.loop-whole.whole c.loop-whole-test.false c.loop-whole.auto.whole-end) at c.loop-whole.invariant.put.notice_room

pub returns-in-Err-clause-tested : goal.returns-in-Err-clause-tested
returns-in-Err-clause-tested g c = c.loop-whole.invariant.tested

pub returns-in-Err-clause-fault : goal.returns-in-Err-clause-fault
returns-in-Err-clause-fault g c = fault_there g.I.Encode.line_meant c.args.insts.now c.loop-whole.whole c.index-insts-whole.result (g.S.CodeSink.state c.args.sink.now) (g.S.CodeSink.state c.loop-whole.sink) _ c.loop-whole-test.true c.index-insts-whole.is c.loop-whole.invariant.put.keeps.offsets c.in-Err.ensures.fault

pub returns-in-Err-clause-before : goal.returns-in-Err-clause-before
returns-in-Err-clause-before g c =
    let before = g.S.CodeSink.state c.args.sink.now in
    fault_then c.in-Err.error (λ e. subst (λ z. AddsEach g.I.Encode.adds (take c.loop-whole.whole c.args.insts.now) before (g.S.CodeSink.state z)) (sym e) c.loop-whole.invariant.put.each) c.in-Err.ensures.unchanged

pub returns-in-Err-clause-leaves : goal.returns-in-Err-clause-leaves
returns-in-Err-clause-leaves g c = refusal_then c.in-Err.error (λ why leaves. put_leaves g.I.Encode.adds g.I.Encode.leaves g.I.Encode.line_meant c.args.insts.now c.loop-whole.whole c.index-insts-whole.result (g.S.CodeSink.state c.args.sink.now) (g.S.CodeSink.state c.loop-whole.sink) (g.S.CodeSink.state c.encode_checked.new.sink) c.loop-whole-test.true c.index-insts-whole.is c.loop-whole.invariant.put leaves) c.in-Err.ensures.leaves

pub returns-in-Err-clause-front : goal.returns-in-Err-clause-front
returns-in-Err-clause-front g c = front_on _ _ _ c.loop-whole.invariant.put.front c.in-Err.ensures.front

pub returns-in-Err-clause-error : goal.returns-in-Err-clause-error
returns-in-Err-clause-error g c = rw c.loop-whole.invariant.put.keeps.answers at c.in-Err.ensures.error

pub returns-in-Err-clause-keeps : goal.returns-in-Err-clause-keeps
returns-in-Err-clause-keeps g c = keeps_on c.loop-whole.invariant.put.keeps c.in-Err.ensures.keeps

pub returns-in-Err-clause-beside : goal.returns-in-Err-clause-beside
returns-in-Err-clause-beside g c = g.met.S.CodeSink.may_go_on _ _ _ c.loop-whole.invariant.beside c.in-Err.ensures.beside

pub returns-in-Err-clause-enough : goal.returns-in-Err-clause-enough
returns-in-Err-clause-enough g c bytes notices =
    let put = c.loop-whole.invariant.put in
    c.in-Err.ensures.enough (room_for_bytes g.I.Encode.line_meant c.args.insts.now c.loop-whole.whole (g.S.CodeSink.state c.args.sink.now) (g.S.CodeSink.state c.loop-whole.sink) c.loop-whole-test.true put bytes) (room_for_notices g.I.Encode.line_meant c.args.insts.now c.loop-whole.whole (g.S.CodeSink.state c.args.sink.now) (g.S.CodeSink.state c.loop-whole.sink) c.loop-whole-test.true put notices)

pub returns-in-Err-clause-room : goal.returns-in-Err-clause-room
returns-in-Err-clause-room g c j within bytes notices = refused_though c.in-Err.error c.in-Err.ensures.room (λ refused. put_late g.I.Encode.line_meant c.args.insts.now c.loop-whole.whole j c.index-insts-whole.result (g.S.CodeSink.state c.args.sink.now) (g.S.CodeSink.state c.loop-whole.sink) c.loop-whole-test.true c.index-insts-whole.is c.loop-whole.invariant.put refused bytes notices)

pub returns-in-Err-clause-byte_room : goal.returns-in-Err-clause-byte_room
returns-in-Err-clause-byte_room g c = put_bytes_fall g.I.Encode.line_meant c.args.insts.now c.loop-whole.whole c.index-insts-whole.result (g.S.CodeSink.state c.args.sink.now) (g.S.CodeSink.state c.loop-whole.sink) (g.S.CodeSink.state c.encode_checked.new.sink) c.loop-whole-test.true c.index-insts-whole.is c.loop-whole.invariant.put c.in-Err.ensures.byte_room

pub returns-in-Err-clause-notice_room : goal.returns-in-Err-clause-notice_room
returns-in-Err-clause-notice_room g c = put_notices_fall g.I.Encode.line_meant c.args.insts.now c.loop-whole.whole c.index-insts-whole.result (g.S.CodeSink.state c.args.sink.now) (g.S.CodeSink.state c.loop-whole.sink) (g.S.CodeSink.state c.encode_checked.new.sink) c.loop-whole-test.true c.index-insts-whole.is c.loop-whole.invariant.put c.in-Err.ensures.notice_room
