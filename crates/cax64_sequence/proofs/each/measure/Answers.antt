use Rattle.std.proofs.Common.{◌≡◌, ◌+◌, take, arith}
use Rattle.cax64_encoder.proofs.Instructions.{one_notice}
use Rattle.cax64_sequence.specs.Each.{each_len, each_notice_count}
use Rattle.cax64_sequence.proofs.Putting.{sum_next}
use Rattle.x64_encode.specs.Encode.{len_by, notices_by}
use Rattle.cax64_sequence.proofs.each.measure.Goals as goal

pub loop-inst-preserved : goal.loop-inst-preserved
loop-inst-preserved g c =
    let state = g.S.CodeSink.state c.args.sink.now in
    let meaning = g.I.Encode.line_meant in
    let held = c.loop-inst.invariant in
    let xs = c.args.insts.now in
    let i = c.loop-inst.inst-index in
    let x = c.inst-item.result in
    let all_len : each_len state meaning (take (i + 1) xs) ≡ each_len state meaning (take i xs) + len_by state (meaning x) = sum_next (λ y. len_by state (meaning y)) xs i x c.loop-inst-test.true c.inst-item.is in
    let all_notices : each_notice_count state meaning (take (i + 1) xs) ≡ each_notice_count state meaning (take i xs) + notices_by state (meaning x) = sum_next (λ y. notices_by state (meaning y)) xs i x c.loop-inst-test.true c.inst-item.is in
    record {
      bytes = omega (arith, all_len, held.bytes, c.from-bytes.ensures, c.room_needed-room.ensures.bytes);
      notices = omega (arith, all_notices, held.notices, c.from-notices.ensures, c.room_needed-room.ensures.notices);
      most = omega (arith, held.most, c.from-bytes.ensures, c.room_needed-room.ensures.most);
      most_notices = omega (arith, held.most_notices, c.from-notices.ensures, c.room_needed-room.ensures.notices, one_notice (meaning x state.offsets).memory);
    }
