use Rattle.std.proofs.Common.{◌≤◌, arith}
use Rattle.cranelift_assembler_x64.specs.Instruction.{len_in, notices_in}
use Rattle.cranelift_assembler_x64.specs.Room.{HasRoom}
use Rattle.x64_code_buffer.specs.Buffer.{buffer_state}
use Rattle.client.proofs.Left.{left, given_ok}
use Rattle.client.proofs.reserved.push_three.Goals as goal

pub unwrap-requires-2 : goal.unwrap-requires-2
unwrap-requires-2 g c =
    let s = buffer_state c.reserve.new.self in
    let t = buffer_state c.push.new.self in
    let bytes : HasRoom s.byte_room 39 = c.in_ok-reserve.ensures.room_for_bytes in
    let notices : HasRoom s.notice_room 3 = c.in_ok-reserve.ensures.room_for_notices in
    let most : len_in s (g.I.Instruction.meant c.args.first.now) ≤ 13 = given_ok c.push.result _ c.unwrap.ensures c.push.ensures.most_bytes in
    c.push-2.ensures.enough
    (left s.byte_room t.byte_room _ 13 39 c.push.ensures.byte_room (omega (arith, most)) bytes)
    (left s.notice_room t.notice_room _ 1 3 c.push.ensures.notice_room (omega (arith, c.push.ensures.most_notices)) notices)

pub unwrap-requires-3 : goal.unwrap-requires-3
unwrap-requires-3 g c =
    let s = buffer_state c.reserve.new.self in
    let t = buffer_state c.push.new.self in
    let u = buffer_state c.push-2.new.self in
    let bytes : HasRoom s.byte_room 39 = c.in_ok-reserve.ensures.room_for_bytes in
    let notices : HasRoom s.notice_room 3 = c.in_ok-reserve.ensures.room_for_notices in
    let most : len_in s (g.I.Instruction.meant c.args.first.now) ≤ 13 = given_ok c.push.result _ c.unwrap.ensures c.push.ensures.most_bytes in
    let bytes_2 : HasRoom t.byte_room 26 = left s.byte_room t.byte_room _ 26 39 c.push.ensures.byte_room (omega (arith, most)) bytes in
    let notices_2 : HasRoom t.notice_room 2 = left s.notice_room t.notice_room _ 2 3 c.push.ensures.notice_room (omega (arith, c.push.ensures.most_notices)) notices in
    let most_2 : len_in t (g.I.Instruction.meant c.args.second.now) ≤ 13 = given_ok c.push-2.result _ c.unwrap-2.ensures c.push-2.ensures.most_bytes in
    c.push-3.ensures.enough
    (left t.byte_room u.byte_room _ 13 26 c.push-2.ensures.byte_room (omega (arith, most_2)) bytes_2)
    (left t.notice_room u.notice_room _ 1 2 c.push-2.ensures.notice_room (omega (arith, c.push-2.ensures.most_notices)) notices_2)
