use Rattle.std.proofs.Common.{◌∙◌, drop}
use Rattle.cranelift_assembler_x64.specs.Reading.{Parts, read}
use Rattle.cranelift_assembler_x64.specs.Vec.{vec_state}
use Rattle.client.proofs.Readings.{first_left, is_read, from_on, there_is_one, only_one, next_left, one_more_row}
use Rattle.client.proofs.read_back.read_rows.Goals as goal

pub unwrap-reading-requires : goal.unwrap-reading-requires
unwrap-reading-requires g c =
    let code = c.args.code.now.items in
    let at = c.loop-inst.at in
    let first = first_left (λ (i : g.row.I.Denot). (g.I.Instruction.meant i (vec_state c.args.code.now).offsets).parts) c.args.insts.now c.loop-inst._inst-index c._inst-item.result (drop at code) c.first_of_a_list.ensures c.loop-inst-test.true c._inst-item.is c.loop-inst.invariant.left in
    there_is_one _ first.reading (c.read_inst.ensures.is ∙ from_on read code c.deref.result.now at c.deref.ensures.value ∙ is_read _ _ _ first)

pub loop-inst-preserved : goal.loop-inst-preserved
loop-inst-preserved g c =
    let code = c.args.code.now.items in
    let at = c.loop-inst.at in
    let x = c._inst-item.result in
    let p : g.row.I.Denot → Parts = λ i. (g.I.Instruction.meant i (vec_state c.args.code.now).offsets).parts in
    let first = first_left p c.args.insts.now c.loop-inst._inst-index x (drop at code) c.first_of_a_list.ensures c.loop-inst-test.true c._inst-item.is c.loop-inst.invariant.left in
    let is = c.read_inst.ensures.is ∙ from_on read code c.deref.result.now at c.deref.ensures.value ∙ is_read _ _ _ first in
    let next = next_left _ _ code at c.from-at.result c.unwrap-reading.result first (only_one c.read_inst.result _ _ c.unwrap-reading.ensures is) c.from-at.ensures c.loop-inst.invariant.within in
    record {
      within = next.0;
      left = next.1;
      rows = one_more_row (λ i. (p i).row) c.args.insts.now c.loop-inst._inst-index x _ _ _ _ c.loop-inst-test.true c._inst-item.is next.2 c.loop-inst.invariant.rows c.in_ok-push.ensures.items;
    }
