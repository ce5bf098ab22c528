use Rattle.std.proofs.Common.{◌≡◌, ◌≤◌, ◌++◌, length, map, take, drop}
use Rattle.cranelift_assembler_x64.specs.Sequence.{ReadsAllAs}
use Rattle.cranelift_assembler_x64.specs.Vec.{vec_state}
use Rattle.client.proofs.read_back.read_rows.Given as goal

abbrev pub invariant-loop-inst : goal.invariant-loop-inst
invariant-loop-inst g l =
    record {
      within : l.at ≤ length l.code.items;
      left : ReadsAllAs (map (λ i. (g.I.Instruction.meant i (vec_state l.code).offsets).parts) (drop l._inst-index l.insts)) (drop l.at l.code.items);
      rows : l.rows.items ≡ l.initial.rows.items ++ map (λ i. (g.I.Instruction.meant i (vec_state l.code).offsets).parts.row) (take l._inst-index l.insts);
    }
