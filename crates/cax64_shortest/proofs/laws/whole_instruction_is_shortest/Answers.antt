use Rattle.cax64_shortest.proofs.Structs.{meant_shortest}
use Rattle.cax64_shortest.proofs.laws.whole_instruction_is_shortest.Goals as goal

pub returns : goal.returns
returns g c offsets bytes reading short hb h same =
    meant_shortest _ _ _ offsets (g.I.Instruction.meant c.args.inst.now offsets) bytes reading (g.met.I.Instruction.follows c.args.inst.now offsets) c.row-row.ensures.signature short hb h same
