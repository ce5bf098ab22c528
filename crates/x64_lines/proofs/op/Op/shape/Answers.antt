use Rattle.x64_lines.proofs.Table.{op_below, shape_is}
use Rattle.x64_lines.proofs.op.Op.shape.Goals as goal

pub returns-clause-fits : goal.returns-clause-fits
returns-clause-fits c = rw c.shape.ensures (shape_is c.args.self.number (op_below c.args.self))
