use Rattle.x64_lines.proofs.Table.{flag_is, op_below}
use Rattle.x64_lines.proofs.op.Op.flags.Goals as goal

pub returns-clause-fit : goal.returns-clause-fit
returns-clause-fit c = rw c.line_flags.ensures (flag_is c.args.self.number (op_below c.args.self))
