use Rattle.cax64_reader.proofs.Longest.{line_size}
use Rattle.x64_lines.specs.Line.{core_line}
use Rattle.x64_lines.proofs.Table.{op_below}
use Rattle.x64_reader.proofs.Table.{line_is, standing}
use Rattle.x64_reader.proofs.lines.line.Goals as goal

pub line_at-requires : goal.line_at-requires
line_at-requires c = c.number.ensures.below

pub returns-clause-is : goal.returns-clause-is
returns-clause-is c = rw (c.line_at.ensures, c.number.ensures.is) (line_is c.args.op.number)

pub returns-clause-size : goal.returns-clause-size
returns-clause-size c = rw (c.line_at.ensures, c.number.ensures.is, line_is c.args.op.number) (line_size (core_line c.args.op.number) (standing c.args.op.number (op_below c.args.op)).short)
