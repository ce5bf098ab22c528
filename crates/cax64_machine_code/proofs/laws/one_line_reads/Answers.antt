use Rattle.cax64_machine_code.proofs.ReadLine.{contained, line_reads}
use Rattle.cax64_machine_code.proofs.laws.one_line_reads.Goals as goal

pub returns : goal.returns
returns c lines bytes reading apart in_lines h = line_reads lines c.args.line bytes reading apart (contained lines c.args.line in_lines) h
