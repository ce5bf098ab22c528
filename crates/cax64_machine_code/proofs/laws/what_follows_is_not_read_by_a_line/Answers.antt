use Rattle.cax64_machine_code.proofs.ReadLine.{line_more}
use Rattle.cax64_machine_code.proofs.laws.what_follows_is_not_read_by_a_line.Goals as goal

pub returns : goal.returns
returns c bytes more reading h = line_more c.args.line bytes more reading h
