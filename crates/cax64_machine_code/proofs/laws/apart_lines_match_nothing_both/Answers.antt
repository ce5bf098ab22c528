use Rattle.cax64_machine_code.proofs.Uniqueness.{excluded}
use Rattle.cax64_machine_code.proofs.laws.apart_lines_match_nothing_both.Goals as goal

pub returns : goal.returns
returns c prefix bytes r s a h k = excluded c.args.first c.args.second prefix bytes r s a h k
