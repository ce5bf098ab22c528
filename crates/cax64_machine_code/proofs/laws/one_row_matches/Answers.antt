use Rattle.cax64_machine_code.proofs.Uniqueness.{one_row}
use Rattle.cax64_machine_code.proofs.laws.one_row_matches.Goals as goal

pub returns : goal.returns
returns c prefix bytes r s h k = one_row c.args.a c.args.b prefix bytes r s h k
