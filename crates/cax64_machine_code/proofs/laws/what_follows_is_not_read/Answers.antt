use Rattle.cax64_machine_code.proofs.Whole.{read_more}
use Rattle.cax64_machine_code.proofs.laws.what_follows_is_not_read.Goals as goal

pub returns : goal.returns
returns c t more h = read_more t more c.args.reading h
