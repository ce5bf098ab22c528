use Rattle.cax64_machine_code.proofs.Whole.{reading_no_front}
use Rattle.cax64_machine_code.proofs.laws.no_reading_begins_another.Goals as goal

pub returns : goal.returns
returns c t u h e k d front =
    front.proper (reading_no_front t front.rest c.args.first c.args.second h e (rw front.whole k) (rw front.whole d))
