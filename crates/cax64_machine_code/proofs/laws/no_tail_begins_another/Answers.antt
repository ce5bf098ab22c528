use Rattle.cax64_machine_code.proofs.Extended.{tail_no_front}
use Rattle.cax64_machine_code.proofs.laws.no_tail_begins_another.Goals as goal

pub returns : goal.returns
returns c x b factor t u first second h he k ke front =
    front.proper (tail_no_front x b factor t front.rest first second h he (rw front.whole k) ke)
