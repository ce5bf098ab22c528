use Rattle.cax64_address.proofs.Fronts.{taken_utf8}
use Rattle.cax64_address.proofs.number.push_short_number.Goals as goal

pub or_taken_back-requires : goal.or_taken_back-requires
or_taken_back-requires g c = taken_utf8 c.args.out.now c.add_short_number-added.new.out c.len-len.result c.len-len.ensures c.add_short_number-added.ensures.front
