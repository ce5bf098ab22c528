use Rattle.cax64_address.proofs.Fronts.{taken_utf8}
use Rattle.cax64_address.proofs.offset.AmodeOffset.push_to.Goals as goal

pub or_taken_back-requires : goal.or_taken_back-requires
or_taken_back-requires g c = taken_utf8 c.args.out.now c.add_to-added.new.out c.len-len.result c.len-len.ensures c.add_to-added.ensures.front
