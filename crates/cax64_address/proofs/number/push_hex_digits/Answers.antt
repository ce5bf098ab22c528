use Rattle.cax64_address.proofs.Fronts.{taken_utf8}
use Rattle.cax64_address.proofs.number.push_hex_digits.Goals as goal

pub or_taken_back-requires : goal.or_taken_back-requires
or_taken_back-requires g c = taken_utf8 c.prepare.new.out c.add_hex_digits-added.new.out c.len-len.result c.len-len.ensures c.add_hex_digits-added.ensures.front
