use Rattle.cax64_address.proofs.TailLengths.{alone_length}
use Rattle.cax64_address.proofs.laws.laws_of_length.Goals as goal

pub returns : goal.returns
returns c = λ place. alone_length place
