use Rattle.cax64_sequence.proofs.InTurn.{first_reads}
use Rattle.cax64_sequence.proofs.laws.first_of_a_list.Goals as goal

pub returns : goal.returns
returns c = first_reads
