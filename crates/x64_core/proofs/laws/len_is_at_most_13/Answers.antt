use Rattle.x64_core.proofs.Most.{at_most_13}
use Rattle.x64_core.proofs.laws.len_is_at_most_13.Goals as goal

pub returns : goal.returns
returns c = λ core offsets. at_most_13 core offsets
