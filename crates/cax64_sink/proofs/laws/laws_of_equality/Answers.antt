use Rattle.cax64_sink.proofs.Equality.{same_notice, equal_notices}
use Rattle.cax64_sink.proofs.laws.laws_of_equality.Goals as goal

pub returns-clause-notices : goal.returns-clause-notices
returns-clause-notices c = λ a b. (same_notice a b, equal_notices a b)
