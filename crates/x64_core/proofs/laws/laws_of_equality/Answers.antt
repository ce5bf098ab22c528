use Rattle.x64_core.proofs.Equality.{same_view, tells_core}
use Rattle.x64_core.proofs.laws.laws_of_equality.Goals as goal

pub returns-clause-core : goal.returns-clause-core
returns-clause-core c = λ a b. tells_core a b

pub returns-clause-view : goal.returns-clause-view
returns-clause-view c = λ a b e. same_view a b e
