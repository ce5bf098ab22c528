use Rattle.std.proofs.Common.{◌∙◌, sym}
use Rattle.x64_plain.proofs.Places.{same_place}
use Rattle.x64_plain.proofs.place.HqPlace.place.Goals as goal

pub returns-clause-alone : goal.returns-clause-alone
returns-clause-alone c = λ p h. c.of_numbers.ensures ∙ same_place _ p (c.in_ok-numbers.ensures.is ∙ sym h)
