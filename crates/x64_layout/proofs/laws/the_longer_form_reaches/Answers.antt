use Rattle.std.proofs.Common.{arith}
use Rattle.std.proofs.lemmas.Int.{ints}
use Rattle.std.proofs.lemmas.List.Sums.{sum_by-take-le}
use Rattle.x64_layout.proofs.Growth.{layout_bytes}
use Rattle.x64_layout.proofs.laws.the_longer_form_reaches.Goals as goal

pub returns-clause-small : goal.returns-clause-small
returns-clause-small c = layout_bytes

pub returns-clause-reaches : goal.returns-clause-reaches
returns-clause-reaches c = λ spans lens n spot are layout.
    omega (arith, ints, layout_bytes spans lens are layout, sum_by-take-le (λ x. x) lens n, sum_by-take-le (λ x. x) lens spot)
