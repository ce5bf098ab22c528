use Rattle.x64_layout.proofs.Growth.{Round}
use Rattle.x64_layout.proofs.rounds.lengthen.Given as goal

abbrev pub invariant-loop-n : goal.invariant-loop-n
invariant-loop-n l = Round l.spans l.initial.lens l.lens l.grew l.n
