use Rattle.huqmeris_c.specs.Putting.{Begun}
use Rattle.huqmeris_c.proofs.assemble.give_labels.Given as goal

abbrev pub invariant-loop-i : goal.invariant-loop-i
invariant-loop-i l = Begun l.i l.buffer
