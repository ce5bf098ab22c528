use Rattle.huqmeris_c.proofs.Refusing.{DataUpTo}
use Rattle.huqmeris_c.proofs.data_items.first_bad.Given as goal

abbrev pub invariant-loop-i : goal.invariant-loop-i
invariant-loop-i l = DataUpTo l.fn.items l.i
