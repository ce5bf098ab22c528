use Rattle.std.proofs.Common.{take}
use Rattle.huqmeris_c.specs.Putting.{MakesEach}
use Rattle.huqmeris_c.proofs.list.list_items.Given as goal

abbrev pub invariant-loop-i : goal.invariant-loop-i
invariant-loop-i l = MakesEach (take l.i l.fn.items) l.list.items
