use Rattle.std.proofs.Common.{◌≡◌, take}
use Rattle.huqmeris_c.specs.Putting.{traps_in}
use Rattle.huqmeris_c.proofs.traps.list_traps.Given as goal

abbrev pub invariant-loop-i : goal.invariant-loop-i
invariant-loop-i l = l.list.items ≡ traps_in (take l.i l.fn.notices)
