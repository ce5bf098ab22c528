use Rattle.huqmeris_c.specs.Listed.{AreReady}
use Rattle.huqmeris_c.proofs.encode_all.are_ready.Given as goal

abbrev pub invariant-loop-i : goal.invariant-loop-i
invariant-loop-i l = AreReady l.fn.insts l.i
