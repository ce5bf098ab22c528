use Rattle.std.proofs.Common.{take}
use Rattle.huqmeris_c.proofs.Listing.{MeasuredSoFar}
use Rattle.huqmeris_c.proofs.encode_all.measure.Given as goal

abbrev pub invariant-loop-i : goal.invariant-loop-i
invariant-loop-i l = MeasuredSoFar (take l.i l.fn.insts) l.bytes l.uses l.i
