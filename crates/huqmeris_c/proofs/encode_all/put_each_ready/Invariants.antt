use Rattle.std.proofs.Common.{drop, take}
use Rattle.huqmeris_c.proofs.Listing.{PutSoFar}
use Rattle.huqmeris_c.proofs.encode_all.put_each_ready.Given as goal

abbrev pub invariant-loop-i : goal.invariant-loop-i
invariant-loop-i l = PutSoFar (take l.i l.fn.insts) (drop l.i l.fn.insts) l.fn.code l.code l.fn.uses l.uses l.at l.count l.i
