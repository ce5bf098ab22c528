use Rattle.huqmeris_c.proofs.Turns.{ReadSoFar}
use Rattle.huqmeris_c.proofs.decode_all.read_each.Given as goal

abbrev pub invariant-loop-i : goal.invariant-loop-i
invariant-loop-i l = ReadSoFar l.fn.bytes l.fn.out l.out l.at l.i
