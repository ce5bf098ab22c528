use Rattle.huqmeris_c.proofs.Opened.{NoneOpen}
use Rattle.x64_code_buffer.specs.Buffer.{places_of}
use Rattle.huqmeris_c.proofs.unbound.first_open.Given as goal

abbrev pub invariant-loop-i : goal.invariant-loop-i
invariant-loop-i l = NoneOpen (places_of l.fn.buffer) l.fn.items l.i
