use Rattle.cax64_machine_code.specs.Prefix.{rex_of}
use Rattle.cax64_prefix.proofs.RexBits.{none_reads_back, some_reads_back, bits_of_byte}
use Rattle.cax64_prefix.proofs.rex.RexPrefix.encode.Goals as goal

pub returns-in-Some-clause-reads : goal.returns-in-Some-clause-reads
returns-in-Some-clause-reads g c = rw (← c.self.view_is, c.in-Some.is) (some_reads_back (rex_of c.in-Some.byte) (bits_of_byte c.in-Some.byte))

pub returns-in-None-clause-reads : goal.returns-in-None-clause-reads
returns-in-None-clause-reads g c = rw (← c.self.view_is, c.in-None.is) none_reads_back
