use Rattle.cax64_table.proofs.EntryFacts.{facts_of}
use Rattle.cax64_table.proofs.entry.Entry.map.Goals as goal

pub returns-clause-is : goal.returns-clause-is
returns-clause-is c = rw c.bits.ensures (facts_of c.args.self).map
