use Rattle.cax64_table.proofs.EntryFacts.{facts_of}
use Rattle.cax64_table.proofs.entry.Entry.uses_8bit.Goals as goal

pub returns : goal.returns
returns c = rw c.flag.ensures (facts_of c.args.self).uses_8bit
