use Rattle.cax64_table.proofs.EntryFacts.{facts_of}
use Rattle.cax64_table.proofs.entry.Entry.digit.Goals as goal

pub returns-clause-value : goal.returns-clause-value
returns-clause-value c = rw c.bits.ensures (facts_of c.args.self).digit
