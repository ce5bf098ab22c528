use Rattle.cax64_table.proofs.EntryFacts.{facts_of}
use Rattle.cax64_table.proofs.entry.Entry.is_vex.Goals as goal

pub returns : goal.returns
returns c = rw c.flag.ensures (facts_of c.args.self).vex
