use Rattle.cax64_table.proofs.EntryFacts.{facts_of}
use Rattle.cax64_table.proofs.entry.Entry.has_vvvv.Goals as goal

pub returns : goal.returns
returns c = rw (c.flag.ensures, c.flag-2.ensures) (facts_of c.args.self).vvvv
