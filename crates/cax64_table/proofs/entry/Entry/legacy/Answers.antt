use Rattle.cax64_table.proofs.EntryFacts.{facts_of}
use Rattle.cax64_table.proofs.entry.Entry.legacy.Goals as goal

pub returns-clause-bytes : goal.returns-clause-bytes
returns-clause-bytes c = rw (c.half_word.ensures, c.bits.ensures) (facts_of c.args.self).legacy

pub returns-clause-below : goal.returns-clause-below
returns-clause-below c = rw (c.half_word.ensures, c.bits.ensures) (facts_of c.args.self).legacy_below
