use Rattle.cax64_table.proofs.EntryFacts.{facts_of}
use Rattle.cax64_table.proofs.entry.Entry.imm_len.Goals as goal

pub returns : goal.returns
returns c = rw c.bits.ensures (facts_of c.args.self).imm_len
