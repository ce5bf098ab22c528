use Rattle.std.proofs.Common.{◌∙◌, ap}
use Rattle.cax64_table.specs.Packed.{unpacked}
use Rattle.cax64_table.proofs.EntryFacts.{rows_are}
use Rattle.cax64_table.proofs.Table.{entry_is}
use Rattle.cax64_table.proofs.entry.Entry.of_row.Goals as goal

pub returns : goal.returns
returns c = ap unpacked c.entry.ensures ∙ entry_is c.args.row

pub invariant_of-result : goal.invariant_of-result
invariant_of-result c = record { is = rw c.entry.ensures (rows_are c.args.row) }
