use Rattle.std.proofs.Common.{◌∙◌, ap}
use Rattle.cax64_table.specs.Packed.{unpacked}
use Rattle.cax64_table.proofs.Table.{entry_is}
use Rattle.cax64_table.proofs.packed.line.Goals as goal

pub returns : goal.returns
returns c = c.unpack.ensures ∙ ap unpacked c.entry.ensures ∙ entry_is c.args.row
