use Rattle.std.proofs.Common.{◌∙◌, ap}
use Rattle.cax64_table.specs.Packed.{unpacked}
use Rattle.x64_lines.proofs.Table.{entry_is, line_is}
use Rattle.x64_lines.proofs.lines.entry.Goals as goal

pub of_entry-requires : goal.of_entry-requires
of_entry-requires c = rw c.packed.ensures (entry_is c.args.number c.requires)

pub returns : goal.returns
returns c = c.of_entry.ensures ∙ ap unpacked c.packed.ensures ∙ line_is c.args.number c.requires
