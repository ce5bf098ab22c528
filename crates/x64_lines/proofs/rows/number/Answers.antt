use Rattle.std.proofs.Common.{refl}
use Rattle.cax64_table.specs.Packed.{number_of}
use Rattle.cax64_table.proofs.Table.{number_below}
use Rattle.x64_lines.proofs.rows.number.Goals as goal

pub returns : goal.returns
unfolding number_of
returns c = record { is = refl; below = number_below c.args.row }
