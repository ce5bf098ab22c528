use Rattle.std.proofs.Common.{refl}
use Rattle.cax64_machine_code.specs.Rows.{all_rows}
use Rattle.cax64_machine_code.proofs.row.Row.all.Goals as goal

pub returns : goal.returns
unfolding all_rows
returns c = refl
