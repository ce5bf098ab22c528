use Rattle.std.proofs.Common.{◌≡◌}
use Rattle.cax64_machine_code.specs.Rows.{all_rows}
use Rattle.cax64_machine_code.proofs.Named.{StandsFrom}
use Rattle.cax64_machine_code.proofs.row.Row.from_name.Given as goal

-- a row of the name isn't among those that were looked at
abbrev pub invariant-loop-row : goal.invariant-loop-row
invariant-loop-row l = (l.row-items ≡ all_rows) × StandsFrom l.row-index l.name
