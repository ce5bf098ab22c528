use Rattle.std.proofs.Common.{◌∷◌, [], refl}
use Rattle.cax64_machine_code.specs.Reading.{read, find, row_at, operands_at}
use Rattle.cax64_machine_code.specs.Rows.{line_of, all_rows}
use Rattle.cax64_machine_code.specs.Line.{after}
use Rattle.cax64_machine_code.specs.Prefix.{prefix_at, legacy_at, rex_at, vex_at}
use Rattle.cax64_machine_code.specs.Fields.{number_at}
use Rattle.cax64_machine_code.proofs.worked.longer_than_an_instruction.Goals as goal

pub returns : goal.returns
unfolding read find row_at operands_at line_of all_rows after prefix_at legacy_at rex_at vex_at number_at
returns c more longer h all =
    c.no_reading_begins_another.ensures (0x24 ∷ 0xAA ∷ []) (0x24 ∷ 0xAA ∷ more) refl refl h all (record { rest = more; whole = refl; proper = longer })
