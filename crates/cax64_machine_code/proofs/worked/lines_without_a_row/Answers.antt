use Rattle.std.proofs.Common.{◌∷◌, [], refl, lit<}
use Rattle.cax64_machine_code.specs.Fields.{number_at}
use Rattle.cax64_machine_code.specs.Line.{after}
use Rattle.cax64_machine_code.specs.Prefix.{prefix_at, legacy_at, rex_at, vex_at}
use Rattle.cax64_machine_code.specs.ReadLine.{find_line, read_line}
use Rattle.cax64_machine_code.specs.Tail.{read_tail}
use Rattle.cax64_machine_code.specs.WorkedLine.{reg_and_rm}
use Rattle.cax64_machine_code.proofs.worked.lines_without_a_row.Goals as goal

pub returns-clause-of_both : goal.returns-clause-of_both
unfolding read_line find_line prefix_at legacy_at rex_at vex_at after read_tail number_at
returns-clause-of_both c more =
    c.one_line_reads.ensures (reg_and_rm 0x8B ∷ reg_and_rm 0x03 ∷ []) (0x48 ∷ 0x03 ∷ 0xC7 ∷ more) _ refl (1, lit< tt, refl)
    (c.what_follows_is_not_read_by_a_line.ensures (0x48 ∷ 0x03 ∷ 0xC7 ∷ []) more _ refl)
