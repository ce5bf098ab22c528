use Rattle.cax64_machine_code.specs.WorkedLine.{reg_and_rm}
use Rattle.cax64_shortest.proofs.worked.least_lengths_by_a_line.Goals as goal

pub returns-clause-register : goal.returns-clause-register
returns-clause-register c bytes reading hb h same = c.line_len_is_least.ensures.no_shorter (reg_and_rm 0x03) _ bytes reading hb h same

pub returns-clause-memory : goal.returns-clause-memory
returns-clause-memory c bytes reading hb h same = c.line_len_is_least.ensures.no_shorter (reg_and_rm 0x03) _ bytes reading hb h same
