use Rattle.cax64_machine_code.proofs.ReadLine.{lines_apart, read_is, reads_line, row_reads, row_reads_as}
use Rattle.cax64_machine_code.proofs.laws.rows_are_read_by_their_lines.Goals as goal

pub returns-clause-row : goal.returns-clause-row
returns-clause-row c row bytes reading h = row_reads row bytes reading h

pub returns-clause-line : goal.returns-clause-line
returns-clause-line c bytes reading h = reads_line bytes reading h

pub returns-clause-reads_as : goal.returns-clause-reads_as
returns-clause-reads_as c row meant bytes e h = row_reads_as row meant bytes e h

pub returns-clause-apart : goal.returns-clause-apart
returns-clause-apart c = lines_apart

pub returns-clause-all : goal.returns-clause-all
returns-clause-all c bytes = read_is bytes
