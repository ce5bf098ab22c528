use Rattle.cax64_machine_code.proofs.Equality.{tells_row, tells_prefix, tells_line, tells_reading}
use Rattle.cax64_machine_code.proofs.laws.laws_of_equality.Goals as goal

pub returns-clause-rows : goal.returns-clause-rows
returns-clause-rows c a b = tells_row a b

pub returns-clause-readings : goal.returns-clause-readings
returns-clause-readings c a b = tells_reading a b

pub returns-clause-prefix_fields : goal.returns-clause-prefix_fields
returns-clause-prefix_fields c a b = tells_prefix a b

pub returns-clause-lines : goal.returns-clause-lines
returns-clause-lines c a b = tells_line a b
