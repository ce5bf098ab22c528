use Rattle.cax64_machine_code.specs.declared.row.Row.{Row}
use Rattle.cax64_machine_code.specs.declared.row.Row.TheVariants.{nop_1b, nop_2b, nopl_rm, nopw_rm}
use Rattle.cax64_operand.specs.declared.nop.Nop.{Nop}
use Rattle.cax64_operand.specs.declared.nop.Nop.TheVariants.{One, Two, Three, Four, Five, Six, Seven, Eight, Nine}

-- The row of a no-operation; several share one.
abbrev pub nop_row : Nop → Row
nop_row One = nop_1b
nop_row Two = nop_2b
nop_row Three = nopl_rm
nop_row Four = nopl_rm
nop_row Five = nopl_rm
nop_row Six = nopw_rm
nop_row Seven = nopl_rm
nop_row Eight = nopl_rm
nop_row Nine = nopw_rm
