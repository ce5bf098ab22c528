use Rattle.cax64_machine_code.specs.declared.row.Row.{Row}
use Rattle.cax64_machine_code.specs.declared.row.Row.TheVariants as row
use Rattle.cax64_operand.specs.declared.operand.Operands.{Operands}
use Rattle.nop.specs.Operands.{operands_nop_1b}
use Rattle.inst_twin.specs.declared.Twin.{Twin}
use Rattle.inst_twin.specs.declared.Twin.TheVariants as twin

-- An instruction of the enumeration is the one within.

unfoldable pub row_of : {R A B C D E F : Type 0} → Twin R A B C D E F → Row
row_of (twin.nop_1b i) = row.nop_1b
row_of (twin.mulxl_twin i) = row.mulxl_rvm

unfoldable pub operands_of : {R A B C D E F : Type 0} → Twin R A B C D E F → Operands R A B C D E F
operands_of (twin.nop_1b i) = operands_nop_1b i
operands_of (twin.mulxl_twin i) = i
