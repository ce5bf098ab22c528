use Rattle.std.specs.Prelude.{◌&&◌, Bool, true, List, [], ◌∷◌}
use Rattle.x64_lines.specs.declared.operands.Home.{Home}
use Rattle.x64_lines.specs.declared.operands.Home.TheVariants as home
use Rattle.x64_lines.specs.declared.operands.LineOperand.{LineOperand}
use Rattle.x64_text.specs.Text.{has_name}

-- Registers that lines fix have names.

abbrev pub is_named : Home → Bool
is_named home.Reg = true
is_named home.Vvvv = true
is_named home.Place = true
is_named (home.Fixed number) = has_name number
is_named home.Imm = true
is_named home.Stack = true

abbrev pub all_named : List LineOperand → Bool
all_named [] = true
all_named (operand ∷ operands) = is_named operand.home && all_named operands
