use Rattle.std.specs.Prelude.{Option, Some, None, List, [], ◌∷◌}
use Rattle.cax64_operand.specs.declared.nop.Nop.{Nop}
use Rattle.cax64_operand.specs.declared.operand.Operand.{Operand}
use Rattle.cax64_operand.specs.declared.operand.Operands.{Operands}
use Rattle.cax64_operand.specs.declared.operand.Operands.TheVariants as operands

-- the operands as a list
abbrev pub list_of : {R A B C D E F : Type 0} → Operands R A B C D E F → List (Operand R A B C D E F)
list_of operands.Zero = []
list_of (operands.One a) = a ∷ []
list_of (operands.Two a b) = a ∷ b ∷ []
list_of (operands.Three a b c) = a ∷ b ∷ c ∷ []
list_of (operands.Four a b c d) = a ∷ b ∷ c ∷ d ∷ []
list_of (operands.Five a b c d e) = a ∷ b ∷ c ∷ d ∷ e ∷ []
list_of (operands.Nop nop) = []

-- which no-operation stands in the place of operands
abbrev pub nop_of : {R A B C D E F : Type 0} → Operands R A B C D E F → Option Nop
nop_of operands.Zero = None
nop_of (operands.One a) = None
nop_of (operands.Two a b) = None
nop_of (operands.Three a b c) = None
nop_of (operands.Four a b c d) = None
nop_of (operands.Five a b c d e) = None
nop_of (operands.Nop nop) = Some nop
