use Rattle.cax64_operand.specs.declared.nop.Nop.{Nop}
use Rattle.cax64_operand.specs.declared.operand.Operand.{Operand}
use Rattle.cax64_operand.specs.declared.operand.Operands.{Operands}
use Rattle.cax64_operand.specs.declared.operand.Operands.TheVariants as operands

-- what is made of operands, from the last one on
abbrev pub fold : {R A B C D E F T : Type 0} → T → (Operand R A B C D E F → T → T) → (Nop → T) → Operands R A B C D E F → T
fold none with nop operands.Zero = none
fold none with nop (operands.One a) = with a none
fold none with nop (operands.Two a b) = with a (with b none)
fold none with nop (operands.Three a b c) = with a (with b (with c none))
fold none with nop (operands.Four a b c d) = with a (with b (with c (with d none)))
fold none with nop (operands.Five a b c d e) = with a (with b (with c (with d (with e none))))
fold none with nop (operands.Nop own) = nop own

-- the list itself, with one more operand before the others; five is the most that an instruction has
abbrev pub before : {R A B C D E F : Type 0} → Operand R A B C D E F → Operands R A B C D E F → Operands R A B C D E F
before a operands.Zero = operands.One a
before a (operands.One b) = operands.Two a b
before a (operands.Two b c) = operands.Three a b c
before a (operands.Three b c d) = operands.Four a b c d
before a (operands.Four b c d e) = operands.Five a b c d e
before a (operands.Five b c d e f) = operands.Five b c d e f
before a (operands.Nop nop) = operands.Nop nop
