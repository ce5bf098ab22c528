-- Written by table/write.py from table/instructions.txt.
use Rattle.cax64_operand.specs.declared.nop.Nop.TheVariants.{One, Two, Three, Four, Five, Six, Seven, Eight, Nine}
use Rattle.cax64_operand.specs.declared.operand.Operands.{Operands}
use Rattle.cax64_operand.specs.declared.operand.Operands.TheVariants.{Nop}
use Rattle.nop.specs.declared.nop.nop_1b.{nop_1b}
use Rattle.nop.specs.declared.nop.nop_2b.{nop_2b}
use Rattle.nop.specs.declared.nop.nop_3b.{nop_3b}
use Rattle.nop.specs.declared.nop.nop_4b.{nop_4b}
use Rattle.nop.specs.declared.nop.nop_5b.{nop_5b}
use Rattle.nop.specs.declared.nop.nop_6b.{nop_6b}
use Rattle.nop.specs.declared.nop.nop_7b.{nop_7b}
use Rattle.nop.specs.declared.nop.nop_8b.{nop_8b}
use Rattle.nop.specs.declared.nop.nop_9b.{nop_9b}

-- The operands of each instruction, in the order of visits.

abbrev pub operands_nop_1b : {R A B C D E F : Type 0} → nop_1b → Operands R A B C D E F
operands_nop_1b i = Nop One

abbrev pub operands_nop_2b : {R A B C D E F : Type 0} → nop_2b → Operands R A B C D E F
operands_nop_2b i = Nop Two

abbrev pub operands_nop_3b : {R A B C D E F : Type 0} → nop_3b → Operands R A B C D E F
operands_nop_3b i = Nop Three

abbrev pub operands_nop_4b : {R A B C D E F : Type 0} → nop_4b → Operands R A B C D E F
operands_nop_4b i = Nop Four

abbrev pub operands_nop_5b : {R A B C D E F : Type 0} → nop_5b → Operands R A B C D E F
operands_nop_5b i = Nop Five

abbrev pub operands_nop_6b : {R A B C D E F : Type 0} → nop_6b → Operands R A B C D E F
operands_nop_6b i = Nop Six

abbrev pub operands_nop_7b : {R A B C D E F : Type 0} → nop_7b → Operands R A B C D E F
operands_nop_7b i = Nop Seven

abbrev pub operands_nop_8b : {R A B C D E F : Type 0} → nop_8b → Operands R A B C D E F
operands_nop_8b i = Nop Eight

abbrev pub operands_nop_9b : {R A B C D E F : Type 0} → nop_9b → Operands R A B C D E F
operands_nop_9b i = Nop Nine
