use Rattle.cax64_encoder.specs.Checked.{none_checked, with_checked_operand}
use Rattle.cax64_encoder.specs.Content.{no_content, nop_content, with_content}
use Rattle.cax64_operand.specs.Family.{Family}
use Rattle.cax64_operand.specs.Fold.{fold}
use Rattle.cax64_operand.specs.declared.nop.Nop.{Nop}
use Rattle.cax64_operand.specs.declared.operand.Operand.{Operand}
use Rattle.cax64_operand.specs.declared.operand.Operands.{Operands}
use Rattle.x64_of_port.specs.declared.given.Given.{Given}

-- What operands give, from the last one to the first.

abbrev pub none_given : Given
none_given = record { checked = none_checked; content = no_content }

abbrev pub with_given : {R A B C D E F : Type 0} → Family A B C D E F → Operand R A B C D E F → Given → Given
with_given f operand given = record { checked = with_checked_operand f operand given.checked; content = with_content f operand given.content }

abbrev pub nop_given : Nop → Given
nop_given nop = record { checked = none_checked; content = nop_content nop }

-- all operands of an instruction
abbrev pub given_of : {R A B C D E F : Type 0} → Family A B C D E F → Operands R A B C D E F → Given
given_of f o = fold none_given (with_given f) nop_given o
