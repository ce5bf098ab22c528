use Rattle.std.specs.Prelude.{Some, None}
use Rattle.cax64_operand.specs.Family.{Family}
use Rattle.cax64_operand.specs.OperandList.{list_of, nop_of}
use Rattle.cax64_operand.specs.declared.operand.Operand.{Operand}
use Rattle.cax64_operand.specs.declared.operand.Operands.{Operands}
use Rattle.cax64_operand.specs.declared.nop.Nop.{Nop}
use Rattle.cax64_encoder.specs.Form.{form_of}
use Rattle.cax64_encoder.specs.Numbered.{numbered_form, no_form, with_role}
use Rattle.cax64_encoder.specs.Role.{role_of}
use Rattle.cax64_encoder.specs.declared.content.Content.{Content}

-- What the encoder keeps of operands.
abbrev pub content_of : {R A B C D E F : Type 0} → Family A B C D E F → Operands R A B C D E F → Content
content_of f operands = record { nop = nop_of operands; form = numbered_form f.read_gpr (form_of f (list_of operands)) }

-- the same put together from the last operand to the first

abbrev pub no_content : Content
no_content = record { nop = None; form = no_form }

abbrev pub nop_content : Nop → Content
nop_content nop = record { nop = Some nop; form = no_form }

abbrev pub with_content : {R A B C D E F : Type 0} → Family A B C D E F → Operand R A B C D E F → Content → Content
with_content f operand content = record { nop = content.nop; form = with_role f.read_gpr (role_of f operand) content.form }
