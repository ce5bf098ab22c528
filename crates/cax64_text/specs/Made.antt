-- What is made of operands for texts.
use Rattle.std.specs.Prelude.{Bool, ◌||◌}
use Rattle.cax64_operand.specs.declared.operand.Operand.{Operand}
use Rattle.cax64_text.specs.Operand.{is_register}
use Rattle.cax64_text.specs.declared.folds.ByRegister.{ByRegister}

abbrev pub register_if : Bool → ByRegister
register_if register = record { register = register }

abbrev pub with_register : {R A B C D E F : Type 0} → Operand R A B C D E F → ByRegister → ByRegister
with_register operand later = register_if (is_register operand || later.register)
