use Rattle.std.specs.Prelude.{Bool, true, false, not, ◌&&◌, Option, Some, None, List, [], ◌∷◌}
use Rattle.cax64_machine_code.specs.declared.line.Line.{Line}
use Rattle.cax64_machine_code.specs.declared.line.PlaceField.{PlaceField}
use Rattle.cax64_machine_code.specs.declared.line.PlaceField.TheVariants.{Memory, RegisterOrMemory, Register8OrMemory}
use Rattle.cax64_machine_code.specs.declared.line.PrefixField.{PrefixField}
use Rattle.cax64_machine_code.specs.declared.line.PrefixField.TheVariants.{LegacyField, VexField}
use Rattle.cax64_machine_code.specs.declared.line.RegField.{RegField}
use Rattle.cax64_machine_code.specs.declared.line.RegField.TheVariants.{Digit, Register8, Register}
use Rattle.cax64_machine_code.specs.declared.line.TailField.{TailField}
use Rattle.cax64_machine_code.specs.declared.line.TailField.TheVariants.{NoTail, Modrm}
use Rattle.cax64_machine_code.specs.declared.line.VvvvField.TheVariants.{VvvvRegister, Stored1111}
use Rattle.cax64_operand.specs.Family.{Family}
use Rattle.cax64_operand.specs.Shape.{imm_fits}
use Rattle.cax64_operand.specs.declared.operand.Operand.{Operand}
use Rattle.cax64_encoder.specs.Role.{roles_of}
use Rattle.cax64_operand.specs.declared.immediate.ImmOperand.{ImmOperand}
use Rattle.cax64_encoder.specs.declared.number.Number.{Number}
use Rattle.cax64_encoder.specs.declared.role.PlaceOperand as place
use Rattle.cax64_encoder.specs.declared.role.PlaceOperand.{PlaceOperand}
use Rattle.cax64_encoder.specs.declared.role.Role.{Role}
use Rattle.cax64_encoder.specs.declared.role.Role.TheVariants as role

-- The operands that the bytes hold. What an instruction lacks is absent.
pub record Form (M : Type 0) : Type 0 where
  -- the register in the reg field of ModR/M
  pub reg : Option Number
  -- the register in vvvv of a VEX prefix
  pub vvvv : Option Number
  -- what the rest of the tail names
  pub place : PlaceOperand M
  pub imm : Option ImmOperand

-- The form of operands, put together from the last to the first.

abbrev pub no_form : {M : Type 0} → Form M
no_form = record { reg = None; vvvv = None; place = place.TheVariants.NoPlace; imm = None }

abbrev pub with_role : {M : Type 0} → Role M → Form M → Form M
with_role (role.Register number) form = record { reg = Some number; vvvv = form.reg; place = form.place; imm = form.imm }
with_role (role.TwoRegisters first second same) form = record { reg = Some first; vvvv = Some second; place = form.place; imm = form.imm }
with_role (role.FixedRegister fixed) form = form
with_role (role.Place operand) form = record { reg = form.reg; vvvv = form.vvvv; place = operand; imm = form.imm }
with_role (role.Immediate imm) form = record { reg = form.reg; vvvv = form.vvvv; place = form.place; imm = Some imm }

abbrev pub with_roles : {M : Type 0} → List (Role M) → Form M
with_roles [] = no_form
with_roles (role ∷ later) = with_role role (with_roles later)

abbrev pub form_of : {R A B C D E F : Type 0} → Family A B C D E F → List (Operand R A B C D E F) → Form A
form_of f operands = with_roles (roles_of f operands)

-- what an operand is to the rest of the tail, or else this
abbrev pub place_or : {M : Type 0} → Role M → PlaceOperand M → PlaceOperand M
place_or (role.Register number) later = later
place_or (role.TwoRegisters first second same) later = later
place_or (role.FixedRegister fixed) later = later
place_or (role.Place operand) later = operand
place_or (role.Immediate imm) later = later

-- Whether a form has the shape that a row asks for.

abbrev pub reg_fits : RegField → Option Number → Bool
reg_fits (Digit d) None = true
reg_fits (Digit d) (Some number) = false
reg_fits Register8 None = false
reg_fits Register8 (Some number) = true
reg_fits Register None = false
reg_fits Register (Some number) = true

abbrev pub place_fits : {M : Type 0} → PlaceField → PlaceOperand M → Bool
place_fits field place.TheVariants.NoPlace = false
place_fits Memory (place.TheVariants.Register number) = false
place_fits RegisterOrMemory (place.TheVariants.Register number) = true
place_fits Register8OrMemory (place.TheVariants.Register number) = true
place_fits field (place.TheVariants.Memory amode) = true

abbrev pub is_no_place : {M : Type 0} → PlaceOperand M → Bool
is_no_place place.TheVariants.NoPlace = true
is_no_place (place.TheVariants.Register number) = false
is_no_place (place.TheVariants.Memory amode) = false

abbrev pub is_absent : Option Number → Bool
is_absent None = true
is_absent (Some number) = false

abbrev pub tail_fits : {M : Type 0} → TailField → Option Number → PlaceOperand M → Bool
tail_fits NoTail number operand = is_absent number && is_no_place operand
tail_fits (Modrm reg field) number operand = reg_fits reg number && place_fits field operand

abbrev pub vvvv_fits : PrefixField → Option Number → Bool
vvvv_fits (LegacyField set rex) number = is_absent number
vvvv_fits (VexField pp map l VvvvRegister) number = not (is_absent number)
vvvv_fits (VexField pp map l Stored1111) number = is_absent number

-- the form has the line's shape
abbrev pub fits : {M : Type 0} → Line → Form M → Bool
fits line form = tail_fits line.tail form.reg form.place && (vvvv_fits line.prefix form.vvvv && imm_fits line.imm form.imm)
