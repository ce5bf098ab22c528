use Rattle.std.specs.Prelude.{◌≡◌, ℕ, Bool, true, ◌&&◌, false, Option, Some, None, option_map, pos}
use Rattle.cax64_address.specs.declared.amode.Amode.{Amode}
use Rattle.cax64_address.specs.declared.amode.Amode.TheVariants.{ImmReg, ImmRegRegShift, RipRelative}
use Rattle.cax64_address.specs.declared.amode.Scale.TheVariants.{One}
use Rattle.cax64_address.specs.declared.offset.AmodeOffsetPlusKnownOffset.{AmodeOffsetPlusKnownOffset}
use Rattle.cax64_machine_code.specs.declared.line.Line.{Line}
use Rattle.cax64_operand.specs.Family.{Numbering}
use Rattle.cax64_sink.specs.declared.DeferredTarget.{DeferredTarget}
use Rattle.cax64_encoder.specs.Form.{Form}
use Rattle.cax64_encoder.specs.ImmActions.{imm_named, imm_word, optional_imm_word}
use Rattle.cax64_encoder.specs.Notices.{trap_count}
use Rattle.cax64_encoder.specs.Number.{number_value}
use Rattle.cax64_encoder.specs.Real as real
use Rattle.cax64_encoder.specs.Role.{number}
use Rattle.cax64_encoder.specs.declared.number.Number.TheVariants.{Settled}
use Rattle.cax64_encoder.specs.declared.numbered.NumberedForm.{NumberedForm}
use Rattle.cax64_encoder.specs.declared.numbered.NumberedPlace.{NumberedPlace}
use Rattle.cax64_encoder.specs.declared.role.PlaceOperand as place
use Rattle.cax64_encoder.specs.declared.role.PlaceOperand.{PlaceOperand}
use Rattle.cax64_encoder.specs.declared.role.Role.{Role}
use Rattle.cax64_encoder.specs.declared.role.Role.TheVariants as role

-- Operands by their numbers.

abbrev pub no_displacement : AmodeOffsetPlusKnownOffset
no_displacement = record { simm32 = pos 0; offset = None }

abbrev pub no_place : NumberedPlace
no_place = record { stands = false; is_register = false; has_index = false; relative = None; base = 0; index = 0; register = 0; scale = One; displacement = no_displacement; trap = None }

abbrev pub register_place : ℕ → NumberedPlace
register_place number = record { stands = true; is_register = true; has_index = false; relative = None; base = number; index = 0; register = number; scale = One; displacement = no_displacement; trap = None }

abbrev pub numbered_amode : {M : Type 0} → Numbering M → Amode M → NumberedPlace
numbered_amode n (ImmReg base simm32 trap) = record { stands = true; is_register = false; has_index = false; relative = None; base = number_value (number n base); index = 4; register = 0; scale = One; displacement = simm32; trap = trap }
numbered_amode n (ImmRegRegShift base index scale simm32 trap) = record { stands = true; is_register = false; has_index = true; relative = None; base = number_value (number n base); index = number_value (number n index); register = 0; scale = scale; displacement = record { simm32 = simm32; offset = None }; trap = trap }
numbered_amode n (RipRelative target) = record { stands = true; is_register = false; has_index = false; relative = Some target; base = 0; index = 0; register = 0; scale = One; displacement = no_displacement; trap = None }

abbrev pub numbered_place : {M : Type 0} → Numbering M → PlaceOperand M → NumberedPlace
numbered_place n place.TheVariants.NoPlace = no_place
numbered_place n (place.TheVariants.Register number) = register_place (number_value number)
numbered_place n (place.TheVariants.Memory amode) = numbered_amode n amode

abbrev pub numbered_form : {M : Type 0} → Numbering M → Form M → NumberedForm
numbered_form n form = record { reg = option_map number_value form.reg; vvvv = option_map number_value form.vvvv; place = numbered_place n form.place; imm = optional_imm_word form.imm }

-- The same put together from the last operand to the first.

abbrev pub no_form : NumberedForm
no_form = record { reg = None; vvvv = None; place = no_place; imm = 0 }

-- Of two registers the first stands in reg, the second in vvvv.
abbrev pub with_register : ℕ → NumberedForm → NumberedForm
with_register number form = record { reg = Some number; vvvv = form.reg; place = form.place; imm = form.imm }

abbrev pub with_role : {M : Type 0} → Numbering M → Role M → NumberedForm → NumberedForm
with_role n (role.Register number) form = with_register (number_value number) form
with_role n (role.TwoRegisters first second same) form = record { reg = Some (number_value first); vvvv = Some (number_value second); place = form.place; imm = form.imm }
with_role n (role.FixedRegister fixed) form = form
with_role n (role.Place operand) form = record { reg = form.reg; vvvv = form.vvvv; place = numbered_place n operand; imm = form.imm }
with_role n (role.Immediate imm) form = record { reg = form.reg; vvvv = form.vvvv; place = form.place; imm = imm_word imm }

-- how many notices an instruction with this place makes
abbrev pub relative_notices : Option DeferredTarget → ℕ → ℕ
relative_notices None trap = trap
relative_notices (Some target) trap = 1

abbrev pub notice_count : NumberedPlace → ℕ
notice_count place = relative_notices place.relative (trap_count place.trap)

-- What numbers stand for: operands whose registers are plain numbers.

abbrev pub plain : Numbering ℕ
plain = record { settled = λ _. true; enc = λ number. number }

-- by whether anything stands, the target, whether it is a register, whether there is an index
abbrev pub flags_named : Bool → Option DeferredTarget → Bool → Bool → NumberedPlace → PlaceOperand ℕ
flags_named false relative is_register has_index numbers = place.TheVariants.NoPlace
flags_named true (Some target) is_register has_index numbers = place.TheVariants.Memory (RipRelative target)
flags_named true None true has_index numbers = place.TheVariants.Register (Settled numbers.register)
flags_named true None false true numbers = place.TheVariants.Memory (ImmRegRegShift numbers.base numbers.index numbers.scale numbers.displacement.simm32 numbers.trap)
flags_named true None false false numbers = place.TheVariants.Memory (ImmReg numbers.base numbers.displacement numbers.trap)

abbrev pub place_named : NumberedPlace → PlaceOperand ℕ
place_named numbers = flags_named numbers.stands numbers.relative numbers.is_register numbers.has_index numbers

-- in a row of this line
abbrev pub form_named : Line → NumberedForm → Form ℕ
form_named line numbers = record { reg = option_map Settled numbers.reg; vvvv = option_map Settled numbers.vvvv; place = place_named numbers.place; imm = imm_named line.imm numbers.imm }

-- the numbers of a place are all those of what they stand for
abbrev pub IsNumbered : NumberedPlace → Type 0
IsNumbered numbers = numbers ≡ numbered_place plain (place_named numbers)

-- and so is the immediate in a row of this line
abbrev pub HasImmWord : Line → NumberedForm → Type 0
HasImmWord line numbers = numbers.imm ≡ optional_imm_word (imm_named line.imm numbers.imm)

abbrev pub place_is_real : NumberedPlace → Bool
place_is_real numbers = real.place_is_real plain.settled plain.enc (place_named numbers)

abbrev pub form_is_real : NumberedForm → Bool
form_is_real numbers = real.is_absent_or_real (option_map Settled numbers.reg) && (real.is_absent_or_real (option_map Settled numbers.vvvv) && place_is_real numbers.place)
