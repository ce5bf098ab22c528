use Rattle.std.specs.Prelude.{Bool, true, ◌&&◌, ◌||◌, nat_lt, Some}
use Rattle.cax64_operand.specs.Family.{Numbering}
use Rattle.cax64_encoder.specs.ImmActions.{imm_word}
use Rattle.cax64_encoder.specs.Marked.{marked_place, marked_value, place_mark}
use Rattle.cax64_encoder.specs.Number.{is_number, number_value}
use Rattle.cax64_encoder.specs.Numbered.{with_register}
use Rattle.cax64_encoder.specs.declared.numbered.NumberedForm.{NumberedForm}
use Rattle.cax64_encoder.specs.declared.part.Part.{Part}
use Rattle.cax64_encoder.specs.declared.part.Part.TheVariants.{Register, TwoRegisters, Fixed, Place, Imm}
use Rattle.cax64_encoder.specs.declared.role.Role.{Role}
use Rattle.cax64_encoder.specs.declared.role.Role.TheVariants as role

-- What an operand adds to what is tested and put: numbers that carry the test.

-- Of two equal registers the second isn't tested, so its number isn't marked.
abbrev pub part_of : {M : Type 0} → Numbering M → Role M → Part
part_of n (role.Register number) = Register (marked_value number)
part_of n (role.TwoRegisters first second same) = TwoRegisters (marked_value first) (number_value second) (same || nat_lt (marked_value second) 16)
part_of n (role.FixedRegister fixed) = Fixed (is_number fixed.held fixed.expected)
part_of n (role.Place operand) = Place (marked_place n operand) (place_mark n operand)
part_of n (role.Immediate imm) = Imm (imm_word imm)

-- whether its registers are as they have to be, but for what is marked
abbrev pub part_met : Part → Bool
part_met (Register number) = nat_lt number 16
part_met (TwoRegisters first second is_second_met) = nat_lt first 16 && is_second_met
part_met (Fixed is_met) = is_met
part_met (Place place mark) = nat_lt place.base 16 && nat_lt place.index 16
part_met (Imm word) = true

-- what the bytes hold of it, before that of the others
abbrev pub form_with : Part → NumberedForm → NumberedForm
form_with (Register number) form = with_register number form
form_with (TwoRegisters first second is_second_met) form = record { reg = Some first; vvvv = Some second; place = form.place; imm = form.imm }
form_with (Fixed is_met) form = form
form_with (Place place mark) form = record { reg = form.reg; vvvv = form.vvvv; place = place; imm = form.imm }
form_with (Imm word) form = record { reg = form.reg; vvvv = form.vvvv; place = form.place; imm = word }
