use Rattle.std.specs.Prelude.{ℕ, Bool, true, ◌&&◌, ◌||◌, nat_lt, is_some, Option, Result, Ok, Err, ℤ, List, [], ◌∷◌}
use Rattle.cax64_address.specs.Offset.{sum_fits}
use Rattle.cax64_operand.specs.Family.{Family, Numbering}
use Rattle.cax64_operand.specs.declared.operand.Operand.{Operand}
use Rattle.cax64_operand.specs.declared.nop.Nop.{Nop}
use Rattle.cax64_sink.specs.declared.SinkError as sink_error
use Rattle.cax64_sink.specs.declared.SinkError.{SinkError}
use Rattle.cax64_encoder.specs.Content.{no_content, nop_content}
use Rattle.cax64_encoder.specs.Part.{form_with, part_met, part_of}
use Rattle.cax64_encoder.specs.Role.{role_of}
use Rattle.cax64_address.specs.declared.offset.AmodeOffsetPlusKnownOffset.{AmodeOffsetPlusKnownOffset}
use Rattle.cax64_encoder.specs.declared.part.Part.{Part}
use Rattle.cax64_encoder.specs.declared.part.Part.TheVariants.{Register, TwoRegisters, Fixed, Place, Imm}
use Rattle.cax64_encoder.specs.declared.role.Role.{Role}
use Rattle.cax64_encoder.specs.declared.tested.Outcome.{Outcome}
use Rattle.cax64_encoder.specs.declared.tested.Outcome.TheVariants.{Put, NoMemory, Full, NotEncodable}
use Rattle.cax64_encoder.specs.declared.tested.Tested.{Tested}

-- What the code is made of, with what decides whether there can be any.

abbrev pub none_tested : Tested
none_tested = record { met = true; mark = 0; content = no_content }

abbrev pub nop_tested : Nop → Tested
nop_tested nop = record { met = true; mark = 0; content = nop_content nop }

-- an index, if one stands, isn't the stack pointer's: what is marked is a late offset, or nothing
abbrev pub index_met : Tested → Bool
index_met tested = is_some tested.content.form.place.displacement.offset || nat_lt tested.mark 16

-- one more operand is as it has to be, and so is what it takes the place of
abbrev pub step_met : Part → Tested → Bool
step_met (Register number) later = part_met (Register number)
step_met (TwoRegisters first second is_second_met) later = part_met (TwoRegisters first second is_second_met)
step_met (Fixed is_met) later = part_met (Fixed is_met)
step_met (Place place mark) later = part_met (Place place mark) && index_met later
step_met (Imm word) later = part_met (Imm word)

abbrev pub mark_with : Part → ℕ → ℕ
mark_with (Register number) later = later
mark_with (TwoRegisters first second is_second_met) later = later
mark_with (Fixed is_met) later = later
mark_with (Place place mark) later = mark
mark_with (Imm word) later = later

-- the same with one more operand before the others
abbrev pub with_part : Part → Tested → Tested
with_part part later = record { met = step_met part later && later.met; mark = mark_with part later.mark; content = record { nop = later.content.nop; form = form_with part later.content.form } }

abbrev pub with_role : {M : Type 0} → Numbering M → Role M → Tested → Tested
with_role n role later = with_part (part_of n role) later

abbrev pub with_tested : {R A B C D E F : Type 0} → Family A B C D E F → Operand R A B C D E F → Tested → Tested
with_tested f operand later = with_role f.read_gpr (role_of f operand) later

abbrev pub tested_roles : {M : Type 0} → Numbering M → List (Role M) → Tested
tested_roles n [] = none_tested
tested_roles n (role ∷ later) = with_role n role (tested_roles n later)

-- there is a late offset, and its sum fits
abbrev pub late_fits : (ℕ → Option ℤ) → AmodeOffsetPlusKnownOffset → Bool
late_fits offsets displacement = is_some displacement.offset && sum_fits offsets displacement.offset displacement.simm32

-- the registers are as they have to be, and what is marked is a late offset that fits, or nothing
abbrev pub can_be_put : (ℕ → Option ℤ) → Tested → Bool
can_be_put offsets tested = tested.met && (nat_lt tested.content.form.place.base 16 && (late_fits offsets tested.content.form.place.displacement || nat_lt tested.mark 16))

-- where it was put, or refused, this holds of what the sink answered; else that holds
abbrev pub ByOutcome : Outcome → (Result (Unit {0}) SinkError → Type 0) → Type 0 → Type 0
ByOutcome Put passed failed = passed (Ok tt)
ByOutcome NoMemory passed failed = passed (Err sink_error.TheVariants.NoMemory)
ByOutcome Full passed failed = passed (Err sink_error.TheVariants.Full)
ByOutcome NotEncodable passed failed = failed
