use Rattle.std.specs.Prelude.{ℕ, Option, option_map}
use Rattle.cax64_machine_code.specs.declared.line.Line.{Line}
use Rattle.cax64_encoder.specs.declared.number.Number.{Number}
use Rattle.cax64_encoder.specs.declared.number.Number.TheVariants.{Settled}
use Rattle.cax64_encoder.specs.declared.numbered.NumberedForm.{NumberedForm}
use Rattle.cax64_table.specs.Numbers.{has_register, has_vvvv}
use Rattle.x64_place.specs.Operand.{placed}
use Rattle.x64_place.specs.When.{when}
use Rattle.x64_place.specs.declared.place.FlatPlace.{FlatPlace}

-- What the code of a line with a place is made of.

-- the register in vvvv, where the line has one
abbrev pub vvvv_in : Line → ℕ → Option Number
vvvv_in line vvvv = option_map Settled (when (has_vvvv line.prefix) vvvv)

-- what numbers stand for in a line
abbrev pub placed_form : Line → ℕ → ℕ → FlatPlace → ℕ → NumberedForm
placed_form line reg vvvv p imm = record { reg = when (has_register line.tail) reg; vvvv = when (has_vvvv line.prefix) vvvv; place = placed p; imm = imm }
