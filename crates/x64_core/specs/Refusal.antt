use Rattle.std.specs.Prelude.{ℕ, if◌then◌else◌, Option, Some, is_some, ℤ}
use Rattle.cax64_machine_code.specs.Line.{same_bool}
use Rattle.x64_core.specs.Fits.{place_fits}
use Rattle.x64_lines.specs.Refusal.{imm_refusal}
use Rattle.x64_lines.specs.Shape.{has_reg, has_vvvv}
use Rattle.x64_core.specs.declared.place.CorePlace.{CorePlace}
use Rattle.x64_lines.specs.declared.refused.OperandError.{OperandError}
use Rattle.x64_lines.specs.declared.refused.OperandError.TheVariants as shape
use Rattle.x64_lines.specs.declared.shapes.OpShape.{OpShape}

-- Why operands aren't those that a line of a shape takes.

-- the first of these: a register in reg, or none, where the line has it otherwise; in vvvv; the place; the immediate
abbrev pub refusal : OpShape → Option ℕ → Option ℕ → CorePlace → Option ℤ → Option OperandError
refusal s reg vvvv place value =
    if same_bool (has_reg s.fields) (is_some reg)
    then (if same_bool (has_vvvv s.fields) (is_some vvvv)
    then (if place_fits s.fields place
    then imm_refusal s.imm value
    else Some shape.Place)
    else Some shape.Vvvv)
    else Some shape.Register
