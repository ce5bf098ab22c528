use Rattle.std.specs.Prelude.{◌&&◌, not, Bool, Option, Some, None, is_none, is_some}
use Rattle.cax64_machine_code.specs.declared.reading.Place.{Place}
use Rattle.cax64_machine_code.specs.declared.reading.Place.TheVariants.{Reg, Mem, Rip}
use Rattle.cax64_machine_code.specs.Line.{same_bool}
use Rattle.x64_lines.specs.Refusal.{imm_refusal}
use Rattle.x64_lines.specs.Shape.{has_mem, has_reg, has_rm, has_vvvv, shape_of}
use Rattle.x64_lines.specs.declared.shapes.OpFields.{OpFields}
use Rattle.x64_lines.specs.declared.shapes.OpShape.{OpShape}
use Rattle.x64_reader.specs.declared.reading.CoreReading.{CoreReading}

-- There is an operand for each that the line takes, and no other, and an immediate in its range.

abbrev pub place_taken : OpFields → Option Place → Bool
place_taken fields None = not (has_mem fields)
place_taken fields (Some (Reg view)) = has_rm fields
place_taken fields (Some (Mem base index disp)) = has_mem fields
place_taken fields (Some (Rip disp)) = has_mem fields

abbrev pub is_taken_by : OpShape → CoreReading → Bool
is_taken_by shape r =
    same_bool (has_reg shape.fields) (is_some r.reg)
    && (same_bool (has_vvvv shape.fields) (is_some r.vvvv)
    && (place_taken shape.fields r.place && is_none (imm_refusal shape.imm r.imm)))

abbrev pub is_taken : CoreReading → Bool
is_taken r = is_taken_by (shape_of r.op.number) r
