use Rattle.std.specs.Prelude.{ℕ, ◌^◌, ◌==◌, ◌&&◌, ◌||◌, not, nat_lt, Bool}
use Rattle.cax64_machine_code.specs.Line.{imm_bytes}
use Rattle.x64_lines.specs.Shape.{has_reg, has_vvvv, has_mem, has_rm, imm_field}
use Rattle.x64_core.specs.declared.place.CorePlace.{CorePlace}
use Rattle.x64_core.specs.declared.place.CorePlace.TheVariants.{Absent, Register, Base, BaseAndIndex, Relative}
use Rattle.x64_lines.specs.declared.shapes.OpFields.{OpFields}
use Rattle.x64_lines.specs.declared.shapes.OpShape.{OpShape}

-- Numbers are operands that a line of this shape takes. What it lacks is 0 or absent.

abbrev pub place_fits : OpFields → CorePlace → Bool
place_fits fields Absent = not (has_mem fields)
place_fits fields (Register number) = has_rm fields
place_fits fields (Base base trap offset displacement) = has_mem fields
place_fits fields (BaseAndIndex base index scale trap displacement) = has_mem fields
place_fits fields (Relative target) = has_mem fields

abbrev pub core_fits : OpShape → ℕ → ℕ → CorePlace → ℕ → Bool
core_fits shape reg vvvv place word =
    place_fits shape.fields place
    && (nat_lt word (256 ^ imm_bytes (imm_field shape.imm))
    && ((has_reg shape.fields || (reg == 0)) && (has_vvvv shape.fields || (vvvv == 0))))
