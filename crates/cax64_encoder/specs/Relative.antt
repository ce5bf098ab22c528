-- Places that count from the instruction's end.
use Rattle.std.specs.Prelude.{◌≡◌, ℤ, pos, ◌-ℤ◌, Option, Some, None}
use Rattle.cax64_address.specs.declared.amode.Amode.{Amode}
use Rattle.cax64_address.specs.declared.amode.Amode.TheVariants.{ImmReg, ImmRegRegShift, RipRelative}
use Rattle.cax64_machine_code.specs.Line.{imm_bytes}
use Rattle.cax64_machine_code.specs.Rows.{line_of}
use Rattle.cax64_machine_code.specs.declared.line.ImmField.{ImmField}
use Rattle.cax64_machine_code.specs.declared.reading.Place.{Place}
use Rattle.cax64_machine_code.specs.declared.reading.Place.TheVariants.{Reg, Mem, Rip}
use Rattle.cax64_encoder.specs.Meant.{Meant}

-- the displacement of a relative place
abbrev pub relative_in : Option Place → Option ℤ
relative_in None = None
relative_in (Some (Reg view)) = None
relative_in (Some (Mem base index disp)) = None
relative_in (Some (Rip disp)) = Some disp

-- that of a memory operand, before its target is settled: it leads to where the immediate begins
abbrev pub unsettled : {M : Type 0} → Option (Amode M) → ImmField → Option ℤ
unsettled None imm = None
unsettled (Some (ImmReg base simm32 trap)) imm = None
unsettled (Some (ImmRegRegShift base index scale simm32 trap)) imm = None
unsettled (Some (RipRelative target)) imm = Some (pos 0 -ℤ pos (imm_bytes imm))

-- Exactly the relative operands are read as relative places, each from where the immediate begins.
abbrev pub ReadsRelative : {M : Type 0} → Meant M → Type 0
ReadsRelative m = relative_in m.parts.place ≡ unsettled m.memory (line_of m.parts.row).imm
