use Rattle.std.specs.Prelude.{ℕ, ◌+◌, ◌-◌, Option, Some, None, List, [], ◌∷◌}
use Rattle.cax64_address.specs.declared.amode.Amode.{Amode}
use Rattle.cax64_address.specs.declared.amode.Amode.TheVariants.{ImmReg, ImmRegRegShift, RipRelative}
use Rattle.cax64_machine_code.specs.Line.{imm_bytes}
use Rattle.cax64_machine_code.specs.Rows.{line_of}
use Rattle.cax64_machine_code.specs.declared.reading.Reading.{Reading}
use Rattle.cax64_sink.specs.declared.Notice.{Notice}
use Rattle.cax64_sink.specs.declared.Notice.TheVariants.{Trap, Target}
use Rattle.cax64_sink.specs.declared.TrapCode.{TrapCode}
use Rattle.cax64_encoder.specs.Meant.{Meant}

abbrev pub trap_notice : Option TrapCode → ℕ → List Notice
trap_notice None at = []
trap_notice (Some code) at = Trap at code ∷ []

-- The notices of an instruction that begins after so many bytes, by its memory operand and its reading: the trap at its
-- beginning, or the target at the displacement field, which ends where the immediate begins.
abbrev pub notices_of : {M : Type 0} → Option (Amode M) → ℕ → Reading → List Notice
notices_of None at reading = []
notices_of (Some (ImmReg base simm32 trap)) at reading = trap_notice trap at
notices_of (Some (ImmRegRegShift base index scale simm32 trap)) at reading = trap_notice trap at
notices_of (Some (RipRelative target)) at reading = Target (at + (reading.length - reading.tail - imm_bytes (line_of reading.row).imm) + 1) target ∷ []

-- How many there are.

abbrev pub trap_count : Option TrapCode → ℕ
trap_count None = 0
trap_count (Some code) = 1

abbrev pub memory_notices : {M : Type 0} → Option (Amode M) → ℕ
memory_notices None = 0
memory_notices (Some (ImmReg base simm32 trap)) = trap_count trap
memory_notices (Some (ImmRegRegShift base index scale simm32 trap)) = trap_count trap
memory_notices (Some (RipRelative target)) = 1

abbrev pub notice_count : {M : Type 0} → Meant M → ℕ
notice_count m = memory_notices m.memory
