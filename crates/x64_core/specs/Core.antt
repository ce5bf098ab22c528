use Rattle.std.specs.Prelude.{ℕ, Bool, Option, Some, None, option_map, ℤ, List, [], ◌∷◌}
use Rattle.cax64_address.specs.declared.amode.Amode.{Amode}
use Rattle.cax64_address.specs.declared.amode.Amode.TheVariants.{ImmReg, ImmRegRegShift, RipRelative}
use Rattle.cax64_encoder.specs.Fault as fault
use Rattle.cax64_encoder.specs.Notices.{memory_notices}
use Rattle.cax64_encoder.specs.Place.{memory_in, displacement_in, place_read}
use Rattle.cax64_encoder.specs.declared.fault.Fault.{Fault}
use Rattle.cax64_encoder.specs.declared.fault.Visited.{Visited}
use Rattle.cax64_encoder.specs.declared.fault.Visited.TheVariants.{Plain, Index}
use Rattle.cax64_encoder.specs.declared.number.Number.TheVariants.{Settled}
use Rattle.cax64_encoder.specs.declared.role.PlaceOperand as operand
use Rattle.cax64_encoder.specs.declared.role.PlaceOperand.{PlaceOperand}
use Rattle.cax64_machine_code.specs.Len.{line_len}
use Rattle.cax64_machine_code.specs.Line.{imm_bytes}
use Rattle.cax64_machine_code.specs.Reading.{PartsOf}
use Rattle.cax64_machine_code.specs.declared.line.Line.{Line}
use Rattle.cax64_machine_code.specs.declared.reading.RegView.TheVariants.{Low}
use Rattle.x64_lines.specs.Line.{core_line}
use Rattle.x64_core.specs.View.{CoreView}
use Rattle.x64_encode.specs.Encode.{LineMeant}

-- The registers of an instruction of the core, in the order in which faults are counted: reg, vvvv, the register of the
-- place or its base and its index.

abbrev pub register_before : Option ℕ → List Visited → List Visited
register_before None later = later
register_before (Some number) later = Plain (Settled number) ∷ later

abbrev pub amode_visited : Amode ℕ → List Visited
amode_visited (ImmReg base simm32 trap) = Plain (Settled base) ∷ []
amode_visited (ImmRegRegShift base index scale simm32 trap) = Plain (Settled base) ∷ Index (Settled index) ∷ []
amode_visited (RipRelative target) = []

abbrev pub place_visited : PlaceOperand ℕ → List Visited
place_visited operand.TheVariants.NoPlace = []
place_visited (operand.TheVariants.Register number) = Plain number ∷ []
place_visited (operand.TheVariants.Memory amode) = amode_visited amode

abbrev pub visited_of : CoreView → List Visited
visited_of v = register_before v.reg (register_before v.vvvv (place_visited v.place))

-- What its bytes are to read as: each number where it stands, the displacement with the late offset added.
abbrev pub core_parts : CoreView → (ℕ → Option ℤ) → PartsOf Line
core_parts v offsets = record {
  row = core_line v.op;
  reg = option_map Low v.reg;
  vvvv = v.vvvv;
  place = place_read (λ number. number) (displacement_in offsets v.place) (imm_bytes (core_line v.op).imm) v.place;
  imm = v.imm;
}

-- What an instruction of the core means.
abbrev pub core_meant : CoreView → (ℕ → Option ℤ) → LineMeant ℕ
core_meant v offsets = record {
  parts = core_parts v offsets;
  memory = memory_in v.place;
  visited = visited_of v;
  len = line_len (core_line v.op) (core_parts v offsets);
}

-- Whether it can be encoded for a sink that knows these offsets, why not, how many bytes and notices it has: as of any
-- instruction.

abbrev pub is_encodable : (ℕ → Option ℤ) → CoreView → Bool
is_encodable offsets v = fault.can_encode offsets (core_meant v offsets).visited (core_meant v offsets).memory

abbrev pub fault_of : (ℕ → Option ℤ) → CoreView → Option Fault
fault_of offsets v = fault.first_fault offsets (core_meant v offsets).visited (core_meant v offsets).memory

abbrev pub core_len : (ℕ → Option ℤ) → CoreView → ℕ
core_len offsets v = (core_meant v offsets).len

abbrev pub core_notices : CoreView → ℕ
core_notices v = memory_notices (memory_in v.place)
