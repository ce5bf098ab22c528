use Rattle.std.specs.Prelude.{◌≡◌, ◌≤◌, ◌++◌, ℕ, Some, List, length}
use Rattle.cax64_encoder.specs.AddsLine.{AddsLine, LeavesLine}
use Rattle.cax64_machine_code.specs.Fields.{IsBytes}
use Rattle.cax64_machine_code.specs.ReadLine.{LineReading, read_line, read_of}
use Rattle.cax64_shortest.specs.LineParts.{line_parts}
use Rattle.cax64_sink.specs.Sink.{State}
use Rattle.x64_core.specs.Core.{core_meant}
use Rattle.x64_lines.specs.Lines.{core_lines}
use Rattle.x64_core.specs.View.{CoreView}

-- A sink has got an instruction of the core: bytes that, whatever follows, its line reads as these numbers, and of all
-- lines of the core no other; as many as it has, and no string that its line reads so is shorter; the notices of its memory
-- operand, each at its place.
pub record AddsCore (v : CoreView) (old new : State) : Type 0 where
  pub line : AddsLine (core_meant v old.offsets).parts (core_meant v old.offsets).memory old new
  pub alone : (rest : List ℕ) → read_of core_lines (line.added ++ rest) ≡ Some line.reads.reading
  pub shortest : (bytes : List ℕ) (reading : LineReading)
      → IsBytes bytes → read_line (core_meant v old.offsets).parts.row bytes ≡ Some reading
      → line_parts reading ≡ (core_meant v old.offsets).parts
      → length line.added ≤ length bytes

-- It has got a proper front of such bytes, and a front of the notices.
abbrev pub LeavesCore : CoreView → State → State → Type 0
LeavesCore v old new = LeavesLine (core_meant v old.offsets).parts (core_meant v old.offsets).memory old new
