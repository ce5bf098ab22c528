use Rattle.std.specs.Prelude.{◌≡◌, ℕ, Option, Some, ℤ, List, length}
use Rattle.cax64_shortest.specs.LineParts.{line_parts}
use Rattle.x64_core.specs.Core.{core_meant}
use Rattle.x64_core.specs.View.{CoreView}
use Rattle.x64_reader.specs.Reading.{line_reading}
use Rattle.x64_reader.specs.declared.reading.CoreReading.{CoreReading}

-- What is read is an instruction of the core, as it was meant for these offsets: its line by number, its operands, and as
-- many bytes as were put of it.
pub record IsReadAs (v : CoreView) (offsets : ℕ → Option ℤ) (added : List ℕ) (found : Option CoreReading) : Type 0 where
  pub reading : CoreReading
  pub is : found ≡ Some reading
  pub op : reading.op.number ≡ v.op
  pub parts : line_parts (line_reading reading) ≡ (core_meant v offsets).parts
  pub length : reading.length ≡ length added
