use Rattle.std.specs.Prelude.{◌≡◌, ℕ, Some, List, [], ◌∷◌, drop}
use Rattle.cax64_machine_code.specs.ReadLine.{LineReading, read_of}
use Rattle.x64_plain.specs.Reading.{IsReading}
use Rattle.x64_plain.specs.declared.reading.HqReading.{HqReading}
use Rattle.x64_lines.specs.Lines.{core_lines}

-- an instruction is read at the front of some bytes
pub record IsRead (bytes : List ℕ) (plain : HqReading) : Type 0 where
  pub reading : LineReading
  pub is : read_of core_lines bytes ≡ Some reading
  pub plain_is : IsReading reading plain

-- Instructions that are read one behind the other, and what stands behind the last.
unfoldable pub InTurn : List ℕ → List HqReading → List ℕ → Type 0
InTurn bytes [] rest = bytes ≡ rest
InTurn bytes (plain ∷ plains) rest = IsRead bytes plain × InTurn (drop plain.length bytes) plains rest
