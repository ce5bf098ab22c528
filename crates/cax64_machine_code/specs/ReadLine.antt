use Rattle.std.specs.Prelude.{◌≡◌, ◌≤◌, ◌-◌, ℕ, Option, Some, None, option_map, option_and_then, ℤ, List, [], ◌∷◌, ◌++◌, length, take, drop}
use Rattle.cax64_machine_code.specs.Line.{imm_bytes}
use Rattle.cax64_machine_code.specs.Prefix.{Prefix, prefix_at, x_of, b_of}
use Rattle.cax64_machine_code.specs.Reading.{PartsOf, FoundOf, operands_of, matched_at}
use Rattle.cax64_machine_code.specs.Rows.{line_of}
use Rattle.cax64_machine_code.specs.Shortest.{Shortest}
use Rattle.cax64_machine_code.specs.Tail.{IsTail}
use Rattle.cax64_machine_code.specs.declared.line.Line.{Line}
use Rattle.cax64_machine_code.specs.declared.reading.Place.{Place}
use Rattle.cax64_machine_code.specs.declared.reading.Reading.{Reading}
use Rattle.cax64_machine_code.specs.declared.reading.RegView.{RegView}
use Rattle.cax64_machine_code.specs.declared.row.Row.{Row}

-- An instruction by its line alone, of whatever table the line is.

-- a reading, with the line in the place of the row
pub record LineReading : Type 0 where
  pub line : Line
  pub length : ℕ
  pub tail : ℕ
  pub reg : Option RegView
  pub vvvv : Option ℕ
  pub place : Option Place
  pub imm : Option ℤ

-- the instruction of this line at the front of some bytes
unfoldable pub find_line : Line → List ℕ → Option (FoundOf Line)
find_line line bytes =
    option_and_then
    (λ p. option_and_then (λ rest. operands_of line.tail line line p.0 rest) (matched_at line p.0 p.1))
    (prefix_at bytes)

abbrev pub line_reading_of : List ℕ → FoundOf Line → LineReading
line_reading_of bytes found = record {
  line = found.parts.row;
  length = length bytes - length found.rest;
  tail = found.tail;
  reg = found.parts.reg;
  vvvv = found.parts.vvvv;
  place = found.parts.place;
  imm = found.parts.imm;
}

-- its reading
unfoldable pub read_line : Line → List ℕ → Option LineReading
read_line line bytes = option_map (line_reading_of bytes) (find_line line bytes)

abbrev pub or_else : {A : Type 0} → Option A → Option A → Option A
or_else None later = later
or_else (Some a) later = Some a

-- the reading by the first of some lines that reads
unfoldable pub read_of : List Line → List ℕ → Option LineReading
read_of [] bytes = None
read_of (line ∷ lines) bytes = or_else (read_line line bytes) (read_of lines bytes)

-- a reading with its row's line in the place of the row
abbrev pub with_line : Reading → LineReading
with_line r = record { line = line_of r.row; length = r.length; tail = r.tail; reg = r.reg; vvvv = r.vvvv; place = r.place; imm = r.imm }

-- and the other way: a reading, and what is meant, with a row in the place of its line
abbrev pub as_row : Row → LineReading → Reading
as_row row r = record { row = row; length = r.length; tail = r.tail; reg = r.reg; vvvv = r.vvvv; place = r.place; imm = r.imm }

abbrev pub parts_as : {K L : Type 0} → L → PartsOf K → PartsOf L
parts_as key parts = record { row = key; reg = parts.reg; vvvv = parts.vvvv; place = parts.place; imm = parts.imm }

-- the lines of some rows
abbrev pub lines_of : List Row → List Line
lines_of [] = []
lines_of (row ∷ rows) = line_of row ∷ lines_of rows

-- Bytes that read by a line, whatever follows, as what is meant, with their own number as length, 1 to 13.
pub record ReadsLineAs (meant : PartsOf Line) (b : List ℕ) : Type 0 where
  pub reading : LineReading
  pub reads : (rest : List ℕ) → read_line meant.row (b ++ rest) ≡ Some reading
  pub same : ◌≡◌ {A = PartsOf Line} (record { row = reading.line; reg = reading.reg; vvvv = reading.vvvv; place = reading.place; imm = reading.imm }) meant
  pub length : reading.length ≡ length b
  pub least : 1 ≤ reading.length
  pub most : reading.length ≤ 13

-- the tail within the bytes of an instruction, before its immediate, and that it's the shortest (as `HasShortestTail`)
abbrev pub line_tail_within : List ℕ → LineReading → List ℕ
line_tail_within bytes reading = take reading.tail (drop (reading.length - reading.tail - imm_bytes reading.line.imm) bytes)

pub record HasShortestLineTail (bytes : List ℕ) (reading : LineReading) : Type 0 where
  pub prefix : Prefix
  pub behind : List ℕ
  pub prefix_is : prefix_at bytes ≡ Some (prefix, behind)
  pub reg : ℕ
  pub place : Place
  pub tail : IsTail (x_of prefix) (b_of prefix) 1 reg place (line_tail_within bytes reading)
  pub shortest : Shortest (x_of prefix) (b_of prefix) 1 reg place (line_tail_within bytes reading)
