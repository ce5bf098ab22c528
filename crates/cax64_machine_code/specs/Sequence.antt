use Rattle.std.specs.Prelude.{◌≡◌, ◌≢◌, ◌≤◌, ◌+◌, ℕ, zero, suc, length, Option, Some, option_map, option_and_then, List, [], ◌∷◌, ◌++◌, drop}
use Rattle.cax64_machine_code.specs.Reading.{Parts, read}
use Rattle.cax64_machine_code.specs.declared.reading.Reading.{Reading}

-- the operands of a reading
abbrev pub parts_of : Reading → Parts
parts_of reading = record {
  row = reading.row;
  reg = reading.reg;
  vvvv = reading.vvvv;
  place = reading.place;
  imm = reading.imm;
}

-- A reading is the same as what is meant where row, registers, place and immediate agree; lengths don't count.
abbrev pub Same : Reading → Parts → Type 0
Same reading meant = parts_of reading ≡ meant

-- so many readings, each of what the one before left, and the rest
unfoldable pub read_all : List ℕ → ℕ → Option (List Reading × List ℕ)
read_all bytes zero = Some ([], bytes)
read_all bytes (suc count) =
    option_and_then
    (λ first. option_map (λ later. (first ∷ later.0, later.1)) (read_all (drop first.length bytes) count))
    (read bytes)

-- one string is a front of another
pub record IsFront (a b : List ℕ) : Type 0 where
  pub rest : List ℕ
  pub whole : a ++ rest ≡ b

-- one string is a front of another, and shorter
pub record IsProperFront (a b : List ℕ) : Type 0 where
  pub rest : List ℕ
  pub whole : a ++ rest ≡ b
  pub proper : rest ≢ []

-- bytes that read, whatever follows, as what is meant, with their own number as length, 1 to 13
pub record ReadsAs (meant : Parts) (b : List ℕ) : Type 0 where
  pub reading : Reading
  pub reads : (rest : List ℕ) → read (b ++ rest) ≡ Some reading
  pub same : Same reading meant
  pub length : reading.length ≡ length b
  pub least : 1 ≤ reading.length
  pub most : reading.length ≤ 13

-- each reading is the same as what is meant in its place, and has a length of 1 to 13
abbrev pub EachSame : List Reading → List Parts → Type 0
EachSame [] [] = Unit {0}
EachSame [] (meant ∷ later) = ⊥
EachSame (reading ∷ readings) [] = ⊥
EachSame (reading ∷ readings) (meant ∷ later) = Same reading meant × (1 ≤ reading.length) × (reading.length ≤ 13) × EachSame readings later

-- the number of bytes of some readings
abbrev pub total_length : List Reading → ℕ
total_length [] = 0
total_length (reading ∷ readings) = reading.length + total_length readings

-- bytes that read, whatever follows, as a list of what is meant, and leave what follows
pub record ReadsAllAs (meant : List Parts) (b : List ℕ) : Type 0 where
  pub readings : List Reading
  pub lengths : length b ≡ total_length readings
  pub reads : (rest : List ℕ) → read_all (b ++ rest) (length meant) ≡ Some (readings, rest)
  pub same : EachSame readings meant
