use Rattle.std.specs.Prelude.{◌≡◌, ℕ, ◌-◌, ◌≤◌, Some, List, [], length, take, drop}
use Rattle.cax64_machine_code.specs.Fields.{IsBytes}
use Rattle.cax64_machine_code.specs.Line.{imm_bytes}
use Rattle.cax64_machine_code.specs.Prefix.{Prefix, prefix_at, x_of, b_of}
use Rattle.cax64_machine_code.specs.Rows.{line_of}
use Rattle.cax64_machine_code.specs.Tail.{IsTail, read_tail}
use Rattle.cax64_machine_code.specs.declared.reading.Reading.{Reading}
use Rattle.cax64_machine_code.specs.declared.reading.Place.{Place}

-- no string of bytes that is read as this reg field and place, under the same bits X and B and the same factor, is
-- shorter
pub record Shortest (x b factor reg : ℕ) (place : Place) (t : List ℕ) : Type 0 where
  pub least : (u : List ℕ) → IsBytes u → read_tail x b factor u ≡ Some (record { reg = reg; place = place; rest = [] }) → length t ≤ length u

-- the tail within the bytes of an instruction, before its immediate
abbrev pub tail_within : List ℕ → Reading → List ℕ
tail_within bytes reading = take reading.tail (drop (reading.length - reading.tail - imm_bytes (line_of reading.row).imm) bytes)

-- the tail of an instruction is the shortest for its reg field and place, under its own prefix's X and B
pub record HasShortestTail (bytes : List ℕ) (reading : Reading) : Type 0 where
  pub prefix : Prefix
  pub behind : List ℕ
  pub prefix_is : prefix_at bytes ≡ Some (prefix, behind)
  pub reg : ℕ
  pub place : Place
  pub tail : IsTail (x_of prefix) (b_of prefix) 1 reg place (tail_within bytes reading)
  pub shortest : Shortest (x_of prefix) (b_of prefix) 1 reg place (tail_within bytes reading)
