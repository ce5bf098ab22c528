use Rattle.std.specs.Prelude.{◌≡◌, ℕ, ◌/◌, ◌≤◌, ◌==◌, ◌&&◌, Bool, Option, Some, unwrap_or, List, [], ◌∷◌, ◌++◌, length}
use Rattle.std.specs.Int.{from_bool}
use Rattle.cax64_machine_code.specs.Prefix.{Vex, vex_at}
use Rattle.cax64_prefix.specs.declared.vex.VexPrefix.{VexPrefix}
use Rattle.cax64_prefix.specs.declared.vex.VexPrefix.TheVariants.{TwoByte, ThreeByte}

-- the bytes of a VEX prefix
abbrev pub vex_bytes : VexPrefix → List ℕ
vex_bytes (TwoByte last) = 0xC5 ∷ last ∷ []
vex_bytes (ThreeByte second last) = 0xC4 ∷ second ∷ last ∷ []

-- the fields of an operation on reg, vvvv, and a register or base and an index; one that is absent reads as 0
abbrev pub vex_fields : ℕ → ℕ → Option ℕ × Option ℕ → ℕ → ℕ → ℕ → Bool → Vex
vex_fields reg vvvv operand l pp map w = record {
  w = from_bool w;
  r = reg / 8;
  x = unwrap_or operand.1 0 / 8;
  b = unwrap_or operand.0 0 / 8;
  vvvv = vvvv;
  l = l;
  pp = pp;
  map = map;
}

-- the bytes are read as the fields, whatever follows
pub record VexReadsAs (vex : Vex) (bytes : List ℕ) : Type 0 where
  pub reads : (rest : List ℕ) → vex_at (bytes ++ rest) ≡ Some (vex, rest)

-- no shorter string has the same fields
pub record IsShortestVex (vex : Vex) (bytes : List ℕ) : Type 0 where
  pub least : (other rest : List ℕ) → vex_at (other ++ rest) ≡ Some (vex, rest) → length bytes ≤ length other

-- whether two bytes can hold the fields
abbrev pub fits_two_bytes : Vex → Bool
fits_two_bytes vex = (vex.x == 0) && ((vex.b == 0) && ((vex.w == 0) && (vex.map == 1)))
