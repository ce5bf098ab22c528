use Rattle.std.specs.Prelude.{◌≡◌, ℕ, ◌/◌, ◌%◌, Bool, Option, Some, unwrap_or, List, ◌++◌}
use Rattle.std.specs.Int.{from_bool}
use Rattle.cax64_machine_code.specs.Apx.{Apx, apx_at}

-- The form of EVEX for map 4, for operations on general registers.

-- the fields of an operation on reg, vvvv, and a register or base and an index; one that is absent reads as 0
abbrev pub apx_fields : ℕ → ℕ → Option ℕ × Option ℕ → ℕ → ℕ → Bool → Bool → Bool → Apx
apx_fields reg vvvv operand pp mmm w nd nf = record {
  r3 = reg / 8 % 2;
  r4 = reg / 16;
  b3 = unwrap_or operand.0 0 / 8 % 2;
  b4 = unwrap_or operand.0 0 / 16;
  x3 = unwrap_or operand.1 0 / 8 % 2;
  x4 = unwrap_or operand.1 0 / 16;
  vvvv = vvvv;
  pp = pp;
  mmm = mmm;
  w = from_bool w;
  nd = from_bool nd;
  nf = from_bool nf;
}

-- the bytes are read as the fields, whatever follows
pub record ApxReadsAs (apx : Apx) (bytes : List ℕ) : Type 0 where
  pub reads : (rest : List ℕ) → apx_at (bytes ++ rest) ≡ Some (apx, rest)
