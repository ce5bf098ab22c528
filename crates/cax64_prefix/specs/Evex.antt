use Rattle.std.specs.Prelude.{◌≡◌, ℕ, ◌/◌, ◌%◌, Bool, Option, Some, unwrap_or, List, ◌++◌}
use Rattle.std.specs.Int.{from_bool}
use Rattle.cax64_machine_code.specs.Evex.{Evex, evex_at}

-- the fields of an operation on reg, vvvv, and a register or base and an index; one that is absent reads as 0
abbrev pub evex_fields : ℕ → ℕ → Option ℕ × Option ℕ → ℕ → ℕ → ℕ → Bool → Bool → Evex
evex_fields reg vvvv operand ll pp mmm w broadcast = record {
  r3 = reg / 8 % 2;
  r4 = reg / 16;
  b3 = unwrap_or operand.0 0 / 8;
  x3 = unwrap_or operand.1 0 / 8;
  vvvv = vvvv;
  ll = ll;
  pp = pp;
  mmm = mmm;
  w = from_bool w;
  broadcast = from_bool broadcast;
  z = 0;
  aaa = 0;
}

-- the bytes are read as the fields, whatever follows
pub record EvexReadsAs (evex : Evex) (bytes : List ℕ) : Type 0 where
  pub reads : (rest : List ℕ) → evex_at (bytes ++ rest) ≡ Some (evex, rest)
