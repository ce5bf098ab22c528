use Rattle.std.specs.Prelude.{ℕ, ◌+◌, ◌-◌, ◌*◌, ◌/◌, ◌%◌, ◌&&◌, ◌==◌, if◌then◌else◌, Option, Some, None, List, ◌∷◌}

-- The fields of an EVEX prefix of map 4: bits 3 and 4 of reg, base and index, five bits of vvvv. (Intel APX
-- specification, 3.1.2.3.1.)
pub record Apx : Type 0 where
  pub r3 : ℕ
  pub r4 : ℕ
  pub b3 : ℕ
  pub b4 : ℕ
  pub x3 : ℕ
  pub x4 : ℕ
  pub vvvv : ℕ
  pub pp : ℕ
  pub mmm : ℕ
  pub w : ℕ
  pub nd : ℕ
  pub nf : ℕ

-- 62, then R3' X3' B3' R4' B4 mmm, then W vvvv' U pp, then 0 0 0 ND V4' NF 0 0. What is primed is stored inverted, U
-- is the inverse of X4, and B4 is stored straight.
abbrev pub apx_of : ℕ → ℕ → ℕ → Apx
apx_of second third fourth = record {
  r3 = 1 - second / 128 % 2;
  r4 = 1 - second / 16 % 2;
  b3 = 1 - second / 32 % 2;
  b4 = second / 8 % 2;
  x3 = 1 - second / 64 % 2;
  x4 = 1 - third / 4 % 2;
  vvvv = 15 - third / 8 % 16 + 16 * (1 - fourth / 8 % 2);
  pp = third % 4;
  mmm = second % 8;
  w = third / 128 % 2;
  nd = fourth / 16 % 2;
  nf = fourth / 4 % 2;
}

-- the prefix of that form at the front, and what follows it
unfoldable pub apx_at : List ℕ → Option (Apx × List ℕ)
apx_at (byte ∷ second ∷ third ∷ fourth ∷ bytes) =
    if (byte == 0x62) && ((fourth / 32 == 0) && (fourth % 4 == 0))
    then Some (apx_of second third fourth, bytes)
    else None
apx_at _ = None
