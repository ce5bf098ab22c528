use Rattle.std.specs.Prelude.{ℕ, ◌+◌, ◌-◌, ◌*◌, ◌/◌, ◌%◌, ◌&&◌, ◌==◌, if◌then◌else◌, Option, Some, None, List, ◌∷◌}

-- The fields of an EVEX prefix: bits 3 and 4 of reg, bit 3 of base and of index, five bits of vvvv. (Intel SDM,
-- volume 2, 2.7.1.)
pub record Evex : Type 0 where
  pub r3 : ℕ
  pub r4 : ℕ
  pub b3 : ℕ
  pub x3 : ℕ
  pub vvvv : ℕ
  pub ll : ℕ
  pub pp : ℕ
  pub mmm : ℕ
  pub w : ℕ
  pub broadcast : ℕ
  pub z : ℕ
  pub aaa : ℕ

-- 62, then R3' X3' B3' R4' 0 mmm, then W vvvv' 1 pp, then z LL b V4' aaa. What is primed is stored inverted.
abbrev pub evex_of : ℕ → ℕ → ℕ → Evex
evex_of second third fourth = record {
  r3 = 1 - second / 128 % 2;
  r4 = 1 - second / 16 % 2;
  b3 = 1 - second / 32 % 2;
  x3 = 1 - second / 64 % 2;
  vvvv = 15 - third / 8 % 16 + 16 * (1 - fourth / 8 % 2);
  ll = fourth / 32 % 4;
  pp = third % 4;
  mmm = second % 8;
  w = third / 128 % 2;
  broadcast = fourth / 16 % 2;
  z = fourth / 128 % 2;
  aaa = fourth % 8;
}

-- the EVEX prefix at the front, and what follows it
unfoldable pub evex_at : List ℕ → Option (Evex × List ℕ)
evex_at (byte ∷ second ∷ third ∷ fourth ∷ bytes) =
    if (byte == 0x62) && ((second / 8 % 2 == 0) && (third / 4 % 2 == 1))
    then Some (evex_of second third fourth, bytes)
    else None
evex_at _ = None
