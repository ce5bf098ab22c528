use Rattle.std.specs.Prelude.{◌≡◌, ℕ, ◌+◌, ◌*◌, ◌/◌, ◌==◌, ◌&&◌, nat_le, Bool, false, Option, Some, None, List, [], ◌∷◌, ◌++◌}
use Rattle.cax64_machine_code.specs.Prefix.{Rex, rex_at}

-- the REX byte that holds some bits
abbrev pub rex_byte : Rex → ℕ
rex_byte rex = 64 + rex.w * 8 + rex.r * 4 + rex.x * 2 + rex.b

-- the bytes of a REX prefix: one, or none
abbrev pub rex_bytes : Option Rex → List ℕ
rex_bytes None = []
rex_bytes (Some rex) = rex_byte rex ∷ []

-- Codes 4 to 7 are `ah ch dh bh` without a REX byte and `spl bpl sil dil` with one. (Intel SDM, volume 1, 3.4.1.1.)
abbrev pub is_special_if_8bit : ℕ → Bool
is_special_if_8bit code = nat_le 4 code && nat_le code 7

abbrev pub begins_rex : List ℕ → Bool
begins_rex [] = false
begins_rex (byte ∷ bytes) = byte / 16 == 4

-- the bytes read back as the prefix, whatever follows that isn't itself a REX byte
pub record RexReadsBack (rex : Option Rex) : Type 0 where
  pub reads : (rest : List ℕ) → begins_rex rest ≡ false → rex_at (rex_bytes rex ++ rest) ≡ (rex, rest)
