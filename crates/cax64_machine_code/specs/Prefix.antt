use Rattle.std.specs.Prelude.{ℕ, ◌-◌, ◌/◌, ◌%◌, Bool, true, false, not, ◌&&◌, ◌||◌, ◌==◌, if◌then◌else◌, Option, Some, None, is_some, List, [], ◌∷◌}
use Rattle.cax64_machine_code.specs.declared.line.LegacySet.{LegacySet}

-- The legacy prefixes F0 (lock), 66 (operand size), F2 and F3. (Intel SDM, volume 2, 2.1.1.)
abbrev pub no_legacy : LegacySet
no_legacy = record { lock = false; operand_size = false; repne = false; rep = false }

-- the longest front of F0, 66, F2 and F3, each at most once and F2 not with F3, added to those seen before
unfoldable pub legacy_at : LegacySet → List ℕ → LegacySet × List ℕ
legacy_at seen [] = (seen, [])
legacy_at seen (byte ∷ bytes) =
    if (byte == 0xF0) && not seen.lock then legacy_at (record seen { lock = true }) bytes
    else (if (byte == 0x66) && not seen.operand_size then legacy_at (record seen { operand_size = true }) bytes
    else (if (byte == 0xF2) && not (seen.repne || seen.rep) then legacy_at (record seen { repne = true }) bytes
    else (if (byte == 0xF3) && not (seen.repne || seen.rep) then legacy_at (record seen { rep = true }) bytes
    else (seen, byte ∷ bytes))))

-- The bits W, R, X and B of a REX byte, 40 to 4F, from bit 3 down. (Intel SDM, volume 2, 2.2.1.2.)
pub record Rex : Type 0 where
  pub w : ℕ
  pub r : ℕ
  pub x : ℕ
  pub b : ℕ

abbrev pub rex_of : ℕ → Rex
rex_of byte = record { w = byte / 8 % 2; r = byte / 4 % 2; x = byte / 2 % 2; b = byte % 2 }

-- the bits where there is no REX byte
abbrev pub no_rex : Rex
no_rex = record { w = 0; r = 0; x = 0; b = 0 }

-- the REX byte at the front, if there is one, and what follows it
unfoldable pub rex_at : List ℕ → Option Rex × List ℕ
rex_at [] = (None, [])
rex_at (byte ∷ bytes) = if byte / 16 == 4 then (Some (rex_of byte), bytes) else (None, byte ∷ bytes)

-- The fields of a VEX prefix. (Intel SDM, volume 2, 2.3.5.)
pub record Vex : Type 0 where
  pub w : ℕ
  pub r : ℕ
  pub x : ℕ
  pub b : ℕ
  pub vvvv : ℕ
  pub l : ℕ
  pub pp : ℕ
  pub map : ℕ

-- C5, then R' vvvv' L pp. What is primed is stored inverted.
abbrev pub vex_two_byte : ℕ → Vex
vex_two_byte byte = record {
  w = 0;
  r = 1 - byte / 128 % 2;
  x = 0;
  b = 0;
  vvvv = 15 - byte / 8 % 16;
  l = byte / 4 % 2;
  pp = byte % 4;
  map = 1;
}

-- C4, then R' X' B' mmmmm, then W vvvv' L pp
abbrev pub vex_three_byte : ℕ → ℕ → Vex
vex_three_byte second third = record {
  w = third / 128 % 2;
  r = 1 - second / 128 % 2;
  x = 1 - second / 64 % 2;
  b = 1 - second / 32 % 2;
  vvvv = 15 - third / 8 % 16;
  l = third / 4 % 2;
  pp = third % 4;
  map = second % 32;
}

abbrev pub is_vex_map : ℕ → Bool
is_vex_map map = (map == 1) || ((map == 2) || (map == 3))

-- the VEX prefix at the front, whose first byte is C4 or C5, and what follows it
unfoldable pub vex_at : List ℕ → Option (Vex × List ℕ)
vex_at (byte ∷ second ∷ []) = if byte == 0xC5 then Some (vex_two_byte second, []) else None
vex_at (byte ∷ second ∷ third ∷ bytes) =
    if byte == 0xC5 then Some (vex_two_byte second, third ∷ bytes)
    else (if (byte == 0xC4) && is_vex_map (second % 32) then Some (vex_three_byte second third, bytes)
    else None)
vex_at _ = None

-- what stands before the opcode: legacy prefixes and an optional REX byte, or a VEX prefix
pub data Prefix : Type 0 where
  legacy_prefix : LegacySet → Option Rex → Prefix
  vex_prefix : Vex → Prefix

abbrev pub begins_vex : List ℕ → Bool
begins_vex [] = false
begins_vex (byte ∷ bytes) = (byte == 0xC4) || (byte == 0xC5)

abbrev pub is_no_legacy : LegacySet → Bool
is_no_legacy legacy = not (legacy.lock || (legacy.operand_size || (legacy.repne || legacy.rep)))

abbrev pub after_vex : Option (Vex × List ℕ) → Option (Prefix × List ℕ)
after_vex None = None
after_vex (Some vex) = Some (vex_prefix vex.0, vex.1)

abbrev pub after_legacy : LegacySet → Option Rex × List ℕ → Option (Prefix × List ℕ)
after_legacy legacy rex = Some (legacy_prefix legacy rex.0, rex.1)

-- the prefix at the front of some bytes, and what follows it; VEX only where no legacy prefix stands before it
unfoldable pub prefix_at : List ℕ → Option (Prefix × List ℕ)
prefix_at bytes =
    let legacy = legacy_at no_legacy bytes in
    if is_no_legacy legacy.0 && begins_vex legacy.1 then after_vex (vex_at legacy.1)
    else after_legacy legacy.0 (rex_at legacy.1)

-- the bits of a REX byte, zeros where there is none
abbrev pub rex_bits : Option Rex → Rex
rex_bits None = no_rex
rex_bits (Some rex) = rex

-- the bits W, R, X and B of a prefix
abbrev pub w_of : Prefix → ℕ
w_of (legacy_prefix legacy rex) = (rex_bits rex).w
w_of (vex_prefix vex) = vex.w

abbrev pub r_of : Prefix → ℕ
r_of (legacy_prefix legacy rex) = (rex_bits rex).r
r_of (vex_prefix vex) = vex.r

abbrev pub x_of : Prefix → ℕ
x_of (legacy_prefix legacy rex) = (rex_bits rex).x
x_of (vex_prefix vex) = vex.x

abbrev pub b_of : Prefix → ℕ
b_of (legacy_prefix legacy rex) = (rex_bits rex).b
b_of (vex_prefix vex) = vex.b

-- whether a REX byte stands
abbrev pub has_rex : Prefix → Bool
has_rex (legacy_prefix legacy rex) = is_some rex
has_rex (vex_prefix vex) = false

-- the register in vvvv, 0 outside VEX
abbrev pub vvvv_of : Prefix → ℕ
vvvv_of (legacy_prefix legacy rex) = 0
vvvv_of (vex_prefix vex) = vex.vvvv
