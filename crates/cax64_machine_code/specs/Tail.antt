use Rattle.std.specs.Prelude.{◌≡◌, ℕ, ◌+◌, ◌*◌, ◌^◌, ℤ, pos, ◌*ℤ◌, if◌then◌else◌, ◌==◌, ◌&&◌, Option, Some, None, option_map, List, [], ◌∷◌, ◌++◌}
use Rattle.cax64_machine_code.specs.Fields.{mod_of, reg_of, rm_of, scale_of, index_of, base_of, number_at, s8, s32}
use Rattle.cax64_machine_code.specs.declared.reading.RegView.TheVariants.{Low}
use Rattle.cax64_machine_code.specs.declared.reading.Place.{Place}
use Rattle.cax64_machine_code.specs.declared.reading.Place.TheVariants.{Reg, Mem, Rip}

-- The tail of an instruction is its ModR/M byte, the SIB byte and the displacement. (Intel SDM, volume 2, 2.1.3 and
-- 2.1.5, tables 2-2 and 2-3; 2.2.1.2 and 2.2.1.6 in 64-bit mode; 2.7.5 on the factor.) It is read under bits X and B
-- of the prefix, and a factor, 1 where there is none.

-- the reg field and the place that a tail names, and what follows it
pub record Tail : Type 0 where
  pub reg : ℕ
  pub place : Place
  pub rest : List ℕ

-- four bytes of displacement
abbrev pub disp32_at : List ℕ → Option (ℤ × List ℕ)
disp32_at bytes = option_map (λ n. (s32 n.0, n.1)) (number_at 4 bytes)

-- one byte of displacement, multiplied by the factor
abbrev pub disp8_at : ℕ → List ℕ → Option (ℤ × List ℕ)
disp8_at factor bytes = option_map (λ n. (s8 n.0 *ℤ pos factor, n.1)) (number_at 1 bytes)

-- the displacement that goes with mod 0, 1 and 2
unfoldable pub disp_at : ℕ → ℕ → List ℕ → Option (ℤ × List ℕ)
disp_at mode factor bytes =
    if mode == 0 then Some (pos 0, bytes)
    else (if mode == 1 then disp8_at factor bytes
    else disp32_at bytes)

-- a tail whose place is made of a displacement
abbrev pub displaced : ℕ → (ℤ → Place) → Option (ℤ × List ℕ) → Option Tail
displaced reg place disp = option_map (λ d. record { reg = reg; place = place d.0; rest = d.1 }) disp

-- the index and its factor; number 4 is none
abbrev pub scaled_index : ℕ → ℕ → Option (ℕ × ℕ)
scaled_index x sib = if (index_of sib == 4) && (x == 0) then None else Some (index_of sib + 8 * x, 2 ^ scale_of sib)

-- a SIB byte and the displacement, behind a ModR/M byte of this mod and reg; base 5 with mod 0 is none
unfoldable pub sib_at : ℕ → ℕ → ℕ → ℕ → ℕ → List ℕ → Option Tail
sib_at x b factor mode reg [] = None
sib_at x b factor mode reg (sib ∷ bytes) =
    if (base_of sib == 5) && (mode == 0)
    then displaced reg (Mem None (scaled_index x sib)) (disp32_at bytes)
    else displaced reg (Mem (Some (base_of sib + 8 * b)) (scaled_index x sib)) (disp_at mode factor bytes)

-- the tail at the front of some bytes
unfoldable pub read_tail : ℕ → ℕ → ℕ → List ℕ → Option Tail
read_tail x b factor [] = None
read_tail x b factor (modrm ∷ bytes) =
    if mod_of modrm == 3 then Some (record { reg = reg_of modrm; place = Reg (Low (rm_of modrm + 8 * b)); rest = bytes })
    else (if rm_of modrm == 4 then sib_at x b factor (mod_of modrm) (reg_of modrm) bytes
    else (if (rm_of modrm == 5) && (mod_of modrm == 0) then displaced (reg_of modrm) Rip (disp32_at bytes)
    else displaced (reg_of modrm) (Mem (Some (rm_of modrm + 8 * b)) None) (disp_at (mod_of modrm) factor bytes)))

-- the string is a tail of this reg field and place, whatever follows it
pub record IsTail (x b factor reg : ℕ) (place : Place) (t : List ℕ) : Type 0 where
  pub reads : (rest : List ℕ) → read_tail x b factor (t ++ rest) ≡ Some (record { reg = reg; place = place; rest = rest })
