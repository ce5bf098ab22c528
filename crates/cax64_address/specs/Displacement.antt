-- How a displacement is written.
use Rattle.std.specs.Prelude.{◌≡◌, ◌≢◌, ℕ, ◌+◌, List, [], ◌∷◌, ◌++◌, ℤ, pos, ◌*ℤ◌, Option, Some, unsigned_abs}
use Rattle.std.specs.Prelude as std
use Rattle.std.specs.Int.{cast_unsigned, to_le_bytes, w8, w32}
use Rattle.std.specs.Int.RustNames.{FitsSigned}
use Rattle.cax64_address.specs.declared.disp.Disp.{Disp}
use Rattle.cax64_address.specs.declared.disp.Disp.TheVariants.{None, Imm8, Imm32}
use Rattle.cax64_machine_code.specs.Tail.{disp_at}
use Rattle.cax64_sink.specs.Run.{all_bytes}
use Rattle.cax64_sink.specs.Call.{Action, put}

-- the mod field that goes with a class
abbrev pub mode_of : Disp → ℕ
mode_of None = 0
mode_of (Imm8 v) = 1
mode_of (Imm32 v) = 2

-- how many bytes a class has
abbrev pub class_length : Disp → ℕ
class_length None = 0
class_length (Imm8 v) = 1
class_length (Imm32 v) = 4

-- what is put for a class
abbrev pub disp_actions : Disp → List Action
disp_actions None = []
disp_actions (Imm8 v) = put (cast_unsigned w8 v ∷ []) ∷ []
disp_actions (Imm32 v) = put (to_le_bytes w32 (cast_unsigned w32 v)) ∷ []

-- the byte of a class of one
abbrev pub disp_byte : Disp → Option ℕ
disp_byte None = std.None
disp_byte (Imm8 v) = Some (cast_unsigned w8 v)
disp_byte (Imm32 v) = std.None

-- the four bytes of a class of four, as a number
abbrev pub disp_long : Disp → Option ℕ
disp_long None = std.None
disp_long (Imm8 v) = std.None
disp_long (Imm32 v) = Some (cast_unsigned w32 v)

-- the factor of a byte, 1 where there is none
abbrev pub factor_of : Option ℤ → ℕ
factor_of (Some n) = unsigned_abs n
factor_of std.None = 1

-- the class of a displacement under a factor: none for 0; else a byte where the factor divides it and the quotient is
-- one; else four bytes
abbrev pub IsClassOf : ℕ → ℤ → Disp → Type 0
IsClassOf factor value None = value ≡ pos 0
IsClassOf factor value (Imm8 quotient) = (value ≢ pos 0) × FitsSigned w8 quotient × (quotient *ℤ pos factor ≡ value)
IsClassOf factor value (Imm32 whole) = (value ≢ pos 0) × (whole ≡ value) × ((quotient : ℤ) → FitsSigned w8 quotient → quotient *ℤ pos factor ≢ value)

-- the mod field and the bytes of a class read back as the displacement under the factor, whatever follows
pub record GivesBack (factor : ℕ) (value : ℤ) (d : Disp) : Type 0 where
  pub reads : (rest : List ℕ) → disp_at (mode_of d) factor (all_bytes (disp_actions d) ++ rest) ≡ Some (value, rest)

-- a byte of 0 where there was none
abbrev pub forced : Disp → Disp
forced None = Imm8 (pos 0)
forced (Imm8 v) = Imm8 v
forced (Imm32 v) = Imm32 v
