-- What the words of an address mean.
use Rattle.std.specs.Prelude.{◌≡◌, ◌≢◌, ◌<◌, ℕ, ℤ, pos, ◌≤ℤ◌, List, [], ◌∷◌, Option, None, Some, true, IsTrue, FitsSigned}
use Rattle.std.specs.Int.{w32}
use Rattle.cax64_address.specs.Address.{scale_number, is_addressable}
use Rattle.cax64_address.specs.declared.amode.Amode.{Amode}
use Rattle.cax64_address.specs.declared.amode.Amode.TheVariants.{ImmReg, ImmRegRegShift, RipRelative}
use Rattle.x64rows_command.specs.Words.{Writes, WritesSigned}

-- the word that stands for nothing
abbrev pub IsAbsent : List ℕ → Type 0
IsAbsent word = word ≡ 45 ∷ []

-- the word is a register's number
abbrev pub WritesRegister : List ℕ → ℕ → Type 0
WritesRegister word n = Writes word n × (n < 16)

-- the word is a displacement, an i32
abbrev pub WritesDisplacement : List ℕ → ℤ → Type 0
WritesDisplacement word d = WritesSigned word d × FitsSigned w32 d

-- base, index, scale and displacement, as words, are those of the operand
abbrev pub WritesAddress : List ℕ → List ℕ → List ℕ → List ℕ → Amode ℕ → Type 0
WritesAddress base index scale disp (ImmReg b simm32 trap) =
    WritesRegister base b × IsAbsent index × IsAbsent scale × WritesDisplacement disp simm32.simm32 × (simm32.offset ≡ None) × (trap ≡ None)
WritesAddress base index scale disp (ImmRegRegShift b i s simm32 trap) =
    WritesRegister base b × WritesRegister index i × (i ≢ 4) × Writes scale (scale_number s) × WritesDisplacement disp simm32 × (trap ≡ None)
WritesAddress base index scale disp (RipRelative target) = ⊥

-- the operand can be written whatever offsets are known
abbrev pub IsAddressable : Amode ℕ → Type 0
IsAddressable mode = (offsets : ℕ → Option ℤ) → IsTrue (is_addressable (λ _. true) (λ n. n) offsets mode)

-- the word is a factor from 1 to 127, or stands for none
abbrev pub WritesFactor : List ℕ → Option ℤ → Type 0
WritesFactor word None = IsAbsent word
WritesFactor word (Some n) = (pos 1 ≤ℤ n) × (n ≤ℤ pos 127) × WritesSigned word n
