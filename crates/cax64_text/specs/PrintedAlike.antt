-- When two memory operands print alike.
use Rattle.std.specs.Prelude.{◌≡◌, ◌<◌, ℕ, ⊤, IsTrue, pos, List, Option, Some, None}
use Rattle.cax64_address.specs.Offset.{fits_i32}
use Rattle.cax64_address.specs.declared.amode.Amode.{Amode}
use Rattle.cax64_address.specs.declared.amode.Amode.TheVariants.{ImmReg, ImmRegRegShift, RipRelative}
use Rattle.cax64_register.specs.Names.{register_name}
use Rattle.cax64_register.specs.declared.gpr.Size.{Size}

-- the names of the hardware, of registers with these numbers
abbrev pub hardware_text : {R : Type 0} → (R → ℕ) → R → Option Size → List ℕ
hardware_text enc reg size = register_name (enc reg) size

-- a late offset's key is a byte
abbrev pub IsKey : Option ℕ → Type 0
IsKey None = ⊤
IsKey (Some key) = key < 256

-- an operand with a base, whose registers have names, and whose displacement is an i32
abbrev pub IsBased : {R : Type 0} → (R → ℕ) → Amode R → Type 0
IsBased enc (ImmReg base simm32 trap) = (enc base < 16) × IsKey simm32.offset × IsTrue (fits_i32 simm32.simm32)
IsBased enc (ImmRegRegShift base index scale simm32 trap) = (enc base < 16) × (enc index < 16) × IsTrue (fits_i32 simm32)
IsBased enc (RipRelative target) = ⊥

-- The numbers of base and index, the factor, the late offset's key and the written displacement agree. Traps aren't
-- printed.
abbrev pub SamePrinted : {R : Type 0} → (R → ℕ) → Amode R → Amode R → Type 0
SamePrinted enc (ImmReg base simm32 trap) (ImmReg base2 simm32-2 trap2) = (enc base ≡ enc base2) × (simm32.offset ≡ simm32-2.offset) × (simm32.simm32 ≡ simm32-2.simm32)
SamePrinted enc (ImmReg base simm32 trap) (ImmRegRegShift base2 index2 scale2 simm32-2 trap2) = ⊥
SamePrinted enc (ImmReg base simm32 trap) (RipRelative target2) = ⊥
SamePrinted enc (ImmRegRegShift base index scale simm32 trap) (ImmReg base2 simm32-2 trap2) = ⊥
SamePrinted enc (ImmRegRegShift base index scale simm32 trap) (ImmRegRegShift base2 index2 scale2 simm32-2 trap2) = (enc base ≡ enc base2) × (enc index ≡ enc index2) × (scale ≡ scale2) × (simm32 ≡ simm32-2)
SamePrinted enc (ImmRegRegShift base index scale simm32 trap) (RipRelative target2) = ⊥
SamePrinted enc (RipRelative target) (ImmReg base2 simm32-2 trap2) = ⊥
SamePrinted enc (RipRelative target) (ImmRegRegShift base2 index2 scale2 simm32-2 trap2) = ⊥
SamePrinted enc (RipRelative target) (RipRelative target2) = target ≡ target2

-- an example: the eight bytes behind what a register points to
abbrev pub eight_behind : ℕ → Amode ℕ
eight_behind base = ImmReg base (record { simm32 = pos 8; offset = None }) None
