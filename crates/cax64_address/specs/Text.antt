-- Texts of displacements and of memory operands.
use Rattle.std.specs.Prelude.{ℕ, nat_lt, Bool, true, false, ◌&&◌, if◌then◌else◌, ℤ, pos, negsuc, suc, zero, Option, Some, None, List, [], ◌++◌, codes}
use Rattle.std.specs.Fmt.{decimal, digits}
use Rattle.cax64_address.specs.declared.amode.Amode.{Amode}
use Rattle.cax64_address.specs.declared.amode.Amode.TheVariants.{ImmReg, ImmRegRegShift, RipRelative}
use Rattle.cax64_address.specs.declared.amode.Scale.{Scale}
use Rattle.cax64_address.specs.declared.amode.Scale.TheVariants.{One, Two, Four, Eight}
use Rattle.cax64_address.specs.declared.operand.GprMem.{GprMem}
use Rattle.cax64_address.specs.declared.operand.GprMem.TheVariants as gpr_mem
use Rattle.cax64_address.specs.declared.operand.XmmMem.{XmmMem}
use Rattle.cax64_address.specs.declared.operand.XmmMem.TheVariants as xmm_mem
use Rattle.cax64_address.specs.declared.text.Dialect.{Dialect}
use Rattle.cax64_address.specs.declared.text.Dialect.TheVariants.{Att, Xed}
use Rattle.cax64_register.specs.declared.gpr.Size.{Size}
use Rattle.cax64_register.specs.declared.gpr.Size.TheVariants.{Quadword}

-- `0x` and the hexadecimal digits, in lower case and without leading zeros
abbrev pub hexadecimal : ℕ → List ℕ
hexadecimal n = codes "0x" ++ digits 16 false n

-- one decimal digit up to 9, and hexadecimal beyond
abbrev pub short_number : ℕ → List ℕ
short_number n = if nat_lt n 10 then decimal n else hexadecimal n

abbrev pub magnitude_text : Dialect → ℕ → List ℕ
magnitude_text Att n = short_number n
magnitude_text Xed n = hexadecimal n

-- a displacement: nothing for 0
abbrev pub offset_text : Dialect → ℤ → List ℕ
offset_text d (pos zero) = []
offset_text d (pos (suc n)) = magnitude_text d (suc n)
offset_text d (negsuc n) = codes "-" ++ magnitude_text d (suc n)

-- the key of a late offset
abbrev pub late_text : Option ℕ → List ℕ
late_text None = []
late_text (Some key) = codes "<offset:" ++ decimal key ++ codes ">+"

-- what stands between base and index
abbrev pub comma : Dialect → List ℕ
comma Att = codes ", "
comma Xed = codes ","

-- the factor behind the index: in `Att` only where it isn't 1
abbrev pub scale_text : Dialect → Scale → List ℕ
scale_text Att One = []
scale_text Att Two = codes ", 2"
scale_text Att Four = codes ", 4"
scale_text Att Eight = codes ", 8"
scale_text Xed One = codes ",1"
scale_text Xed Two = codes ",2"
scale_text Xed Four = codes ",4"
scale_text Xed Eight = codes ",8"

-- a memory operand, with the texts that its family's registers have
abbrev pub amode_text : {R : Type 0} → (R → Option Size → List ℕ) → Dialect → Amode R → List ℕ
amode_text text d (ImmReg base simm32 trap) = late_text simm32.offset ++ offset_text d simm32.simm32 ++ codes "(" ++ text base (Some Quadword) ++ codes ")"
amode_text text d (ImmRegRegShift base index scale simm32 trap) = offset_text d simm32 ++ codes "(" ++ text base (Some Quadword) ++ comma d ++ text index (Some Quadword) ++ scale_text d scale ++ codes ")"
amode_text text d (RipRelative target) = codes "(%rip)"

-- a register at a size, or memory
abbrev pub gpr_mem_text : {R M : Type 0} → (R → Option Size → List ℕ) → (M → Option Size → List ℕ) → Dialect → GprMem R M → Size → List ℕ
gpr_mem_text text mem_text d (gpr_mem.Gpr reg) size = text reg (Some size)
gpr_mem_text text mem_text d (gpr_mem.Mem amode) size = amode_text mem_text d amode

-- an XMM register, or memory
abbrev pub xmm_mem_text : {R M : Type 0} → (R → Option Size → List ℕ) → (M → Option Size → List ℕ) → Dialect → XmmMem R M → List ℕ
xmm_mem_text text mem_text d (xmm_mem.Xmm reg) = text reg None
xmm_mem_text text mem_text d (xmm_mem.Mem amode) = amode_text mem_text d amode

-- each register that is printed has a text
abbrev pub amode_nameable : {R : Type 0} → (R → Bool) → Amode R → Bool
amode_nameable nameable (ImmReg base simm32 trap) = nameable base
amode_nameable nameable (ImmRegRegShift base index scale simm32 trap) = nameable base && nameable index
amode_nameable nameable (RipRelative target) = true

abbrev pub gpr_mem_nameable : {R M : Type 0} → (R → Bool) → (M → Bool) → GprMem R M → Bool
gpr_mem_nameable nameable mem_nameable (gpr_mem.Gpr reg) = nameable reg
gpr_mem_nameable nameable mem_nameable (gpr_mem.Mem amode) = amode_nameable mem_nameable amode

abbrev pub xmm_mem_nameable : {R M : Type 0} → (R → Bool) → (M → Bool) → XmmMem R M → Bool
xmm_mem_nameable nameable mem_nameable (xmm_mem.Xmm reg) = nameable reg
xmm_mem_nameable nameable mem_nameable (xmm_mem.Mem amode) = amode_nameable mem_nameable amode
