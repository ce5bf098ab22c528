use Rattle.std.specs.Prelude.{ℕ}
use Rattle.cax64_address.specs.declared.amode.Amode.{Amode}
use Rattle.cax64_address.specs.declared.amode.Amode.TheVariants.{ImmReg, ImmRegRegShift, RipRelative}
use Rattle.cax64_operand.specs.Family.{Numbering}

-- Memory with the number of each register in its place. All else stays.
abbrev pub numbered_amode : {M : Type 0} → Numbering M → Amode M → Amode ℕ
numbered_amode n (ImmReg base simm32 trap) = ImmReg (n.enc base) simm32 trap
numbered_amode n (ImmRegRegShift base index scale simm32 trap) = ImmRegRegShift (n.enc base) (n.enc index) scale simm32 trap
numbered_amode n (RipRelative target) = RipRelative target
