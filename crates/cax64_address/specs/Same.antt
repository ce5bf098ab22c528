-- When operands compare equal.
use Rattle.std.specs.Prelude.{◌≡◌, Bool, true}
use Rattle.cax64_address.specs.declared.amode.Amode.{Amode}
use Rattle.cax64_address.specs.declared.amode.Amode.TheVariants.{ImmReg, ImmRegRegShift, RipRelative}
use Rattle.cax64_address.specs.declared.operand.GprMem.{GprMem}
use Rattle.cax64_address.specs.declared.operand.GprMem.TheVariants.{Gpr, Mem}

-- the same variant with equal fields, where registers are equal as their family says
abbrev pub SameAmode : {R : Type 0} → (R → R → Bool) → Amode R → Amode R → Type 0
SameAmode eq (ImmReg base simm32 trap) (ImmReg base2 simm32-2 trap2) = (eq base base2 ≡ true) × (simm32 ≡ simm32-2) × (trap ≡ trap2)
SameAmode eq (ImmReg base simm32 trap) (ImmRegRegShift base2 index2 scale2 simm32-2 trap2) = ⊥
SameAmode eq (ImmReg base simm32 trap) (RipRelative target2) = ⊥
SameAmode eq (ImmRegRegShift base index scale simm32 trap) (ImmReg base2 simm32-2 trap2) = ⊥
SameAmode eq (ImmRegRegShift base index scale simm32 trap) (ImmRegRegShift base2 index2 scale2 simm32-2 trap2) = (eq base base2 ≡ true) × (eq index index2 ≡ true) × (scale ≡ scale2) × (simm32 ≡ simm32-2) × (trap ≡ trap2)
SameAmode eq (ImmRegRegShift base index scale simm32 trap) (RipRelative target2) = ⊥
SameAmode eq (RipRelative target) (ImmReg base2 simm32-2 trap2) = ⊥
SameAmode eq (RipRelative target) (ImmRegRegShift base2 index2 scale2 simm32-2 trap2) = ⊥
SameAmode eq (RipRelative target) (RipRelative target2) = target ≡ target2

abbrev pub SameGprMem : {R M : Type 0} → (R → R → Bool) → (M → M → Bool) → GprMem R M → GprMem R M → Type 0
SameGprMem eq eq_m (Gpr reg) (Gpr reg2) = eq reg reg2 ≡ true
SameGprMem eq eq_m (Gpr reg) (Mem amode2) = ⊥
SameGprMem eq eq_m (Mem amode) (Gpr reg2) = ⊥
SameGprMem eq eq_m (Mem amode) (Mem amode2) = SameAmode eq_m amode amode2
