use Rattle.std.specs.Prelude.{ℕ}
use Rattle.cax64_address.specs.declared.amode.Amode.{Amode}
use Rattle.cax64_address.specs.declared.amode.Amode.TheVariants.{ImmReg, ImmRegRegShift, RipRelative}
use Rattle.cax64_encoder.specs.Number.{number_value}
use Rattle.cax64_encoder.specs.declared.number.Number.TheVariants.{Settled}
use Rattle.cax64_encoder.specs.declared.role.PlaceOperand as operand
use Rattle.cax64_encoder.specs.declared.role.PlaceOperand.{PlaceOperand}

-- Other registers in the place of those of an operand.

abbrev pub renamed_amode : (ℕ → ℕ) → Amode ℕ → Amode ℕ
renamed_amode home (ImmReg base simm32 trap) = ImmReg (home base) simm32 trap
renamed_amode home (ImmRegRegShift base index scale simm32 trap) = ImmRegRegShift (home base) (home index) scale simm32 trap
renamed_amode home (RipRelative target) = RipRelative target

abbrev pub renamed_place : (ℕ → ℕ) → PlaceOperand ℕ → PlaceOperand ℕ
renamed_place home operand.TheVariants.NoPlace = operand.TheVariants.NoPlace
renamed_place home (operand.TheVariants.Register number) = operand.TheVariants.Register (Settled (home (number_value number)))
renamed_place home (operand.TheVariants.Memory amode) = operand.TheVariants.Memory (renamed_amode home amode)
