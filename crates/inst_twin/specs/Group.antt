use Rattle.std.specs.Prelude.{ℕ}
use Rattle.inst_twin.specs.declared.Twin.{Twin}
use Rattle.inst_twin.specs.declared.Twin.TheVariants as twin

-- The group of variants whose function visits an instruction. Words of the proof's own steps.

unfoldable pub group_of : {R A B C D E F : Type 0} → Twin R A B C D E F → ℕ
group_of (twin.mulxl_twin i) = 0
group_of (twin.nop_1b i) = 1
