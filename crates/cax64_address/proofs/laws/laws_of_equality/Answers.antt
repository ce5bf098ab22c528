use Rattle.std.proofs.Common.{rules}
use Rattle.cax64_address.specs.declared.amode.Amode.TheVariants.{ImmReg, ImmRegRegShift, RipRelative}
use Rattle.cax64_address.specs.declared.operand.GprMem.TheVariants.{Gpr, Mem}
use Rattle.cax64_address.proofs.Equality.{tells_three, tells_five, tells_itself, tells_target, tells_scale, tells_late, tells_offset, tells_trap}
use Rattle.cax64_address.proofs.laws.laws_of_equality.Goals as goal

pub returns-clause-amodes : goal.returns-clause-amodes
returns-clause-amodes g c (ImmReg base simm32 trap) (ImmReg base2 simm32-2 trap2) =
    tells_three _ _ _ (tells_itself _) (tells_late simm32 simm32-2) (tells_trap trap trap2)
returns-clause-amodes g c (ImmReg base simm32 trap) (ImmRegRegShift base2 index2 scale2 simm32-2 trap2) = search rules
returns-clause-amodes g c (ImmReg base simm32 trap) (RipRelative target2) = search rules
returns-clause-amodes g c (ImmRegRegShift base index scale simm32 trap) (ImmReg base2 simm32-2 trap2) = search rules
returns-clause-amodes g c (ImmRegRegShift base index scale simm32 trap) (ImmRegRegShift base2 index2 scale2 simm32-2 trap2) =
    tells_five _ _ _ _ _ (tells_itself _) (tells_itself _) (tells_scale scale scale2) (tells_offset simm32 simm32-2) (tells_trap trap trap2)
returns-clause-amodes g c (ImmRegRegShift base index scale simm32 trap) (RipRelative target2) = search rules
returns-clause-amodes g c (RipRelative target) (ImmReg base2 simm32-2 trap2) = search rules
returns-clause-amodes g c (RipRelative target) (ImmRegRegShift base2 index2 scale2 simm32-2 trap2) = search rules
returns-clause-amodes g c (RipRelative target) (RipRelative target2) = tells_target target target2

pub returns-clause-operands : goal.returns-clause-operands
returns-clause-operands g c (Gpr reg) (Gpr reg2) = tells_itself _
returns-clause-operands g c (Gpr reg) (Mem amode2) = search rules
returns-clause-operands g c (Mem amode) (Gpr reg2) = search rules
returns-clause-operands g c (Mem (ImmReg base simm32 trap)) (Mem (ImmReg base2 simm32-2 trap2)) =
    tells_three _ _ _ (tells_itself _) (tells_late simm32 simm32-2) (tells_trap trap trap2)
returns-clause-operands g c (Mem (ImmReg base simm32 trap)) (Mem (ImmRegRegShift base2 index2 scale2 simm32-2 trap2)) = search rules
returns-clause-operands g c (Mem (ImmReg base simm32 trap)) (Mem (RipRelative target2)) = search rules
returns-clause-operands g c (Mem (ImmRegRegShift base index scale simm32 trap)) (Mem (ImmReg base2 simm32-2 trap2)) = search rules
returns-clause-operands g c (Mem (ImmRegRegShift base index scale simm32 trap)) (Mem (ImmRegRegShift base2 index2 scale2 simm32-2 trap2)) =
    tells_five _ _ _ _ _ (tells_itself _) (tells_itself _) (tells_scale scale scale2) (tells_offset simm32 simm32-2) (tells_trap trap trap2)
returns-clause-operands g c (Mem (ImmRegRegShift base index scale simm32 trap)) (Mem (RipRelative target2)) = search rules
returns-clause-operands g c (Mem (RipRelative target)) (Mem (ImmReg base2 simm32-2 trap2)) = search rules
returns-clause-operands g c (Mem (RipRelative target)) (Mem (ImmRegRegShift base2 index2 scale2 simm32-2 trap2)) = search rules
returns-clause-operands g c (Mem (RipRelative target)) (Mem (RipRelative target2)) = tells_target target target2
