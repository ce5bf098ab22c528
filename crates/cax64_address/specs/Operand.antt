-- Operands that are a register or memory.
use Rattle.std.specs.Prelude.{Bool, true, false}
use Rattle.cax64_address.specs.declared.operand.GprMem as gpr_mem
use Rattle.cax64_address.specs.declared.operand.XmmMem as xmm_mem
use Rattle.cax64_address.specs.declared.operand.GprMem.{GprMem}
use Rattle.cax64_address.specs.declared.operand.XmmMem.{XmmMem}

-- whether an operand is memory
abbrev pub is_gpr_mem : {R M : Type 0} → GprMem R M → Bool
is_gpr_mem (gpr_mem.TheVariants.Gpr reg) = false
is_gpr_mem (gpr_mem.TheVariants.Mem amode) = true

abbrev pub is_xmm_mem : {R M : Type 0} → XmmMem R M → Bool
is_xmm_mem (xmm_mem.TheVariants.Xmm reg) = false
is_xmm_mem (xmm_mem.TheVariants.Mem amode) = true
