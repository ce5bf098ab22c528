use Rattle.std.specs.Prelude.{ℕ, Bool, Option, Some, None, ℤ, pos}
use Rattle.cax64_address.specs.Address as address
use Rattle.cax64_address.specs.declared.amode.Amode.{Amode}
use Rattle.cax64_address.specs.declared.operand.GprMem as gpr_mem
use Rattle.cax64_address.specs.declared.operand.GprMem.{GprMem}
use Rattle.cax64_address.specs.declared.operand.XmmMem as xmm_mem
use Rattle.cax64_address.specs.declared.operand.XmmMem.{XmmMem}
use Rattle.cax64_machine_code.specs.declared.reading.Place.{Place}
use Rattle.cax64_machine_code.specs.declared.reading.Place.TheVariants.{Reg}
use Rattle.cax64_machine_code.specs.declared.reading.RegView.TheVariants.{Low}
use Rattle.cax64_encoder.specs.Number.{number_of, number_value}
use Rattle.cax64_encoder.specs.declared.role.PlaceOperand.{PlaceOperand}
use Rattle.cax64_encoder.specs.declared.role.PlaceOperand.TheVariants.{NoPlace, Register, Memory}

-- The rest of the tail: a register or memory.

abbrev pub gpr_mem_place : {R M : Type 0} → (R → Bool) → (R → ℕ) → GprMem R M → PlaceOperand M
gpr_mem_place settled enc (gpr_mem.TheVariants.Gpr reg) = Register (number_of settled enc reg)
gpr_mem_place settled enc (gpr_mem.TheVariants.Mem amode) = Memory amode

abbrev pub xmm_mem_place : {R M : Type 0} → (R → Bool) → (R → ℕ) → XmmMem R M → PlaceOperand M
xmm_mem_place settled enc (xmm_mem.TheVariants.Xmm reg) = Register (number_of settled enc reg)
xmm_mem_place settled enc (xmm_mem.TheVariants.Mem amode) = Memory amode

abbrev pub memory_in : {M : Type 0} → PlaceOperand M → Option (Amode M)
memory_in NoPlace = None
memory_in (Register number) = None
memory_in (Memory amode) = Some amode

-- its displacement for a sink that knows these offsets, 0 where it isn't memory
abbrev pub displacement_in : {M : Type 0} → (ℕ → Option ℤ) → PlaceOperand M → ℤ
displacement_in offsets NoPlace = pos 0
displacement_in offsets (Register number) = pos 0
displacement_in offsets (Memory amode) = address.displacement_of offsets amode

-- the place that is read for it, with this displacement, before so many bytes of immediate
abbrev pub place_read : {M : Type 0} → (M → ℕ) → ℤ → ℕ → PlaceOperand M → Option Place
place_read enc disp at_end NoPlace = None
place_read enc disp at_end (Register number) = Some (Reg (Low (number_value number)))
place_read enc disp at_end (Memory amode) = Some (address.displaced_place enc disp at_end amode)
