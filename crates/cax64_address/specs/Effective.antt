-- The address that a memory operand has.
use Rattle.std.specs.Prelude.{ℕ, ◌+◌, ◌*◌, List, ℤ, pos, ◌+ℤ◌, ◌-ℤ◌, Option, slice_index}
use Rattle.cax64_machine_code.specs.Address.{modulo_64_bits}
use Rattle.cax64_address.specs.Offset.{sum_of}
use Rattle.cax64_address.specs.declared.amode.Amode.{Amode}
use Rattle.cax64_address.specs.declared.amode.Amode.TheVariants.{ImmReg, ImmRegRegShift, RipRelative}
use Rattle.cax64_address.specs.declared.amode.Scale.{Scale}
use Rattle.cax64_address.specs.declared.amode.Scale.TheVariants.{One, Two, Four, Eight}

-- what an index is multiplied by
abbrev pub scale_factor : Scale → ℕ
scale_factor One = 1
scale_factor Two = 2
scale_factor Four = 4
scale_factor Eight = 8

-- The effective address of an operand, from its own fields, the values of the general registers by number, and the place
-- after the instruction: base plus index times factor plus displacement, modulo 2 to the 64; or, until its target is
-- settled, the place where the immediate begins. (Intel SDM, volume 1, 3.7.5; volume 2, 2.2.1.6.)
abbrev pub effective_address : {R : Type 0} → (R → ℕ) → (ℕ → Option ℤ) → ℕ → Amode R → List ℕ → ℕ → ℕ
effective_address enc offsets at_end (ImmReg base simm32 trap) regs end =
    modulo_64_bits (pos (slice_index regs (enc base)) +ℤ sum_of offsets simm32.offset simm32.simm32)
effective_address enc offsets at_end (ImmRegRegShift base index scale simm32 trap) regs end =
    modulo_64_bits (pos (slice_index regs (enc base) + slice_index regs (enc index) * scale_factor scale) +ℤ simm32)
effective_address enc offsets at_end (RipRelative target) regs end = modulo_64_bits (pos end -ℤ pos at_end)
