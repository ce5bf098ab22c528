use Rattle.std.specs.Prelude.{ℕ, ◌+◌, ◌-◌, ◌*◌, ◌%◌, ◌^◌, ℤ, pos, negsuc, ◌+ℤ◌, Option, Some, None, List, slice_index}
use Rattle.cax64_machine_code.specs.declared.reading.Place.{Place}
use Rattle.cax64_machine_code.specs.declared.reading.Place.TheVariants.{Reg, Mem, Rip}

-- An address is computed from the values of the sixteen general registers, in the order of their numbers, and from the
-- place that comes after the instruction. (Intel SDM, volume 1, 3.7.5; volume 2, 2.2.1.6.)

-- an integer modulo 2 to the 64
abbrev pub modulo_64_bits : ℤ → ℕ
modulo_64_bits (pos n) = n % 2 ^ 64
modulo_64_bits (negsuc n) = 2 ^ 64 - 1 - n % 2 ^ 64

-- the value of a base register, 0 where there is none
abbrev pub base_value : Option ℕ → List ℕ → ℕ
base_value None regs = 0
base_value (Some number) regs = slice_index regs number

-- the value of an index register times its factor, 0 where there is none
abbrev pub index_value : Option (ℕ × ℕ) → List ℕ → ℕ
index_value None regs = 0
index_value (Some index) regs = slice_index regs index.0 * index.1

-- the address of the memory that a place names; a register has none
abbrev pub address_of : Place → List ℕ → ℕ → Option ℕ
address_of (Reg view) regs end = None
address_of (Mem base index disp) regs end = Some (modulo_64_bits (pos (base_value base regs + index_value index regs) +ℤ disp))
address_of (Rip disp) regs end = Some (modulo_64_bits (pos end +ℤ disp))
