use Rattle.std.specs.Prelude.{ℕ, Option, Some, None, option_map, ℤ, List, [], ◌∷◌, length}
use Rattle.cax64_address.specs.declared.amode.Amode.{Amode}
use Rattle.cax64_machine_code.specs.Len.{len_of}
use Rattle.cax64_machine_code.specs.Reading.{Parts}
use Rattle.cax64_machine_code.specs.declared.reading.RegView.{RegView}
use Rattle.cax64_machine_code.specs.declared.reading.RegView.TheVariants.{Low}
use Rattle.cax64_machine_code.specs.declared.row.Row.{Row}
use Rattle.cax64_operand.specs.Family.{Numbering, Family}
use Rattle.cax64_operand.specs.Immediate.{imm_size, imm_value}
use Rattle.cax64_operand.specs.OperandList.{list_of, nop_of}
use Rattle.cax64_operand.specs.declared.immediate.ImmOperand.{ImmOperand}
use Rattle.cax64_operand.specs.declared.nop.Nop.{Nop}
use Rattle.cax64_operand.specs.declared.operand.Operands.{Operands}
use Rattle.cax64_encoder.specs.Nop.{nop_parts, nop_bytes}
use Rattle.cax64_encoder.specs.Number.{number_value}
use Rattle.cax64_encoder.specs.Place.{memory_in, displacement_in, place_read}
use Rattle.cax64_encoder.specs.Role.{roles_of}
use Rattle.cax64_encoder.specs.Visits.{visits_of}
use Rattle.cax64_encoder.specs.declared.fault.Visited.{Visited}
use Rattle.cax64_encoder.specs.declared.number.Number.{Number}
use Rattle.cax64_encoder.specs.declared.role.PlaceOperand.{PlaceOperand}
use Rattle.cax64_encoder.specs.declared.role.PlaceOperand.TheVariants.{NoPlace}
use Rattle.cax64_encoder.specs.declared.role.Role.{Role}
use Rattle.cax64_encoder.specs.declared.role.Role.TheVariants.{Register, TwoRegisters, FixedRegister, Place, Immediate}

-- What is meant by an instruction, for the offsets that a sink knows.
pub record Meant (M : Type 0) : Type 0 where
  -- what its bytes are to read as
  pub parts : Parts
  -- its memory operand
  pub memory : Option (Amode M)
  -- its registers in the order of visits
  pub visited : List Visited
  -- its very bytes, where row and operands leave a choice: those of a no-operation
  pub exact : Option (List ℕ)

-- The registers in the bytes outside of the rest of the tail: the first stands in reg, the second in vvvv.
abbrev pub numbers_in : {M : Type 0} → List (Role M) → List Number
numbers_in [] = []
numbers_in (Register number ∷ later) = number ∷ numbers_in later
numbers_in (TwoRegisters first second same ∷ later) = first ∷ second ∷ numbers_in later
numbers_in (FixedRegister fixed ∷ later) = numbers_in later
numbers_in (Place operand ∷ later) = numbers_in later
numbers_in (Immediate imm ∷ later) = numbers_in later

abbrev pub first : {T : Type 0} → List T → Option T
first [] = None
first (a ∷ later) = Some a

abbrev pub second : {T : Type 0} → List T → Option T
second [] = None
second (a ∷ later) = first later

-- the rest of the tail
abbrev pub place_in : {M : Type 0} → List (Role M) → PlaceOperand M
place_in [] = NoPlace
place_in (Register number ∷ later) = place_in later
place_in (TwoRegisters first second same ∷ later) = place_in later
place_in (FixedRegister fixed ∷ later) = place_in later
place_in (Place operand ∷ later) = operand
place_in (Immediate imm ∷ later) = place_in later

abbrev pub imm_in : {M : Type 0} → List (Role M) → Option ImmOperand
imm_in [] = None
imm_in (Register number ∷ later) = imm_in later
imm_in (TwoRegisters first second same ∷ later) = imm_in later
imm_in (FixedRegister fixed ∷ later) = imm_in later
imm_in (Place operand ∷ later) = imm_in later
imm_in (Immediate imm ∷ later) = Some imm

-- a register as it is read
abbrev pub low : Number → RegView
low number = Low (number_value number)

-- what operands of a row mean
abbrev pub operands_meant : {M : Type 0} → Numbering M → Row → List (Role M) → (ℕ → Option ℤ) → Meant M
operands_meant n row roles offsets = record {
  parts = record {
    row = row;
    reg = option_map low (first (numbers_in roles));
    vvvv = option_map number_value (second (numbers_in roles));
    place = place_read n.enc (displacement_in offsets (place_in roles)) (imm_size (imm_in roles)) (place_in roles);
    imm = option_map imm_value (imm_in roles);
  };
  memory = memory_in (place_in roles);
  visited = visits_of n roles;
  exact = None;
}

abbrev pub nop_meant : {M : Type 0} → Row → Nop → Meant M
nop_meant row nop = record { parts = nop_parts row nop; memory = None; visited = []; exact = Some (nop_bytes nop) }

abbrev pub nop_or : {M : Type 0} → Row → Option Nop → Meant M → Meant M
nop_or row None m = m
nop_or row (Some nop) m = nop_meant row nop

-- What an instruction of a row means that has these operands, for the offsets that a sink knows.
abbrev pub meant_of : {R A B C D E F : Type 0} → Family A B C D E F → Row → Operands R A B C D E F → (ℕ → Option ℤ) → Meant A
meant_of f row operands offsets = nop_or row (nop_of operands) (operands_meant f.read_gpr row (roles_of f (list_of operands)) offsets)

abbrev pub len_or : Option (List ℕ) → ℕ → ℕ
len_or None least = least
len_or (Some bytes) least = length bytes

-- how many bytes it has
abbrev pub len : {M : Type 0} → Meant M → ℕ
len m = len_or m.exact (len_of m.parts)
