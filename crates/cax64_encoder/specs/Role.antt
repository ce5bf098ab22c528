use Rattle.std.specs.Prelude.{ℕ, List, [], ◌∷◌}
use Rattle.cax64_operand.specs.Family.{Numbering, Family}
use Rattle.cax64_operand.specs.Immediate.{imm_of}
use Rattle.cax64_operand.specs.declared.operand.Operand.{Operand}
use Rattle.cax64_operand.specs.declared.operand.Operand.TheVariants.{ReadGpr, ReadWriteGpr, WriteGpr, WriteTwoGprs, FixedReadGpr, FixedReadWriteGpr, ReadXmm, ReadWriteXmm, WriteXmm, ReadAmode, ReadGprMem, ReadWriteGprMem, ReadXmmMem, Imm}
use Rattle.cax64_encoder.specs.Number.{number_of}
use Rattle.cax64_encoder.specs.Place.{gpr_mem_place, xmm_mem_place}
use Rattle.cax64_encoder.specs.declared.number.Number.{Number}
use Rattle.cax64_encoder.specs.declared.role.FixedNumber.{FixedNumber}
use Rattle.cax64_encoder.specs.declared.role.PlaceOperand.TheVariants.{Memory}
use Rattle.cax64_encoder.specs.declared.role.Role.{Role}
use Rattle.cax64_encoder.specs.declared.role.Role.TheVariants.{Register, TwoRegisters, FixedRegister, Place, Immediate}

abbrev pub number : {R : Type 0} → Numbering R → R → Number
number n reg = number_of n.settled n.enc reg

-- a register that is fixed to a number
abbrev pub held : {R : Type 0} → Numbering R → R → ℕ → FixedNumber
held n reg expected = record { held = number n reg; expected = expected }

-- What an operand is to the bytes and to a visit.
abbrev pub role_of : {R A B C D E F : Type 0} → Family A B C D E F → Operand R A B C D E F → Role A
role_of f (ReadGpr reg size) = Register (number f.read_gpr reg)
role_of f (ReadWriteGpr reg size) = Register (number f.read_write_gpr reg)
role_of f (WriteGpr reg size) = Register (number f.write_gpr reg)
role_of f (WriteTwoGprs first second size) = TwoRegisters (number f.write_gpr first) (number f.write_gpr second) (f.same_write_gpr first second)
role_of f (FixedReadGpr reg expected size) = FixedRegister (held f.read_gpr reg expected)
role_of f (FixedReadWriteGpr reg expected size) = FixedRegister (held f.read_write_gpr reg expected)
role_of f (ReadXmm reg) = Register (number f.read_xmm reg)
role_of f (ReadWriteXmm reg) = Register (number f.read_write_xmm reg)
role_of f (WriteXmm reg) = Register (number f.write_xmm reg)
role_of f (ReadAmode amode) = Place (Memory amode)
role_of f (ReadGprMem operand size) = Place (gpr_mem_place f.read_gpr.settled f.read_gpr.enc operand)
role_of f (ReadWriteGprMem operand size) = Place (gpr_mem_place f.read_write_gpr.settled f.read_write_gpr.enc operand)
role_of f (ReadXmmMem operand) = Place (xmm_mem_place f.read_xmm.settled f.read_xmm.enc operand)
role_of f (Imm imm) = Immediate (imm_of imm)

abbrev pub roles_of : {R A B C D E F : Type 0} → Family A B C D E F → List (Operand R A B C D E F) → List (Role A)
roles_of f [] = []
roles_of f (operand ∷ later) = role_of f operand ∷ roles_of f later
