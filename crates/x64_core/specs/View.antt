use Rattle.std.specs.Prelude.{ℕ, Bool, if◌then◌else◌, Option, Some, None, ℤ, option_map}
use Rattle.cax64_address.specs.declared.amode.Amode.TheVariants.{ImmReg, ImmRegRegShift, RipRelative}
use Rattle.cax64_encoder.specs.ImmActions.{imm_named}
use Rattle.cax64_encoder.specs.Number.{number_value}
use Rattle.cax64_encoder.specs.declared.number.Number.TheVariants.{Settled}
use Rattle.cax64_encoder.specs.declared.role.PlaceOperand as operand
use Rattle.cax64_encoder.specs.declared.role.PlaceOperand.{PlaceOperand}
use Rattle.cax64_operand.specs.Immediate.{imm_value}
use Rattle.cax64_table.specs.Numbers.{has_register, has_vvvv}
use Rattle.x64_lines.specs.Line.{core_line}
use Rattle.x64_core.specs.Viewed.{viewed}
use Rattle.x64_core.specs.declared.instruction.Core.{Core}
use Rattle.x64_core.specs.declared.place.CorePlace.{CorePlace}
use Rattle.x64_core.specs.declared.place.CorePlace.TheVariants.{Absent, Register, Base, BaseAndIndex, Relative}

-- An instruction of the core, in a clause: the number of its line, and its operands where they stand in the bytes. What
-- its line lacks is absent.
pub record CoreView : Type 0 where
  pub op : ℕ
  -- the register in the reg field of ModR/M
  pub reg : Option ℕ
  -- the register in vvvv of a VEX prefix
  pub vvvv : Option ℕ
  -- what the rest of the tail names
  pub place : PlaceOperand ℕ
  pub imm : Option ℤ

abbrev pub place_operand : CorePlace → PlaceOperand ℕ
place_operand Absent = operand.TheVariants.NoPlace
place_operand (Register number) = operand.TheVariants.Register (Settled number)
place_operand (Base base trap offset displacement) = operand.TheVariants.Memory (ImmReg base (record { simm32 = displacement; offset = offset }) trap)
place_operand (BaseAndIndex base index scale trap displacement) = operand.TheVariants.Memory (ImmRegRegShift base index scale displacement trap)
place_operand (Relative target) = operand.TheVariants.Memory (RipRelative target)

-- the register that a place is, where it is one
abbrev pub register_in : PlaceOperand ℕ → Option ℕ
register_in operand.TheVariants.NoPlace = None
register_in (operand.TheVariants.Register number) = Some (number_value number)
register_in (operand.TheVariants.Memory amode) = None

abbrev pub when : Bool → ℕ → Option ℕ
when present number = if present then Some number else None

abbrev pub core_view : Core → CoreView
core_view c = record {
  op = c.op.number;
  reg = when (has_register (core_line c.op.number).tail) c.reg;
  vvvv = when (has_vvvv (core_line c.op.number).prefix) c.vvvv;
  place = place_operand (viewed c.place);
  imm = option_map imm_value (imm_named (core_line c.op.number).imm c.imm);
}
