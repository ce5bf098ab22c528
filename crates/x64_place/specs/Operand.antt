use Rattle.std.specs.Prelude.{ℕ, ◌==◌, ◌&&◌, not, nat_lt, Bool, if◌then◌else◌}
use Rattle.cax64_address.specs.declared.amode.Amode.TheVariants.{ImmReg, ImmRegRegShift, RipRelative}
use Rattle.cax64_encoder.specs.declared.number.Number.TheVariants.{Settled}
use Rattle.cax64_encoder.specs.declared.numbered.NumberedPlace.{NumberedPlace}
use Rattle.cax64_encoder.specs.declared.role.PlaceOperand as operand
use Rattle.cax64_encoder.specs.declared.role.PlaceOperand.{PlaceOperand}
use Rattle.cax64_sink.specs.declared.DeferredTarget.TheVariants as target
use Rattle.x64_place.specs.Kind.{has_index, is_present, is_register, relative_by}
use Rattle.x64_place.specs.declared.place.FlatPlace.{FlatPlace}
use Rattle.x64_place.specs.declared.place.PlaceKind.{PlaceKind}
use Rattle.x64_place.specs.declared.place.PlaceKind.TheVariants.{Absent, Register, Base, BaseAndIndex, Label, Constant, NoTarget}

-- The operand that a place stands for, as the encoder has it.

abbrev pub operand_by : PlaceKind → FlatPlace → PlaceOperand ℕ
operand_by Absent p = operand.TheVariants.NoPlace
operand_by Register p = operand.TheVariants.Register (Settled p.base)
operand_by Base p = operand.TheVariants.Memory (ImmReg p.base (record { simm32 = p.displacement; offset = p.offset }) p.trap)
operand_by BaseAndIndex p = operand.TheVariants.Memory (ImmRegRegShift p.base p.index p.scale p.displacement p.trap)
operand_by Label p = operand.TheVariants.Memory (RipRelative (target.Label (record { 0 = p.target })))
operand_by Constant p = operand.TheVariants.Memory (RipRelative (target.Constant (record { 0 = p.target })))
operand_by NoTarget p = operand.TheVariants.Memory (RipRelative target.None)

abbrev pub place_operand : FlatPlace → PlaceOperand ℕ
place_operand p = operand_by p.kind p

-- The numbers of a place, as they stand in it.

abbrev pub placed_by : PlaceKind → FlatPlace → NumberedPlace
placed_by kind p = record { stands = is_present kind; is_register = is_register kind; has_index = has_index kind; relative = relative_by kind p.target; base = p.base; index = p.index; register = if is_register kind then p.base else 0; scale = p.scale; displacement = record { simm32 = p.displacement; offset = p.offset }; trap = p.trap }

abbrev pub placed : FlatPlace → NumberedPlace
placed p = placed_by p.kind p

-- base and index are real, and an index isn't number 4
abbrev pub numbers_met : PlaceKind → ℕ → ℕ → Bool
numbers_met kind base index = nat_lt base 16 && (nat_lt index 16 && not (has_index kind && (index == 4)))
