use Rattle.std.specs.Prelude.{ℕ, suc, ◌-◌, ◌^◌, Option, Some, None, is_some, ℤ, pos, negsuc}
use Rattle.std.specs.Int.{from_bool}
use Rattle.std.specs.Int.NonZero.{non_zero_u8_get}
use Rattle.cax64_address.specs.Address.{scale_number}
use Rattle.cax64_address.specs.declared.amode.Amode.{Amode}
use Rattle.cax64_address.specs.declared.amode.Amode.TheVariants.{ImmReg, ImmRegRegShift, RipRelative}
use Rattle.cax64_encoder.specs.Number.{number_value}
use Rattle.cax64_encoder.specs.declared.role.PlaceOperand as operand
use Rattle.cax64_encoder.specs.declared.role.PlaceOperand.{PlaceOperand}
use Rattle.x64_plain.specs.declared.inst.HqInst.{HqInst}
use Rattle.x64_plain.specs.declared.place.HqPlace.{HqPlace}
use Rattle.x64_plain.specs.declared.place.TheConstants.{HQ_PLACE_BASE, HQ_PLACE_CONSTANT, HQ_PLACE_INDEX, HQ_PLACE_LABEL, HQ_PLACE_NOTHING, HQ_PLACE_REGISTER, HQ_PLACE_UNTOLD}
use Rattle.cax64_sink.specs.declared.DeferredTarget.{DeferredTarget}
use Rattle.cax64_sink.specs.declared.DeferredTarget.TheVariants as target
use Rattle.cax64_sink.specs.declared.TrapCode.{TrapCode}
use Rattle.x64_core.specs.View.{CoreView}

-- An instruction of the core in integers. What it lacks is 0.

abbrev pub or_0 : Option ℕ → ℕ
or_0 None = 0
or_0 (Some number) = number

abbrev pub trap_number : Option TrapCode → ℕ
trap_number None = 0
trap_number (Some code) = non_zero_u8_get code.0

-- memory relative to the end of the instruction
abbrev pub target_place : DeferredTarget → HqPlace
target_place (target.Label label) = record { place = HQ_PLACE_LABEL; base = 0; index = 0; scale = 0; trap = 0; has_offset = 0; offset = 0; reserved = 0; disp = pos 0; target = label.0 }
target_place (target.Constant constant) = record { place = HQ_PLACE_CONSTANT; base = 0; index = 0; scale = 0; trap = 0; has_offset = 0; offset = 0; reserved = 0; disp = pos 0; target = constant.0 }
target_place target.None = record { place = HQ_PLACE_UNTOLD; base = 0; index = 0; scale = 0; trap = 0; has_offset = 0; offset = 0; reserved = 0; disp = pos 0; target = 0 }

abbrev pub plain_memory : Amode ℕ → HqPlace
plain_memory (ImmReg base simm32 trap) = record {
  place = HQ_PLACE_BASE;
  base = base;
  index = 0;
  scale = 0;
  trap = trap_number trap;
  has_offset = from_bool (is_some simm32.offset);
  offset = or_0 simm32.offset;
  reserved = 0;
  disp = simm32.simm32;
  target = 0;
}
plain_memory (ImmRegRegShift base index scale simm32 trap) = record {
  place = HQ_PLACE_INDEX;
  base = base;
  index = index;
  scale = scale_number scale;
  trap = trap_number trap;
  has_offset = 0;
  offset = 0;
  reserved = 0;
  disp = simm32;
  target = 0;
}
plain_memory (RipRelative target) = target_place target

abbrev pub plain_place : PlaceOperand ℕ → HqPlace
plain_place operand.TheVariants.NoPlace = record { place = HQ_PLACE_NOTHING; base = 0; index = 0; scale = 0; trap = 0; has_offset = 0; offset = 0; reserved = 0; disp = pos 0; target = 0 }
plain_place (operand.TheVariants.Register number) = record { place = HQ_PLACE_REGISTER; base = number_value number; index = 0; scale = 0; trap = 0; has_offset = 0; offset = 0; reserved = 0; disp = pos 0; target = 0 }
plain_place (operand.TheVariants.Memory amode) = plain_memory amode

-- the low 32 bits of an immediate, which has no more
abbrev pub low_word : ℤ → ℕ
low_word (pos n) = n
low_word (negsuc n) = 2 ^ 32 - suc n

abbrev pub imm_word : Option ℤ → ℕ
imm_word None = 0
imm_word (Some value) = low_word value

-- what the struct has of a place
abbrev pub place_of : HqInst → HqPlace
place_of i = record { place = i.place; base = i.base; index = i.index; scale = i.scale; trap = i.trap; has_offset = i.has_offset; offset = i.offset; reserved = 0; disp = i.disp; target = i.target }

abbrev pub plain : CoreView → HqInst
plain v = record {
  line = v.op;
  place = (plain_place v.place).place;
  reg = or_0 v.reg;
  vvvv = or_0 v.vvvv;
  base = (plain_place v.place).base;
  index = (plain_place v.place).index;
  scale = (plain_place v.place).scale;
  trap = (plain_place v.place).trap;
  has_offset = (plain_place v.place).has_offset;
  offset = (plain_place v.place).offset;
  reserved = 0;
  disp = (plain_place v.place).disp;
  target = (plain_place v.place).target;
  imm = imm_word v.imm;
}
