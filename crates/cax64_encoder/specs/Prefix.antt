use Rattle.std.specs.Prelude.{◌≡◌, ℕ, ◌+◌, ◌/◌, ◌≤◌, Bool, true, false, ◌&&◌, ◌||◌, ◌==◌, not, nat_le, if◌then◌else◌, Option, Some, None, option_map, unwrap_or, List, ◌∷◌, ◌++◌, length}
use Rattle.cax64_address.specs.declared.amode.Amode.{Amode}
use Rattle.cax64_address.specs.declared.amode.Amode.TheVariants.{ImmReg, ImmRegRegShift, RipRelative}
use Rattle.cax64_machine_code.specs.Fields.{IsBytes}
use Rattle.cax64_machine_code.specs.Len.{one_if, is_w1, legacy_len}
use Rattle.cax64_machine_code.specs.Line.{prefix_matches}
use Rattle.cax64_machine_code.specs.Prefix.{Prefix, prefix_at, x_of, b_of, r_of, has_rex}
use Rattle.cax64_machine_code.specs.Reading.{vvvv_at}
use Rattle.cax64_machine_code.specs.declared.line.Line.{Line}
use Rattle.cax64_machine_code.specs.declared.line.PrefixField.{PrefixField}
use Rattle.cax64_machine_code.specs.declared.line.PrefixField.TheVariants.{LegacyField, VexField}
use Rattle.cax64_machine_code.specs.declared.line.RegField.TheVariants.{Digit, Register8, Register}
use Rattle.cax64_machine_code.specs.declared.line.TailField.{TailField}
use Rattle.cax64_machine_code.specs.declared.line.TailField.TheVariants.{NoTail, Modrm}
use Rattle.cax64_prefix.specs.Rex.{is_special_if_8bit}
use Rattle.cax64_table.specs.Entry.{first_byte, prefix_size}
use Rattle.cax64_table.specs.Numbers.{has_8bit, uses_8bit_reg, uses_8bit_place}
use Rattle.cax64_encoder.specs.Number.{number_value}
use Rattle.cax64_encoder.specs.Real.{place_x, place_b}
use Rattle.cax64_encoder.specs.declared.number.Number.{Number}
use Rattle.cax64_encoder.specs.declared.role.PlaceOperand as place
use Rattle.cax64_encoder.specs.declared.role.PlaceOperand.{PlaceOperand}

-- the number in the reg field: the digit, or the register
abbrev pub reg_number : TailField → Option Number → ℕ
reg_number (Modrm (Digit d) field) number = d
reg_number (Modrm Register8 field) None = 0
reg_number (Modrm Register8 field) (Some number) = number_value number
reg_number (Modrm Register field) None = 0
reg_number (Modrm Register field) (Some number) = number_value number
reg_number NoTail number = 0

-- the number of a register in reg or in vvvv, 0 where there is none
abbrev pub register_number : Option Number → ℕ
register_number number = unwrap_or (option_map number_value number) 0

abbrev pub amode_high : {M : Type 0} → (M → ℕ) → Amode M → Bool
amode_high enc (ImmReg base simm32 trap) = nat_le 8 (enc base)
amode_high enc (ImmRegRegShift base index scale simm32 trap) = nat_le 8 (enc index) || nat_le 8 (enc base)
amode_high enc (RipRelative target) = false

-- a number of the place is at least 8
abbrev pub place_high : {M : Type 0} → (M → ℕ) → PlaceOperand M → Bool
place_high enc place.TheVariants.NoPlace = false
place_high enc (place.TheVariants.Register number) = nat_le 8 (number_value number)
place_high enc (place.TheVariants.Memory amode) = amode_high enc amode

-- the place is a register of number 4 to 7
abbrev pub place_special : {M : Type 0} → PlaceOperand M → Bool
place_special place.TheVariants.NoPlace = false
place_special (place.TheVariants.Register number) = is_special_if_8bit (number_value number)
place_special (place.TheVariants.Memory amode) = false

-- whether a REX byte stands, by the number of the register in reg, 0 where a digit or nothing stands there
abbrev pub rex_stands : {M : Type 0} → (M → ℕ) → Bool → Bool → ℕ → PlaceOperand M → Bool
rex_stands enc w uses_8bit reg operand = w || (nat_le 8 reg || (place_high enc operand || (uses_8bit && (is_special_if_8bit reg || place_special operand))))

-- how many bytes of prefixes are written
abbrev pub written_prefix_len : {M : Type 0} → (M → ℕ) → PrefixField → Line → ℕ → PlaceOperand M → ℕ
written_prefix_len enc (LegacyField set rex) line reg operand = legacy_len set + one_if (rex_stands enc (is_w1 line.w) (has_8bit line.tail) reg operand)
written_prefix_len enc (VexField pp map l vvvv) line reg operand = if (map == 1) && (not (place_high enc operand) && not (is_w1 line.w)) then 2 else 3

-- a prefix that a row's operands go with, and that reads back before the row's opcode
pub record PrefixFor {M : Type 0} (enc : M → ℕ) (line : Line) (reg : ℕ) (vvvv : Option Number) (operand : PlaceOperand M) (pre : List ℕ) : Type 0 where
  pub prefix : Prefix
  pub reads : (rest : List ℕ) → prefix_at (pre ++ (first_byte line.opcode ∷ rest)) ≡ Some (prefix, first_byte line.opcode ∷ rest)
  pub matches : prefix_matches line prefix ≡ true
  pub x : x_of prefix ≡ place_x enc operand
  pub b : b_of prefix ≡ place_b enc operand
  pub r : r_of prefix ≡ reg / 8
  pub vvvv_is : vvvv_at line.prefix prefix ≡ option_map number_value vvvv
  pub low_reg : uses_8bit_reg line.tail ≡ true → is_special_if_8bit reg ≡ true → has_rex prefix ≡ true
  pub low_place : uses_8bit_place line.tail ≡ true → place_special operand ≡ true → has_rex prefix ≡ true
  pub are_bytes : IsBytes pre
  pub size : length pre ≤ prefix_size line.prefix
  pub length : length pre ≡ written_prefix_len enc line.prefix line reg operand
