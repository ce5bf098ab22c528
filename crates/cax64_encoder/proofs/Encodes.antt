use Rattle.std.proofs.Common.{◌≡◌, ℕ, ◌+◌, ◌*◌, ◌/◌, ◌%◌, ◌^◌, ◌<◌, arith, Bool, true, false, refl, ◌∙◌, ap, Option, Some, None, List, [], ◌∷◌, ◌++◌, length, append_assoc, append-nil, ℤ, pos, negsuc}
use Rattle.std.specs.Prelude.{◌==◌, ◌&&◌, nat_lt, nat_le, if◌then◌else◌, option_map}
use Rattle.std.specs.Int.{cast_unsigned, w8, w32}
use Rattle.std.specs.Int.RustNames.{FitsSigned}
use Rattle.std.proofs.lemmas.Int.{ints}
use Rattle.std.proofs.lemmas.Bool.{and_parts}
use Rattle.std.proofs.lemmas.Bool.Decides.{nat_tests}
use Rattle.std.proofs.lemmas.List.{length-append}
use Rattle.cax64_sink.specs.Run.{all_bytes, all_notices}
use Rattle.cax64_sink.specs.Call.{Action}
use Rattle.cax64_sink.specs.declared.Notice.{Notice}
use Rattle.cax64_sink.specs.Ends.{EndsInBytes}
use Rattle.cax64_sink.proofs.Runs.{all_bytes_append, all_notices_append}
use Rattle.cax64_address.specs.Address.{displaced_place}
use Rattle.cax64_address.specs.declared.amode.Amode.{Amode}
use Rattle.cax64_address.specs.declared.amode.Amode.TheVariants.{ImmReg, ImmRegRegShift, RipRelative}
use Rattle.cax64_machine_code.specs.Len.{opcode_len}
use Rattle.cax64_machine_code.specs.Line.{imm_bytes, opcode_bytes}
use Rattle.cax64_machine_code.specs.Prefix.{Prefix, r_of, has_rex}
use Rattle.cax64_machine_code.specs.Reading.{place_at, reg_view, view_of}
use Rattle.cax64_machine_code.specs.declared.reading.Place.TheVariants.{Reg}
use Rattle.cax64_machine_code.specs.declared.reading.RegView.TheVariants.{Low}
use Rattle.cax64_machine_code.specs.declared.line.Opcode.{Opcode}
use Rattle.cax64_machine_code.specs.declared.line.RegField.{RegField}
use Rattle.cax64_machine_code.specs.declared.line.RegField.TheVariants.{Digit, Register8, Register}
use Rattle.cax64_machine_code.specs.declared.line.PlaceField.{PlaceField}
use Rattle.cax64_machine_code.specs.declared.line.PlaceField.TheVariants.{Memory, RegisterOrMemory, Register8OrMemory}
use Rattle.cax64_machine_code.specs.declared.line.TailField.TheVariants.{Modrm}
use Rattle.cax64_machine_code.specs.declared.line.ImmField.{ImmField}
use Rattle.cax64_machine_code.specs.declared.line.ImmField.TheVariants.{NoImm, Imm, Simm}
use Rattle.cax64_machine_code.proofs.Bytes.{one_back, two_back, four_back, s8_back, s32_back}
use Rattle.cax64_machine_code.proofs.Written.{IsImm, BeginsWith, DigitIs}
use Rattle.cax64_prefix.specs.Rex.{is_special_if_8bit}
use Rattle.cax64_encoder.specs.Code.{trap_actions}
use Rattle.cax64_encoder.proofs.Opcode.{opcode_actions}
use Rattle.cax64_sink.specs.Puts.{puts}
use Rattle.cax64_sink.proofs.PutRuns.{all_bytes-puts, all_notices-puts}
use Rattle.cax64_encoder.specs.Form.{reg_fits}
use Rattle.cax64_encoder.specs.ImmActions.{imm_actions, optional_imm_actions}
use Rattle.cax64_table.specs.Entry.{first_byte, is_digit}
use Rattle.cax64_table.specs.Numbers.{uses_8bit_reg, uses_8bit_place}
use Rattle.cax64_encoder.specs.Notices.{trap_notice}
use Rattle.cax64_encoder.specs.Number.{number_value}
use Rattle.cax64_encoder.specs.Prefix.{reg_number, register_number}
use Rattle.cax64_operand.specs.Immediate.{imm_value, imm_size, imm_in_range, signed_below}
use Rattle.cax64_operand.specs.Shape.{imm_has_size, is_no_imm, imm_fits}
use Rattle.cax64_encoder.specs.declared.number.Number.{Number}
use Rattle.cax64_operand.specs.declared.immediate.ImmOperand.{ImmOperand}
use Rattle.cax64_operand.specs.declared.immediate.ImmOperand.TheVariants.{Imm8, Imm16, Imm32, Simm8, Simm32}

-- Immediates.

is_number : (a b : ℕ) → (a == b) ≡ true → a ≡ b
is_number a b h = grind (arith, nat_tests)

below : (a b : ℕ) → nat_lt a b ≡ true → a < b
below a b h = grind (arith, nat_tests)

signed_fits8 : (v : ℤ) → signed_below (2 ^ 7) v ≡ true → FitsSigned w8 v
signed_fits8 (pos v) h = let k : v < 2 ^ 7 = below v (2 ^ 7) h in omega (arith, ints)
signed_fits8 (negsuc v) h = let k : v < 2 ^ 7 = below v (2 ^ 7) h in omega (arith, ints)

signed_fits32 : (v : ℤ) → signed_below (2 ^ 31) v ≡ true → FitsSigned w32 v
signed_fits32 (pos v) h = let k : v < 2 ^ 31 = below v (2 ^ 31) h in omega (arith, ints)
signed_fits32 (negsuc v) h = let k : v < 2 ^ 31 = below v (2 ^ 31) h in omega (arith, ints)

imm_back : (field : ImmField) (operand : ImmOperand) → imm_has_size field operand ≡ true → imm_in_range operand ≡ true → IsImm field (Some (imm_value operand)) (all_bytes (imm_actions operand))
imm_back NoImm operand h r = cc
imm_back (Imm size) (Imm8 v) h r = record { reads = λ rest. rw (is_number size 1 h, one_back v rest) refl }
imm_back (Imm size) (Imm16 v) h r = record { reads = λ rest. let k : v < 2 ^ 16 = below v (2 ^ 16) r in rw (is_number size 2 h, two_back v rest k) refl }
imm_back (Imm size) (Imm32 v) h r = record { reads = λ rest. let k : v < 2 ^ 32 = below v (2 ^ 32) r in rw (is_number size 4 h, four_back v rest k) refl }
imm_back (Imm size) (Simm8 v) h r = cc
imm_back (Imm size) (Simm32 v) h r = cc
imm_back (Simm size) (Imm8 v) h r = cc
imm_back (Simm size) (Imm16 v) h r = cc
imm_back (Simm size) (Imm32 v) h r = cc
imm_back (Simm size) (Simm8 v) h r = record { reads = λ rest. let f : FitsSigned w8 v = signed_fits8 v r in rw (is_number size 1 h, one_back (cast_unsigned w8 v) rest, s8_back v f) refl }
imm_back (Simm size) (Simm32 v) h r = record {
  reads = λ rest.
      let f : FitsSigned w32 v = signed_fits32 v r in
      let small : cast_unsigned w32 v < 2 ^ 32 = omega (arith, ints) in
      rw (is_number size 4 h, four_back (cast_unsigned w32 v) rest small, s32_back v f) refl;
}

no_imm_back : (field : ImmField) → is_no_imm field ≡ true → IsImm field None []
no_imm_back NoImm h = record { reads = λ rest. refl }
no_imm_back (Imm size) h = cc
no_imm_back (Simm size) h = cc

-- the immediate of a row
pub imm_part : (field : ImmField) (o : Option ImmOperand) → imm_fits field o ≡ true → IsImm field (option_map imm_value o) (all_bytes (optional_imm_actions o))
imm_part field None h = no_imm_back field h
imm_part field (Some operand) h = let p = and_parts (imm_has_size field operand) (imm_in_range operand) h in imm_back field operand p.0 p.1

imm_sized : (field : ImmField) (operand : ImmOperand) → imm_has_size field operand ≡ true → imm_bytes field ≡ imm_size (Some operand)
imm_sized NoImm operand h = cc
imm_sized (Imm size) (Imm8 v) h = is_number size 1 h
imm_sized (Imm size) (Imm16 v) h = is_number size 2 h
imm_sized (Imm size) (Imm32 v) h = is_number size 4 h
imm_sized (Imm size) (Simm8 v) h = cc
imm_sized (Imm size) (Simm32 v) h = cc
imm_sized (Simm size) (Imm8 v) h = cc
imm_sized (Simm size) (Imm16 v) h = cc
imm_sized (Simm size) (Imm32 v) h = cc
imm_sized (Simm size) (Simm8 v) h = is_number size 1 h
imm_sized (Simm size) (Simm32 v) h = is_number size 4 h

no_imm_sized : (field : ImmField) → is_no_imm field ≡ true → imm_bytes field ≡ 0
no_imm_sized NoImm h = refl
no_imm_sized (Imm size) h = cc
no_imm_sized (Simm size) h = cc

-- the row's number of immediate bytes is the operand's
pub imm_same : (field : ImmField) (o : Option ImmOperand) → imm_fits field o ≡ true → imm_bytes field ≡ imm_size o
imm_same field None h = no_imm_sized field h
imm_same field (Some operand) h = imm_sized field operand (and_parts (imm_has_size field operand) (imm_in_range operand) h).0

pub imm_length : (o : Option ImmOperand) → length (all_bytes (optional_imm_actions o)) ≡ imm_size o
imm_length None = refl
imm_length (Some (Imm8 v)) = refl
imm_length (Some (Imm16 v)) = refl
imm_length (Some (Imm32 v)) = refl
imm_length (Some (Simm8 v)) = refl
imm_length (Some (Simm32 v)) = refl

pub imm_quiet : (o : Option ImmOperand) (at : ℕ) → all_notices (optional_imm_actions o) at ≡ []
imm_quiet None at = refl
imm_quiet (Some (Imm8 v)) at = refl
imm_quiet (Some (Imm16 v)) at = refl
imm_quiet (Some (Imm32 v)) at = refl
imm_quiet (Some (Simm8 v)) at = refl
imm_quiet (Some (Simm32 v)) at = refl

-- Opcodes.

pub opcode_part : (opcode : Opcode) → all_bytes (opcode_actions opcode) ≡ opcode_bytes opcode
opcode_part opcode = all_bytes-puts (opcode_bytes opcode)

pub opcode_quiet : (opcode : Opcode) (at : ℕ) → all_notices (opcode_actions opcode) at ≡ []
opcode_quiet opcode at = all_notices-puts (opcode_bytes opcode) at

pub opcode_begins : (opcode : Opcode) → BeginsWith (first_byte opcode) (opcode_bytes opcode)
opcode_begins opcode = by_escape opcode.escape opcode.byte
  where
    by_escape : (escape : Bool) (byte : ℕ) → BeginsWith (if escape then 0x0F else byte) (if escape then (0x0F ∷ byte ∷ []) else (byte ∷ []))
    by_escape true byte = record { more = byte ∷ []; is = refl }
    by_escape false byte = record { more = []; is = refl }

pub opcode_length : (opcode : Opcode) → length (opcode_bytes opcode) ≡ opcode_len opcode
opcode_length opcode = by_escape opcode.escape opcode.byte
  where
    by_escape : (escape : Bool) (byte : ℕ) → length (if escape then (0x0F ∷ byte ∷ []) else (byte ∷ [])) ≡ (if escape then 2 else 1)
    by_escape true byte = refl
    by_escape false byte = refl

pub opcode_ends : (opcode : Opcode) → EndsInBytes (opcode_actions opcode)
opcode_ends opcode = by_escape opcode.escape opcode.byte
  where
    by_escape : (escape : Bool) (byte : ℕ) → EndsInBytes (puts (if escape then (0x0F ∷ byte ∷ []) else (byte ∷ [])))
    by_escape true byte = omega arith
    by_escape false byte = omega arith

pub trap_bytes : (trap : _) → all_bytes (trap_actions trap) ≡ []
trap_bytes None = refl
trap_bytes (Some code) = refl

pub trap_told : (trap : _) (at : ℕ) → all_notices (trap_actions trap) at ≡ trap_notice trap at
trap_told None at = refl
trap_told (Some code) at = refl

-- Registers, as they are viewed.

whole : (n : ℕ) → n % 8 + 8 * (n / 8) ≡ n
whole n = omega arith

low_view : (rex special : Bool) (n : ℕ) → (nat_le 4 n && nat_le n 7) ≡ special → (special ≡ true → rex ≡ true) → view_of true rex n ≡ Low n
low_view true special n e h = refl
low_view false true n e h = let bad : false ≡ true = h refl in cc
low_view false false n e h = rw e refl

other_view : (rex : Bool) (n : ℕ) → view_of false rex n ≡ Low n
other_view rex n = refl

pub reg_viewed : (field : RegField) (pf : PlaceField) (p : Prefix) (number : Option Number) → reg_fits field number ≡ true → r_of p ≡ register_number number / 8 → (uses_8bit_reg (Modrm field pf) ≡ true → is_special_if_8bit (register_number number) ≡ true → has_rex p ≡ true) → reg_view field p (reg_number (Modrm field pf) number % 8) ≡ option_map (λ (n : Number). Low (number_value n)) number
reg_viewed (Digit d) pf p None h r low = refl
reg_viewed (Digit d) pf p (Some n) h r low = cc
reg_viewed Register8 pf p None h r low = cc
reg_viewed Register8 pf p (Some n) h r low = rw (r, whole (number_value n), low_view (has_rex p) (is_special_if_8bit (number_value n)) (number_value n) refl (low refl)) refl
reg_viewed Register pf p None h r low = cc
reg_viewed Register pf p (Some n) h r low = rw (r, whole (number_value n)) refl

abbrev pub register_allowed : PlaceField → Bool
register_allowed Memory = false
register_allowed RegisterOrMemory = true
register_allowed Register8OrMemory = true

pub register_named : (field : RegField) (pf : PlaceField) (p : Prefix) (n : ℕ) (operand_fits : Bool) → operand_fits ≡ true → register_allowed pf ≡ operand_fits → (uses_8bit_place (Modrm field pf) ≡ true → is_special_if_8bit n ≡ true → has_rex p ≡ true) → place_at pf p (Reg (Low n)) ≡ Some (Reg (Low n))
register_named field Memory p n t e h low = cc
register_named field RegisterOrMemory p n t e h low = refl
register_named field Register8OrMemory p n t e h low = rw (low_view (has_rex p) (is_special_if_8bit n) n refl (low refl)) refl

pub memory_named : {M : Type 0} (enc : M → ℕ) (disp : ℤ) (at_end : ℕ) (pf : PlaceField) (p : Prefix) (amode : Amode M) → place_at pf p (displaced_place enc disp at_end amode) ≡ Some (displaced_place enc disp at_end amode)
memory_named enc disp at_end pf p (ImmReg base simm32 trap) = refl
memory_named enc disp at_end pf p (ImmRegRegShift base index scale simm32 trap) = refl
memory_named enc disp at_end pf p (RipRelative target) = refl

pub digit_is : (field : RegField) (pf : PlaceField) (number : Option Number) → is_digit (Modrm field pf) ≡ true → DigitIs field (reg_number (Modrm field pf) number % 8)
digit_is (Digit d) pf number h = let k : d < 8 = below d 8 h in omega arith
digit_is Register8 pf number h = tt
digit_is Register pf number h = tt

-- The parts, one behind the other.

pub five_parts : (trap pre op tail imm : List Action) (rest : List ℕ) → all_bytes trap ≡ [] → all_bytes (trap ++ (pre ++ (op ++ (tail ++ imm)))) ++ rest ≡ all_bytes pre ++ (all_bytes op ++ (all_bytes tail ++ (all_bytes imm ++ rest)))
five_parts trap pre op tail imm rest e = simp (all_bytes_append, append_assoc, e)

pub five_lengths : (trap pre op tail imm : List Action) → all_bytes trap ≡ [] → length (all_bytes (trap ++ (pre ++ (op ++ (tail ++ imm))))) ≡ length (all_bytes pre) + (length (all_bytes op) + (length (all_bytes tail) + length (all_bytes imm)))
five_lengths trap pre op tail imm e =
    let same : all_bytes (trap ++ (pre ++ (op ++ (tail ++ imm)))) ≡ all_bytes pre ++ (all_bytes op ++ (all_bytes tail ++ all_bytes imm)) = simp (all_bytes_append, e) in
    ap length same ∙ omega (arith, length-append (all_bytes pre) (all_bytes op ++ (all_bytes tail ++ all_bytes imm)), length-append (all_bytes op) (all_bytes tail ++ all_bytes imm), length-append (all_bytes tail) (all_bytes imm))

pub five_notices : (trap pre op tail imm : List Action) (at : ℕ) → all_bytes trap ≡ [] → ((k : ℕ) → all_notices pre k ≡ []) → ((k : ℕ) → all_notices op k ≡ []) → ((k : ℕ) → all_notices imm k ≡ []) → all_notices (trap ++ (pre ++ (op ++ (tail ++ imm)))) at ≡ all_notices trap at ++ all_notices tail (at + length (all_bytes pre) + length (all_bytes op))
five_notices trap pre op tail imm at e hp ho hi =
    let zero : at + length (all_bytes trap) ≡ at = ap (λ (x : List ℕ). at + length x) e ∙ add_zero at in
    all_notices_append trap (pre ++ (op ++ (tail ++ imm))) at
    ∙ ap (λ (k : ℕ). all_notices trap at ++ all_notices (pre ++ (op ++ (tail ++ imm))) k) zero
    ∙ ap (λ (x : List Notice). all_notices trap at ++ x)
    (all_notices_append pre (op ++ (tail ++ imm)) at
    ∙ rw (hp at)
    (all_notices_append op (tail ++ imm) (at + length (all_bytes pre))
    ∙ rw (ho (at + length (all_bytes pre)))
    (all_notices_append tail imm (at + length (all_bytes pre) + length (all_bytes op))
    ∙ rw (hi (at + length (all_bytes pre) + length (all_bytes op) + length (all_bytes tail))) (append-nil _))))
  where
    add_zero : (n : ℕ) → n + 0 ≡ n
    add_zero n = omega arith
