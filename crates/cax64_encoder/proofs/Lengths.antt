use Rattle.std.proofs.Common.{◌≡◌, ℕ, ◌+◌, arith, Bool, true, false, refl, ◌∙◌, ap, sym, Option, Some, None, List, length, ℤ}
use Rattle.std.specs.Prelude.{◌&&◌, ◌||◌, nat_le, option_map}
use Rattle.std.proofs.lemmas.Bool.{and_parts}
use Rattle.cax64_sink.specs.Run.{all_bytes}
use Rattle.cax64_sink.specs.Call.{Action}
use Rattle.cax64_address.specs.Address.{displaced_place}
use Rattle.cax64_address.specs.declared.amode.Amode.{Amode}
use Rattle.cax64_address.specs.declared.amode.Amode.TheVariants.{ImmReg, ImmRegRegShift, RipRelative}
use Rattle.cax64_machine_code.specs.Len.{is_w1, reg_is_high, place_is_high, reg_is_special, place_is_special, has_rex_byte, prefix_len, opcode_len, tail_len, line_len}
use Rattle.cax64_machine_code.specs.Line.{imm_bytes}
use Rattle.cax64_machine_code.specs.Reading.{PartsOf}
use Rattle.cax64_machine_code.specs.ReadLine.{parts_as}
use Rattle.cax64_machine_code.specs.declared.line.Line.{Line}
use Rattle.cax64_machine_code.specs.declared.line.PrefixField.{PrefixField}
use Rattle.cax64_machine_code.specs.declared.line.PrefixField.TheVariants.{LegacyField, VexField}
use Rattle.cax64_machine_code.specs.declared.line.RegField.{RegField}
use Rattle.cax64_machine_code.specs.declared.line.RegField.TheVariants.{Digit, Register8, Register}
use Rattle.cax64_machine_code.specs.declared.line.PlaceField.TheVariants.{Memory, RegisterOrMemory, Register8OrMemory}
use Rattle.cax64_machine_code.specs.declared.line.TailField.{TailField}
use Rattle.cax64_machine_code.specs.declared.line.TailField.TheVariants.{NoTail, Modrm}
use Rattle.cax64_machine_code.specs.declared.reading.Place.{Place}
use Rattle.cax64_machine_code.specs.declared.reading.RegView.{RegView}
use Rattle.cax64_machine_code.specs.declared.reading.RegView.TheVariants.{Low}
use Rattle.cax64_sink.specs.declared.TrapCode.{TrapCode}
use Rattle.cax64_encoder.specs.Code.{trap_actions}
use Rattle.cax64_encoder.proofs.Opcode.{opcode_actions}
use Rattle.cax64_encoder.specs.EncodesLine.{line_form_parts}
use Rattle.cax64_encoder.specs.Form.{Form, tail_fits, vvvv_fits, fits}
use Rattle.cax64_encoder.specs.ImmActions.{optional_imm_actions}
use Rattle.cax64_table.specs.Entry.{is_8bit_once, is_line}
use Rattle.cax64_table.specs.Numbers.{has_8bit}
use Rattle.cax64_encoder.specs.Number.{number_value}
use Rattle.cax64_encoder.specs.Place.{place_read}
use Rattle.cax64_encoder.specs.Prefix.{register_number, amode_high, place_high, place_special, rex_stands, written_prefix_len}
use Rattle.cax64_operand.specs.Immediate.{imm_size}
use Rattle.cax64_operand.specs.Shape.{imm_fits}
use Rattle.cax64_encoder.specs.declared.number.Number.{Number}
use Rattle.cax64_encoder.specs.declared.role.PlaceOperand as place
use Rattle.cax64_encoder.specs.declared.role.PlaceOperand.{PlaceOperand}
use Rattle.cax64_encoder.proofs.Lines.{line_facts}
use Rattle.cax64_encoder.proofs.Encodes.{imm_same, imm_length, opcode_part, opcode_length, trap_bytes, five_lengths}
use Rattle.cax64_encoder.proofs.Whole.{instruction_actions}

-- The number of bytes that are written is the one that the line and the numbers have.

amode_high_same : {M : Type 0} (enc : M → ℕ) (disp : ℤ) (at_end : ℕ) (amode : Amode M) → amode_high enc amode ≡ place_is_high (Some (displaced_place enc disp at_end amode))
amode_high_same enc disp at_end (ImmReg base simm32 trap) = refl
amode_high_same enc disp at_end (ImmRegRegShift base index scale simm32 trap) = refl
amode_high_same enc disp at_end (RipRelative target) = refl

place_high_same : {M : Type 0} (enc : M → ℕ) (disp : ℤ) (at_end : ℕ) (operand : PlaceOperand M) → place_high enc operand ≡ place_is_high (place_read enc disp at_end operand)
place_high_same enc disp at_end place.TheVariants.NoPlace = refl
place_high_same enc disp at_end (place.TheVariants.Register number) = refl
place_high_same enc disp at_end (place.TheVariants.Memory amode) = amode_high_same enc disp at_end amode

amode_not_special : {M : Type 0} (enc : M → ℕ) (disp : ℤ) (at_end : ℕ) (field : RegField) (amode : Amode M) → false ≡ place_is_special (Modrm field Register8OrMemory) (Some (displaced_place enc disp at_end amode))
amode_not_special enc disp at_end field (ImmReg base simm32 trap) = refl
amode_not_special enc disp at_end field (ImmRegRegShift base index scale simm32 trap) = refl
amode_not_special enc disp at_end field (RipRelative target) = refl

place_special_same : {M : Type 0} (enc : M → ℕ) (disp : ℤ) (at_end : ℕ) (field : RegField) (operand : PlaceOperand M) → place_special operand ≡ place_is_special (Modrm field Register8OrMemory) (place_read enc disp at_end operand)
place_special_same enc disp at_end field place.TheVariants.NoPlace = refl
place_special_same enc disp at_end field (place.TheVariants.Register number) = refl
place_special_same enc disp at_end field (place.TheVariants.Memory amode) = amode_not_special enc disp at_end field amode

abbrev view_of : Option Number → Option RegView
view_of number = option_map (λ (n : Number). Low (number_value n)) number

-- whether a REX byte stands, W aside
abbrev stands_but_w : {M : Type 0} → (M → ℕ) → TailField → Option Number → PlaceOperand M → Bool
stands_but_w enc tail number operand = nat_le 8 (register_number number) || (place_high enc operand || (has_8bit tail && ((nat_le 4 (register_number number) && nat_le (register_number number) 7) || place_special operand)))

abbrev has_but_w : TailField → Option RegView → Option Place → Bool
has_but_w tail view place = reg_is_high view || (place_is_high place || (reg_is_special tail view || place_is_special tail place))

but_w_same : {M : Type 0} (enc : M → ℕ) (disp : ℤ) (at_end : ℕ) (tail : TailField) (number : Option Number) (operand : PlaceOperand M) → tail_fits tail number operand ≡ true → is_8bit_once tail ≡ true → stands_but_w enc tail number operand ≡ has_but_w tail (view_of number) (place_read enc disp at_end operand)
but_w_same enc disp at_end NoTail None place.TheVariants.NoPlace hf ho = refl
but_w_same enc disp at_end NoTail None (place.TheVariants.Register n) hf ho = cc
but_w_same enc disp at_end NoTail None (place.TheVariants.Memory amode) hf ho = cc
but_w_same enc disp at_end NoTail (Some n) operand hf ho = cc
but_w_same enc disp at_end (Modrm (Digit d) Memory) None operand hf ho = rw (place_high_same enc disp at_end operand) refl
but_w_same enc disp at_end (Modrm (Digit d) RegisterOrMemory) None operand hf ho = rw (place_high_same enc disp at_end operand) refl
but_w_same enc disp at_end (Modrm (Digit d) Register8OrMemory) None operand hf ho = rw (place_high_same enc disp at_end operand, place_special_same enc disp at_end (Digit d) operand) refl
but_w_same enc disp at_end (Modrm (Digit d) field) (Some n) operand hf ho = cc
but_w_same enc disp at_end (Modrm Register8 field) None operand hf ho = cc
but_w_same enc disp at_end (Modrm Register8 Memory) (Some n) place.TheVariants.NoPlace hf ho = cc
but_w_same enc disp at_end (Modrm Register8 Memory) (Some n) (place.TheVariants.Register m) hf ho = cc
but_w_same enc disp at_end (Modrm Register8 Memory) (Some n) (place.TheVariants.Memory amode) hf ho = rw (amode_high_same enc disp at_end amode) refl
but_w_same enc disp at_end (Modrm Register8 RegisterOrMemory) (Some n) operand hf ho = cc
but_w_same enc disp at_end (Modrm Register8 Register8OrMemory) (Some n) operand hf ho = cc
but_w_same enc disp at_end (Modrm Register field) None operand hf ho = cc
but_w_same enc disp at_end (Modrm Register Memory) (Some n) operand hf ho = rw (place_high_same enc disp at_end operand) refl
but_w_same enc disp at_end (Modrm Register RegisterOrMemory) (Some n) operand hf ho = rw (place_high_same enc disp at_end operand) refl
but_w_same enc disp at_end (Modrm Register Register8OrMemory) (Some n) operand hf ho = cc

rex_same : {M : Type 0} (enc : M → ℕ) (disp : ℤ) (line : Line) (o : Form M) → is_line line ≡ true → fits line o ≡ true → rex_stands enc (is_w1 line.w) (has_8bit line.tail) (register_number o.reg) o.place ≡ has_rex_byte line (line_form_parts enc line disp o)
rex_same enc disp line o hl hf =
    let facts = line_facts line hl in
    ap (λ (x : Bool). is_w1 line.w || x) (but_w_same enc disp (imm_size o.imm) line.tail o.reg o.place (and_parts (tail_fits line.tail o.reg o.place) _ hf).0 facts.once)

prefix_same : {M : Type 0} (enc : M → ℕ) (disp : ℤ) (line : Line) (o : Form M) (field : PrefixField) → is_line line ≡ true → fits line o ≡ true → written_prefix_len enc field line (register_number o.reg) o.place ≡ prefix_len field line (line_form_parts enc line disp o)
prefix_same enc disp line o (LegacyField set rex) hl hf = rw (rex_same enc disp line o hl hf) refl
prefix_same enc disp line o (VexField pp map l vvvv) hl hf = rw (place_high_same enc disp (imm_size o.imm) o.place) refl

-- as many bytes as the instruction has
pub line_is : {M : Type 0} (enc : M → ℕ) (line : Line) (o : Form M) (disp : ℤ) (trap : Option TrapCode) (pre tail : List Action) → is_line line ≡ true → fits line o ≡ true → length (all_bytes pre) ≡ written_prefix_len enc line.prefix line (register_number o.reg) o.place → length (all_bytes tail) ≡ tail_len (place_read enc disp (imm_size o.imm) o.place) → length (all_bytes (instruction_actions line trap pre tail o)) ≡ line_len line (line_form_parts enc line disp o)
line_is enc line o disp trap pre tail hl hf hp ht =
    let q = and_parts (vvvv_fits line.prefix o.vvvv) (imm_fits line.imm o.imm) (and_parts (tail_fits line.tail o.reg o.place) _ hf).1 in
    let whole = five_lengths (trap_actions trap) pre (opcode_actions line.opcode) tail (optional_imm_actions o.imm) (trap_bytes trap) in
    let op : length (all_bytes (opcode_actions line.opcode)) ≡ opcode_len line.opcode = ap length (opcode_part line.opcode) ∙ opcode_length line.opcode in
    let imm : length (all_bytes (optional_imm_actions o.imm)) ≡ imm_bytes line.imm = imm_length o.imm ∙ sym (imm_same line.imm o.imm q.1) in
    let prefix = hp ∙ prefix_same enc disp line o line.prefix hl hf in
    omega (arith, whole, op, imm, prefix, ht)

-- and as many whatever names its line

prefix_alike : {K L : Type 0} (key : L) (field : PrefixField) (line : Line) (parts : PartsOf K) → prefix_len field line parts ≡ prefix_len field line (parts_as key parts)
prefix_alike key (LegacyField set rex) line parts = refl
prefix_alike key (VexField pp map l vvvv) line parts = refl

pub len_alike : {K L : Type 0} (key : L) (line : Line) (parts : PartsOf K) → line_len line parts ≡ line_len line (parts_as key parts)
len_alike key line parts = ap (λ (n : ℕ). n + (opcode_len line.opcode + (tail_len parts.place + imm_bytes line.imm))) (prefix_alike key line.prefix line parts)
