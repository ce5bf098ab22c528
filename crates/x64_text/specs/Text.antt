use Rattle.std.specs.Prelude.{ℕ, ◌+◌, ◌%◌, ◌^◌, ◌==◌, ◌&&◌, not, nat_lt, Bool, true, false, if◌then◌else◌, Option, Some, None, ℤ, pos, negsuc, ◌+ℤ◌, List, [], ◌∷◌, ◌++◌, codes, slice_index_or}
use Rattle.std.specs.Int.{cast_unsigned, w64}
use Rattle.cax64_address.specs.Text.{amode_nameable, amode_text, hexadecimal, short_number}
use Rattle.cax64_address.specs.declared.text.Dialect.TheVariants.{Att}
use Rattle.cax64_encoder.specs.Number.{number_value}
use Rattle.cax64_encoder.specs.declared.role.PlaceOperand.{PlaceOperand}
use Rattle.cax64_encoder.specs.declared.role.PlaceOperand.TheVariants as place
use Rattle.cax64_machine_code.specs.Len.{opcode_len}
use Rattle.cax64_machine_code.specs.Line.{imm_bytes}
use Rattle.cax64_register.specs.Names.{register_name}
use Rattle.cax64_register.specs.declared.gpr.Size.{Size}
use Rattle.cax64_register.specs.declared.gpr.Size.TheVariants.{Byte, Word, Doubleword, Quadword}
use Rattle.x64_lines.specs.LineOperands.{line_operands}
use Rattle.x64_lines.specs.Line.{core_line}
use Rattle.x64_core.specs.View.{CoreView}
use Rattle.x64_lines.specs.declared.operands.Class.{Class}
use Rattle.x64_lines.specs.declared.operands.Class.TheVariants as class
use Rattle.x64_lines.specs.declared.operands.Home.{Home}
use Rattle.x64_lines.specs.declared.operands.Home.TheVariants as home
use Rattle.x64_lines.specs.declared.operands.LineOperand.{LineOperand}
use Rattle.x64_text.specs.Mnemonics.{mnemonics}
use Rattle.x64_text.specs.Style.{style_of}
use Rattle.x64_text.specs.declared.style.Style.{Style}
use Rattle.x64_text.specs.declared.style.Style.TheVariants.{Plain, Wide, Indirect, Branch}

-- Texts of the core's instructions in AT&T's form, from a line's mnemonic and its operands.

-- the mnemonic of a line
abbrev pub mnemonic_of : ℕ → List ℕ
mnemonic_of number = slice_index_or mnemonics number []

-- a register by its number, of a class and of so many bits

abbrev pub size_of : ℕ → Size
size_of bits = if bits == 8 then Byte else (if bits == 16 then Word else (if bits == 32 then Doubleword else Quadword))

abbrev pub class_size : Class → ℕ → Option Size
class_size class.General bits = Some (size_of bits)
class_size class.Vector bits = None
class_size class.None bits = Some (size_of bits)

abbrev pub register_text : LineOperand → ℕ → List ℕ
register_text operand number = register_name number (class_size operand.class operand.bits)

-- where an instruction has a register, its text
abbrev pub given_text : LineOperand → Option ℕ → List ℕ
given_text operand None = []
given_text operand (Some number) = register_text operand number

-- a register or memory
abbrev pub place_text : LineOperand → PlaceOperand ℕ → List ℕ
place_text operand place.NoPlace = []
place_text operand (place.Register number) = register_text operand (number_value number)
place_text operand (place.Memory amode) = amode_text register_name Att amode

-- An immediate that is signed is extended to the bits of the first operand that isn't one, to 64 where there is none.

abbrev pub is_imm : Home → Bool
is_imm home.Reg = false
is_imm home.Vvvv = false
is_imm home.Place = false
is_imm (home.Fixed number) = false
is_imm home.Imm = true
is_imm home.Stack = false

abbrev pub width_of : List LineOperand → ℕ
width_of [] = 64
width_of (operand ∷ operands) = if is_imm operand.home then width_of operands else operand.bits

-- the two's complement of this size
abbrev pub unsigned_at : Size → ℤ → ℕ
unsigned_at Byte value = cast_unsigned w64 value % 2 ^ 8
unsigned_at Word value = cast_unsigned w64 value % 2 ^ 16
unsigned_at Doubleword value = cast_unsigned w64 value % 2 ^ 32
unsigned_at Quadword value = cast_unsigned w64 value

-- A branch's target, counted from the branch itself: one decimal digit up to 9, else the two's complement of 64 bits.
abbrev pub target_text : ℤ → List ℕ
target_text (pos n) = short_number n
target_text (negsuc n) = hexadecimal (cast_unsigned w64 (negsuc n))

abbrev pub number_text : Size → ℤ → List ℕ
number_text size value = codes "$" ++ hexadecimal (unsigned_at size value)

abbrev pub value_text : Style → ℕ → ℤ → List ℕ
value_text Plain number value = number_text (size_of (width_of (line_operands number))) value
value_text Wide number value = number_text (size_of (width_of (line_operands number))) value
value_text Indirect number value = number_text (size_of (width_of (line_operands number))) value
value_text (Branch len) number value = target_text (value +ℤ pos (opcode_len (core_line number).opcode + imm_bytes (core_line number).imm))

abbrev pub imm_text : ℕ → Option ℤ → List ℕ
imm_text number None = []
imm_text number (Some value) = value_text (style_of number) number value

abbrev pub home_text : CoreView → LineOperand → Home → List ℕ
home_text v operand home.Reg = given_text operand v.reg
home_text v operand home.Vvvv = given_text operand v.vvvv
home_text v operand home.Place = place_text operand v.place
home_text v operand (home.Fixed number) = register_text operand number
home_text v operand home.Imm = imm_text v.op v.imm
home_text v operand home.Stack = []

abbrev pub operand_text : CoreView → LineOperand → List ℕ
operand_text v operand = home_text v operand operand.home

-- The operands that are printed, from the last to the first, with a comma between them.

abbrev pub none_printed : List LineOperand → Bool
none_printed [] = true
none_printed (operand ∷ operands) = not operand.is_printed && none_printed operands

abbrev pub separator : Bool → List ℕ
separator true = []
separator false = codes ", "

abbrev pub piece : CoreView → Bool → LineOperand → List ℕ
piece v first operand = if operand.is_printed then separator first ++ operand_text v operand else []

abbrev pub operands_text : CoreView → List LineOperand → List ℕ
operands_text v [] = []
operands_text v (operand ∷ operands) = operands_text v operands ++ piece v (none_printed operands) operand

-- what stands between the mnemonic and the operands, if there are any
abbrev pub space : Style → Bool → List ℕ
space style true = []
space Plain false = codes " "
space Wide false = codes " "
space Indirect false = codes " *"
space (Branch len) false = codes " "

-- what stands behind the mnemonic of two conversions of memory, which shows that they read 128 bits

abbrev pub is_memory : PlaceOperand ℕ → Bool
is_memory place.NoPlace = false
is_memory (place.Register number) = false
is_memory (place.Memory amode) = true

abbrev pub suffix : Style → Bool → List ℕ
suffix style false = []
suffix Plain true = []
suffix Wide true = codes "x"
suffix Indirect true = []
suffix (Branch len) true = []

abbrev pub text_of : CoreView → List LineOperand → List ℕ
text_of v operands = mnemonic_of v.op ++ suffix (style_of v.op) (is_memory v.place) ++ space (style_of v.op) (none_printed operands) ++ operands_text v operands

-- the text of an instruction
abbrev pub text : CoreView → List ℕ
text v = text_of v (line_operands v.op)

-- Each register that it holds has a text.

abbrev pub has_name : ℕ → Bool
has_name number = nat_lt number 16

abbrev pub given_nameable : Option ℕ → Bool
given_nameable None = true
given_nameable (Some number) = has_name number

abbrev pub place_nameable : PlaceOperand ℕ → Bool
place_nameable place.NoPlace = true
place_nameable (place.Register number) = has_name (number_value number)
place_nameable (place.Memory amode) = amode_nameable has_name amode

abbrev pub nameable : CoreView → Bool
nameable v = given_nameable v.reg && (given_nameable v.vvvv && place_nameable v.place)
