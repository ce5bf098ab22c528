use Rattle.std.specs.Prelude.{ℕ, Bool, true, false, not, ◌&&◌, ◌||◌, ◌==◌, Option, Some, None, List, [], ◌∷◌, length}
use Rattle.cax64_machine_code.specs.Line.{same_legacy, opcode_bytes}
use Rattle.cax64_machine_code.specs.declared.line.Line.{Line}
use Rattle.cax64_machine_code.specs.declared.line.PrefixField.{PrefixField}
use Rattle.cax64_machine_code.specs.declared.line.RegField.{RegField}
use Rattle.cax64_machine_code.specs.declared.line.TailField.{TailField}
use Rattle.cax64_machine_code.specs.declared.line.PrefixField.TheVariants.{LegacyField, VexField}
use Rattle.cax64_machine_code.specs.declared.line.RegField.TheVariants.{Digit, Register8, Register}
use Rattle.cax64_machine_code.specs.declared.line.TailField.TheVariants.{NoTail, Modrm}

-- A test that two lines match no bytes both: their prefixes differ, or W, or a byte of their opcodes, or their digits.

abbrev pub prefix_apart : PrefixField → PrefixField → Bool
prefix_apart (LegacyField set rex) (LegacyField other may) = not (same_legacy set other)
prefix_apart (LegacyField set rex) (VexField pp map l vvvv) = true
prefix_apart (VexField pp map l vvvv) (LegacyField set rex) = true
prefix_apart (VexField pp map l vvvv) (VexField qq other k wwww) = not (pp == qq) || (not (map == other) || not (l == k))

abbrev pub w_apart : Option ℕ → Option ℕ → Bool
w_apart None w = false
w_apart (Some v) None = false
w_apart (Some v) (Some w) = not (v == w)

abbrev pub bytes_apart : List ℕ → List ℕ → Bool
bytes_apart [] other = false
bytes_apart (byte ∷ bytes) [] = false
bytes_apart (byte ∷ bytes) (found ∷ other) = not (byte == found) || bytes_apart bytes other

abbrev pub reg_apart : RegField → RegField → Bool
reg_apart (Digit d) (Digit e) = not (d == e)
reg_apart (Digit d) Register8 = false
reg_apart (Digit d) Register = false
reg_apart Register8 reg = false
reg_apart Register reg = false

abbrev pub digit_apart : TailField → TailField → Bool
digit_apart NoTail tail = false
digit_apart (Modrm reg place) NoTail = false
digit_apart (Modrm reg place) (Modrm other field) = reg_apart reg other

abbrev pub apart : Line → Line → Bool
apart a b =
    prefix_apart a.prefix b.prefix
    || (w_apart a.w b.w
    || (bytes_apart (opcode_bytes a.opcode) (opcode_bytes b.opcode)
    || ((length (opcode_bytes a.opcode) == length (opcode_bytes b.opcode)) && digit_apart a.tail b.tail)))

-- a line is apart from each of some others
abbrev pub apart_from : Line → List Line → Bool
apart_from line [] = true
apart_from line (other ∷ lines) = apart line other && apart_from line lines

-- each two of some lines are apart
abbrev pub each_two : List Line → Bool
each_two [] = true
each_two (line ∷ lines) = apart_from line lines && each_two lines
