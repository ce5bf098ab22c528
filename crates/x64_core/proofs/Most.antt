use Rattle.std.proofs.Common.{◌≡◌, ◌≤◌, ◌<◌, ◌+◌, ℕ, ℤ, refl, arith, Bool, true, false, Option, Some, None, pos, negsuc}
use Rattle.std.specs.Prelude.{◌%◌, ◌==◌, nat_le, nat_lt, if◌then◌else◌}
use Rattle.std.proofs.lemmas.Bool.{agree_below, agree_below_at}
use Rattle.std.proofs.lemmas.Bool.Decides.{nat_tests}
use Rattle.cax64_machine_code.specs.Len.{at_least_one, base_disp_len, disp_len, fits_two_byte_vex, has_rex_byte, least_tail, legacy_len, line_len, one_if, opcode_len, prefix_len, sib_len, tail_len}
use Rattle.cax64_machine_code.specs.Line.{imm_bytes}
use Rattle.cax64_machine_code.specs.Reading.{PartsOf}
use Rattle.cax64_machine_code.specs.Rows.{line_of, all_rows}
use Rattle.cax64_machine_code.specs.declared.line.Line.{Line}
use Rattle.cax64_machine_code.specs.declared.line.PrefixField.{PrefixField}
use Rattle.cax64_machine_code.specs.declared.line.PrefixField.TheVariants.{LegacyField, VexField}
use Rattle.cax64_machine_code.specs.declared.reading.Place.{Place}
use Rattle.cax64_machine_code.specs.declared.reading.Place.TheVariants.{Reg, Mem, Rip}
use Rattle.x64_core.specs.Core.{core_len, core_parts}
use Rattle.x64_lines.specs.Line.{core_line}
use Rattle.x64_lines.specs.Lines.{core_lines, arithmetic_lines, moves_lines, multiplication_lines, shifts_lines, conditions_lines, control_lines, bits_lines, scalar_lines}
use Rattle.x64_core.specs.View.{core_view}
use Rattle.x64_core.specs.declared.instruction.Core.{Core}
use Rattle.x64_lines.specs.declared.lines.TheConstants.{COUNT}
use Rattle.x64_lines.proofs.Table.{op_below}

-- The most bytes that an instruction of a line has.

one_most : (b : Bool) → one_if b ≤ 1
one_most true = omega arith
one_most false = omega arith

abbrev most_prefix : PrefixField → ℕ
most_prefix (LegacyField set rex) = legacy_len set + 1
most_prefix (VexField pp map l vvvv) = 3

two_or_three : (b : Bool) → (if b then 2 else 3) ≤ 3
two_or_three true = omega arith
two_or_three false = omega arith

prefix_most : {K : Type 0} (prefix : PrefixField) (line : Line) (parts : PartsOf K) → prefix_len prefix line parts ≤ most_prefix prefix
prefix_most (LegacyField set rex) line parts = let h = one_most (has_rex_byte line parts) in omega (arith, h)
prefix_most (VexField pp map l vvvv) line parts = two_or_three (fits_two_byte_vex map line.w parts.place)

one_or_four : (b : Bool) → (if b then 1 else 4) ≤ 4
one_or_four true = omega arith
one_or_four false = omega arith

none_or : (b : Bool) (n : ℕ) → n ≤ 4 → (if b then 0 else n) ≤ 4
none_or true n h = omega arith
none_or false n h = h

disp_most : (d : ℤ) → disp_len d ≤ 4
disp_most (pos n) = none_or (n == 0) _ (one_or_four (nat_lt n 128))
disp_most (negsuc n) = one_or_four (nat_lt n 128)

some_most : (b : Bool) (n : ℕ) → n ≤ 4 → (if b then 1 else n) ≤ 4
some_most true n h = omega arith
some_most false n h = h

either_most : (b : Bool) (m n : ℕ) → m ≤ 4 → n ≤ 4 → (if b then m else n) ≤ 4
either_most true m n h k = h
either_most false m n h k = k

base_disp_most : (base : ℕ) (d : ℤ) → base_disp_len base d ≤ 4
base_disp_most base d = either_most (base % 8 == 5) (at_least_one (disp_len d)) (disp_len d) (some_most (disp_len d == 0) (disp_len d) (disp_most d)) (disp_most d)

sib_most : (base : ℕ) (index : Option (ℕ × ℕ)) → sib_len base index ≤ 1
sib_most base None = one_most (base % 8 == 4)
sib_most base (Some index) = omega arith

place_most : (place : Place) → least_tail place ≤ 6
place_most (Reg view) = omega arith
place_most (Mem None index disp) = omega arith
place_most (Mem (Some base) index disp) = let h = sib_most base index in let k = base_disp_most base disp in omega (arith, h, k)
place_most (Rip disp) = omega arith

tail_most : (place : Option Place) → tail_len place ≤ 6
tail_most None = omega arith
tail_most (Some place) = place_most place

abbrev most_len : Line → ℕ
most_len line = most_prefix line.prefix + (opcode_len line.opcode + (6 + imm_bytes line.imm))

most_are : agree_below (λ n. nat_le (most_len (core_line n)) 13) (λ _. true) COUNT ≡ true
unfolding core_lines arithmetic_lines moves_lines multiplication_lines shifts_lines conditions_lines control_lines bits_lines scalar_lines line_of all_rows
most_are = refl

is_most : (m n : ℕ) → nat_le m n ≡ true → m ≤ n
is_most m n h = grind (arith, nat_tests)

most_is : (n : ℕ) → n < COUNT → most_len (core_line n) ≤ 13
most_is n h = is_most _ 13 (agree_below_at (λ n. nat_le (most_len (core_line n)) 13) (λ _. true) COUNT n most_are h)

line_most : {K : Type 0} (line : Line) (parts : PartsOf K) → most_len line ≤ 13 → line_len line parts ≤ 13
line_most line parts h =
    let p = prefix_most line.prefix line parts in
    let t = tail_most parts.place in
    omega (arith, h, p, t)

pub at_most_13 : (c : Core) (offsets : ℕ → Option ℤ) → core_len offsets (core_view c) ≤ 13
at_most_13 c offsets = line_most (core_line c.op.number) (core_parts (core_view c) offsets) (most_is c.op.number (op_below c.op))
