use Rattle.std.proofs.Common.{◌≡◌, ℕ, zero, suc, ◌+◌, ◌<◌, refl, sym, ap, ◌∙◌, true, List, [], ◌∷◌, length, slice_index, slice_index_or, arith}
use Rattle.std.specs.Prelude.{map, nat_lt, nat_le}
use Rattle.std.proofs.lemmas.Bool.{agree_below, agree_below_at}
use Rattle.std.proofs.lemmas.Bool.Decides.{nat_tests}
use Rattle.cax64_machine_code.specs.Apart.{each_two}
use Rattle.cax64_machine_code.specs.Rows.{line_of, all_rows}
use Rattle.cax64_machine_code.specs.declared.line.Line.{Line}
use Rattle.cax64_table.specs.Entry.{is_entry}
use Rattle.cax64_table.specs.Packed.{unpacked}
use Rattle.x64_lines.specs.Lines.{core_lines, arithmetic_lines, moves_lines, multiplication_lines, shifts_lines, conditions_lines, control_lines, bits_lines, scalar_lines}
use Rattle.x64_lines.specs.Line.{core_line, no_line}
use Rattle.x64_lines.specs.Flags.{flags_fit, flags_of}
use Rattle.x64_lines.specs.LineOperands.{operands_fit, line_operands, span_of}
use Rattle.x64_lines.specs.Shape.{has_shape, shape_of}
use Rattle.x64_lines.specs.declared.operand_lists.TheConstants.{OPERANDS}
use Rattle.x64_lines.specs.declared.lines.TheConstants.{COUNT, NUMBERS}
use Rattle.x64_lines.specs.declared.op.Op.{Op}

-- What the checker computes of the table.

pub op_below : (op : Op) → op.number < COUNT
op_below op = let h : nat_lt op.number COUNT ≡ true = op.below in grind (arith, nat_tests)

-- each number is an entry
all_are : agree_below (λ n. is_entry (slice_index NUMBERS n)) (λ _. true) COUNT ≡ true
all_are = refl

pub entry_is : (n : ℕ) → n < COUNT → is_entry (slice_index NUMBERS n) ≡ true
entry_is n h = agree_below_at (λ n. is_entry (slice_index NUMBERS n)) (λ _. true) COUNT n all_are h

-- each number is its line's
numbers_are : map unpacked NUMBERS ≡ core_lines
unfolding core_lines arithmetic_lines moves_lines multiplication_lines shifts_lines conditions_lines control_lines bits_lines scalar_lines line_of all_rows
numbers_are = refl

mapped : (ns : List ℕ) (n : ℕ) → n < length ns → slice_index_or (map unpacked ns) n no_line ≡ unpacked (slice_index ns n)
mapped [] n h = absurd (omega (arith, h))
mapped (x ∷ xs) zero h = refl
mapped (x ∷ xs) (suc n) h = mapped xs n (omega (arith, h))

pub line_is : (n : ℕ) → n < COUNT → unpacked (slice_index NUMBERS n) ≡ core_line n
line_is n h = sym (mapped NUMBERS n h) ∙ ap (λ (lines : List Line). slice_index_or lines n no_line) numbers_are

-- there is a line for each number below the count
pub so_many : length core_lines ≡ COUNT
unfolding core_lines arithmetic_lines moves_lines multiplication_lines shifts_lines conditions_lines control_lines bits_lines scalar_lines all_rows
so_many = refl

-- each line takes the operands that stand beside its number
shapes_are : agree_below (λ n. has_shape (core_line n) (shape_of n)) (λ _. true) COUNT ≡ true
unfolding core_lines arithmetic_lines moves_lines multiplication_lines shifts_lines conditions_lines control_lines bits_lines scalar_lines line_of all_rows
shapes_are = refl

pub shape_is : (n : ℕ) → n < COUNT → has_shape (core_line n) (shape_of n) ≡ true
shape_is n h = agree_below_at (λ n. has_shape (core_line n) (shape_of n)) (λ _. true) COUNT n shapes_are h

-- each line's list of operands is one of its places
spans_are : agree_below (λ n. nat_le ((span_of n).first + (span_of n).count) (length OPERANDS)) (λ _. true) COUNT ≡ true
spans_are = refl

pub span_is : (n : ℕ) → n < COUNT → nat_le ((span_of n).first + (span_of n).count) (length OPERANDS) ≡ true
span_is n h = agree_below_at (λ n. nat_le ((span_of n).first + (span_of n).count) (length OPERANDS)) (λ _. true) COUNT n spans_are h

kinds_are : agree_below (λ n. operands_fit (core_line n) (line_operands n)) (λ _. true) COUNT ≡ true
unfolding core_lines arithmetic_lines moves_lines multiplication_lines shifts_lines conditions_lines control_lines bits_lines scalar_lines line_of all_rows
kinds_are = refl

pub kind_is : (n : ℕ) → n < COUNT → operands_fit (core_line n) (line_operands n) ≡ true
kind_is n h = agree_below_at (λ n. operands_fit (core_line n) (line_operands n)) (λ _. true) COUNT n kinds_are h

-- each line's sets of flags are apart
flags_are : agree_below (λ n. flags_fit (flags_of n)) (λ _. true) COUNT ≡ true
flags_are = refl

pub flag_is : (n : ℕ) → n < COUNT → flags_fit (flags_of n) ≡ true
flag_is n h = agree_below_at (λ n. flags_fit (flags_of n)) (λ _. true) COUNT n flags_are h

-- no two lines read the same bytes
pub lines_apart : each_two core_lines ≡ true
unfolding core_lines arithmetic_lines moves_lines multiplication_lines shifts_lines conditions_lines control_lines bits_lines scalar_lines line_of all_rows
lines_apart = refl
