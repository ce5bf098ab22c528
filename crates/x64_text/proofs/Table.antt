use Rattle.std.proofs.Common.{◌≡◌, ℕ, ◌+◌, ◌<◌, refl, Bool, true, arith}
use Rattle.std.specs.Prelude.{◌==◌}
use Rattle.std.proofs.lemmas.Bool.{agree_below, agree_below_at}
use Rattle.std.proofs.lemmas.Bool.Decides.{nat_tests}
use Rattle.cax64_machine_code.specs.Len.{opcode_len}
use Rattle.cax64_machine_code.specs.Line.{imm_bytes}
use Rattle.cax64_machine_code.specs.Rows.{line_of, all_rows}
use Rattle.cax64_machine_code.specs.declared.line.Line.{Line}
use Rattle.x64_lines.specs.LineOperands.{line_operands}
use Rattle.x64_lines.specs.Line.{core_line}
use Rattle.x64_lines.specs.Lines.{core_lines, arithmetic_lines, moves_lines, multiplication_lines, shifts_lines, conditions_lines, control_lines, bits_lines, scalar_lines}
use Rattle.x64_lines.specs.declared.lines.TheConstants.{COUNT}
use Rattle.x64_text.specs.Fixed.{all_named}
use Rattle.x64_text.specs.Style.{style_of}
use Rattle.x64_text.specs.declared.style.Style.{Style}
use Rattle.x64_text.specs.declared.style.Style.TheVariants.{Plain, Wide, Indirect, Branch}

-- What the checker computes of the table.

-- a branch has as many bytes as stand beside its number

has_len : Style → Line → Bool
has_len Plain line = true
has_len Wide line = true
has_len Indirect line = true
has_len (Branch len) line = len == opcode_len line.opcode + imm_bytes line.imm

lens_are : agree_below (λ n. has_len (style_of n) (core_line n)) (λ _. true) COUNT ≡ true
unfolding has_len core_lines arithmetic_lines moves_lines multiplication_lines shifts_lines conditions_lines control_lines bits_lines scalar_lines line_of all_rows
lens_are = refl

equal : (a b : ℕ) → (a == b) ≡ true → a ≡ b
equal a b h = grind (arith, nat_tests)

pub branch_len : (n len : ℕ) → n < COUNT → style_of n ≡ Branch len → len ≡ opcode_len (core_line n).opcode + imm_bytes (core_line n).imm
unfolding has_len
branch_len n len below e =
    let h : has_len (style_of n) (core_line n) ≡ true = agree_below_at (λ n. has_len (style_of n) (core_line n)) (λ _. true) COUNT n lens_are below in
    let k : has_len (Branch len) (core_line n) ≡ true = rw e at h in
    equal len _ k

-- registers that lines fix have names

all_are : agree_below (λ n. all_named (line_operands n)) (λ _. true) COUNT ≡ true
all_are = refl

pub are_named : (n : ℕ) → n < COUNT → all_named (line_operands n) ≡ true
are_named n below = agree_below_at (λ n. all_named (line_operands n)) (λ _. true) COUNT n all_are below
