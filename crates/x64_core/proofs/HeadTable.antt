use Rattle.std.proofs.Common.{◌≡◌, ℕ, zero, suc, ◌<◌, refl, true, List, [], ◌∷◌, length, slice_index_or, arith}
use Rattle.std.specs.Prelude.{Bool, false, ◌&&◌}
use Rattle.std.proofs.lemmas.Bool.{and_parts}
use Rattle.cax64_machine_code.specs.Rows.{line_of, all_rows}
use Rattle.cax64_machine_code.specs.declared.line.Line.{Line}
use Rattle.x64_place.specs.Heads.{are_heads}
use Rattle.x64_lines.specs.Lines.{core_lines, arithmetic_lines, moves_lines, multiplication_lines, shifts_lines, conditions_lines, control_lines, bits_lines, scalar_lines}
use Rattle.x64_lines.specs.Line.{core_line, no_line}
use Rattle.x64_lines.specs.declared.lines.TheConstants.{COUNT}
use Rattle.x64_core.specs.declared.heads.TheConstants.{HEADS}
use Rattle.x64_lines.proofs.Table.{so_many}

-- Each line's heads stand beside its number.

abbrev every : List Line → List (List ℕ) → Bool
every [] heads = true
every (line ∷ lines) [] = false
every (line ∷ lines) (four ∷ heads) = are_heads line four && every lines heads

every_at : (lines : List Line) (heads : List (List ℕ)) (n : ℕ) → every lines heads ≡ true → n < length lines → are_heads (slice_index_or lines n no_line) (slice_index_or heads n []) ≡ true
every_at [] heads n h l = absurd (omega (arith, l))
every_at (line ∷ lines) [] n h l = cc
every_at (line ∷ lines) (four ∷ heads) zero h l = (and_parts (are_heads line four) (every lines heads) h).0
every_at (line ∷ lines) (four ∷ heads) (suc n) h l = every_at lines heads n (and_parts (are_heads line four) (every lines heads) h).1 (omega (arith, l))

heads_are : every core_lines HEADS ≡ true
unfolding core_lines arithmetic_lines moves_lines multiplication_lines shifts_lines conditions_lines control_lines bits_lines scalar_lines line_of all_rows are_heads
heads_are = refl

pub heads_is : (n : ℕ) → n < COUNT → are_heads (core_line n) (slice_index_or HEADS n []) ≡ true
heads_is n h = every_at core_lines HEADS n heads_are (omega (arith, so_many, h))
