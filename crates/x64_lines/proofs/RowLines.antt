use Rattle.std.proofs.Common.{◌≡◌, ℕ, ◌<◌, refl, sym, ◌∙◌, ap, true, length, slice_index_or, arith}
use Rattle.std.specs.Prelude.{◌==◌}
use Rattle.std.proofs.lemmas.Bool.{agree_below, agree_below_at}
use Rattle.std.proofs.lemmas.Bool.Decides.{nat_tests}
use Rattle.cax64_machine_code.specs.Rows.{line_of, all_rows}
use Rattle.cax64_machine_code.specs.declared.row.Row.{Row}
use Rattle.cax64_machine_code.specs.declared.row.Row.TheVariants.{lock_addb_mi}
use Rattle.cax64_table.specs.Packed.{number_of}
use Rattle.x64_lines.specs.Line.{core_line}
use Rattle.x64_lines.specs.Lines.{core_lines}

-- The rows are the first lines of the core.

pub row_line : (row : Row) → core_line (number_of row) ≡ line_of row
unfolding number_of core_lines line_of all_rows
row_line lock_addb_mi = refl
row_line _ = refl

pub row_back : (row : Row) → slice_index_or all_rows (number_of row) lock_addb_mi ≡ row
unfolding number_of all_rows
row_back lock_addb_mi = refl
row_back _ = refl

pub same_row : (a b : Row) → number_of a ≡ number_of b → a ≡ b
same_row a b h = sym (row_back a) ∙ ap (λ (n : ℕ). slice_index_or all_rows n lock_addb_mi) h ∙ row_back b

pub so_many : length all_rows ≡ 158
unfolding all_rows
so_many = refl

all_there : agree_below (λ n. number_of (slice_index_or all_rows n lock_addb_mi) == n) (λ _. true) 158 ≡ true
unfolding number_of all_rows
all_there = refl

is_number : (a b : ℕ) → (a == b) ≡ true → a ≡ b
is_number a b h = grind (arith, nat_tests)

pub row_there : (n : ℕ) → n < 158 → number_of (slice_index_or all_rows n lock_addb_mi) ≡ n
row_there n h = is_number _ n (agree_below_at (λ n. number_of (slice_index_or all_rows n lock_addb_mi) == n) (λ _. true) 158 n all_there h)
