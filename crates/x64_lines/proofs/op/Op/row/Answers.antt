use Rattle.std.proofs.Common.{◌≡◌, ◌<◌, ◌∙◌, ℕ, List, ap, sym, length, slice_index_or, arith}
use Rattle.cax64_machine_code.specs.Rows.{line_of, all_rows}
use Rattle.cax64_machine_code.specs.declared.row.Row.{Row}
use Rattle.cax64_machine_code.specs.declared.row.Row.TheVariants.{lock_addb_mi}
use Rattle.cax64_table.specs.Packed.{number_of}
use Rattle.x64_lines.specs.Line.{core_line}
use Rattle.x64_lines.proofs.RowLines.{row_line, row_there, so_many}
use Rattle.x64_lines.proofs.op.Op.row.Goals as goal

so_long : (rows : List Row) → rows ≡ all_rows → length rows ≡ 158
so_long rows e = ap (λ (l : List Row). length l) e ∙ so_many

found : (rows : List Row) (n m : ℕ) → rows ≡ all_rows → n ≡ m → n < length rows → number_of (slice_index_or rows n lock_addb_mi) ≡ m
found rows n m e same h =
    let l = so_long rows e in
    let below : n < 158 = omega (arith, h, l) in
    ap (λ (l : List Row). number_of (slice_index_or l n lock_addb_mi)) e ∙ row_there n below ∙ same

found_line : (row : Row) (n : ℕ) → number_of row ≡ n → line_of row ≡ core_line n
found_line row n h = sym (row_line row) ∙ ap (λ (m : ℕ). core_line m) h

pub returns-then-number-rows-clause-row : goal.returns-then-number-rows-clause-row
returns-then-number-rows-clause-row c = found c.all-rows.result.now c.from-number.result c.args.self.number c.all-rows.ensures (c.from-number.ensures ∙ c.number.ensures.is) c.if-number-rows.true

pub returns-then-number-rows-clause-line : goal.returns-then-number-rows-clause-line
returns-then-number-rows-clause-line c = found_line _ c.args.self.number (found c.all-rows.result.now c.from-number.result c.args.self.number c.all-rows.ensures (c.from-number.ensures ∙ c.number.ensures.is) c.if-number-rows.true)

pub returns-else-number-rows-clause-none : goal.returns-else-number-rows-clause-none
returns-else-number-rows-clause-none c =
    let l = so_long c.all-rows.result.now c.all-rows.ensures in
    omega (arith, l, c.if-number-rows.false, c.from-number.ensures, c.number.ensures.is)
