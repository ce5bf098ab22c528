use Rattle.std.proofs.Common.{◌≡◌, ◌∙◌, ℕ, Option, Some, ap}
use Rattle.std.specs.Prelude.{IfSome}
use Rattle.cax64_table.specs.Packed.{number_of}
use Rattle.x64_lines.specs.Line.{core_line}
use Rattle.x64_lines.specs.declared.op.Op.{Op}
use Rattle.x64_lines.proofs.RowLines.{row_line}
use Rattle.x64_lines.proofs.op.Op.of_row.Goals as goal

found_number : (found : Option Op) (op : Op) (n : ℕ) → IfSome found (λ op. op.number ≡ n) → found ≡ Some op → op.number ≡ n
found_number found op n h e = rw e at h

pub returns-clause-line : goal.returns-clause-line
returns-clause-line c =
    let n : c.unwrap.result.number ≡ number_of c.args.row = found_number c.from_number.result c.unwrap.result c.number.result c.from_number.ensures.found c.unwrap.ensures ∙ c.number.ensures.is in
    ap (λ (n : ℕ). core_line n) n ∙ row_line c.args.row
