use Rattle.std.proofs.Common.{◌≡◌, ◌∙◌, ℕ, ◌<◌, refl, sym, arith, List, Option, Some, None}
use Rattle.cax64_machine_code.specs.Reading.{FoundOf, read}
use Rattle.cax64_machine_code.specs.ReadLine.{LineReading, as_row, find_line, read_line, with_line}
use Rattle.cax64_machine_code.specs.Rows.{line_of}
use Rattle.cax64_machine_code.specs.declared.line.Line.{Line}
use Rattle.cax64_machine_code.specs.declared.reading.Reading.{Reading}
use Rattle.cax64_machine_code.specs.declared.row.Row.{Row}
use Rattle.cax64_machine_code.proofs.ReadLine.{reads_line, row_reads}
use Rattle.cax64_table.specs.Packed.{number_of}
use Rattle.cax64_table.proofs.Table.{number_below}
use Rattle.x64_lines.specs.Line.{core_line}
use Rattle.x64_lines.proofs.RowLines.{row_line}
use Rattle.x64_reader.proofs.Found.{found_reads, none_reads, reading_with}

-- What the rows' lines read is what rows read.

-- what a row reads, its line reads
line_reads_it : (bytes : List ℕ) (q : Reading) → read bytes ≡ Some q → read_line (core_line (number_of q.row)) bytes ≡ Some (with_line q)
line_reads_it bytes q h = rw (row_line q.row) (reads_line bytes q h)

-- so where no line of a row finds anything, no row reads
pub none_of_rows : (bytes : List ℕ) → ((n : ℕ) → n < 158 → find_line (core_line n) bytes ≡ None) → read bytes ≡ None
none_of_rows bytes none = by_read (read bytes) refl
  where
    by_read : (o : Option Reading) → read bytes ≡ o → o ≡ None
    by_read None e = refl
    by_read (Some q) e =
        let no : read_line (core_line (number_of q.row)) bytes ≡ None = none_reads (number_of q.row) bytes (none (number_of q.row) (number_below q.row)) in
        let both : ◌≡◌ {A = Option LineReading} None (Some (with_line q)) = sym no ∙ line_reads_it bytes q e in
        cc

-- where a row's line finds something, the row reads it
pub row_read : (row : Row) (n : ℕ) (bytes : List ℕ) (found : FoundOf Line) → line_of row ≡ core_line n → find_line (core_line n) bytes ≡ Some found → read bytes ≡ Some (as_row row (reading_with (core_line n) bytes found))
row_read row n bytes found e h = row_reads row bytes (reading_with (core_line n) bytes found) (rw e (found_reads n bytes found h))
