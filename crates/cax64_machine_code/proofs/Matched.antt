use Rattle.std.proofs.Common.{◌≡◌, ℕ, ◌-◌, ◌≤◌, arith, List, [], ◌∷◌, ◌++◌, refl, subst, Option, Some, None, length}
use Rattle.std.specs.Prelude.{option_map}
use Rattle.std.proofs.lemmas.List.{length-append}
use Rattle.cax64_machine_code.specs.Prefix.{Prefix, prefix_at}
use Rattle.cax64_machine_code.specs.Reading.{Parts, Found, matched_at, or_later, row_at, operands_at, find, read}
use Rattle.cax64_machine_code.specs.Rows.{line_of, all_rows}
use Rattle.cax64_machine_code.specs.Sequence.{ReadsAs}
use Rattle.cax64_machine_code.specs.declared.row.Row.{Row}
use Rattle.cax64_machine_code.proofs.Table.{IsIn, here, there, row_is_in}
use Rattle.cax64_machine_code.proofs.Uniqueness.{one_row}

same_row : (row other : Row) (p : Prefix) (bytes rest : List ℕ) (found : Option (List ℕ)) → matched_at (line_of other) p bytes ≡ found → matched_at (line_of row) p bytes ≡ Some rest → or_later (option_map {T = List ℕ} {U = Row × List ℕ} (λ r. (other, r)) found) (Some (row, rest)) ≡ Some (row, rest)
same_row row other p bytes rest None e h = refl
same_row row other p bytes rest (Some r) e h =
    let same : other ≡ row = one_row other row p bytes r rest e h in
    let more : matched_at (line_of row) p bytes ≡ Some r = subst (λ (x : Row). matched_at (line_of x) p bytes ≡ Some r) same e in
    let two : r ≡ rest = cc in
    rw (same, two) refl

row_at_in : (row : Row) (p : Prefix) (bytes rest : List ℕ) (rows : List Row) → IsIn row rows → matched_at (line_of row) p bytes ≡ Some rest → row_at rows p bytes ≡ Some (row, rest)
unfolding row_at
row_at_in row p bytes rest [] m h = elim m [ ]
row_at_in row p bytes rest (other ∷ rows) here h = rw h refl
row_at_in row p bytes rest (other ∷ rows) (there m) h =
    rw (row_at_in row p bytes rest rows m h) (same_row row other p bytes rest (matched_at (line_of other) p bytes) refl h)

-- the row that matches is the one that is found
pub row_found : (row : Row) (p : Prefix) (bytes rest : List ℕ) → matched_at (line_of row) p bytes ≡ Some rest → row_at all_rows p bytes ≡ Some (row, rest)
row_found row p bytes rest h = row_at_in row p bytes rest all_rows (row_is_in row) h

-- a prefix, an opcode and operands make what is found
pub find_is : (bytes after rest : List ℕ) (p : Prefix) (row : Row) (found : Found) → prefix_at bytes ≡ Some (p, after) → matched_at (line_of row) p after ≡ Some rest → operands_at row p rest ≡ Some found → find bytes ≡ Some found
unfolding find
find_is bytes after rest p row found hp hm ho = rw (hp, row_found row p after rest hm, ho) refl

pub length_left : (b rest : List ℕ) → length (b ++ rest) - length rest ≡ length b
length_left b rest = omega (arith, length-append b rest)

-- what is found whatever follows is a reading of these bytes
pub reads_as : (parts : Parts) (tail : ℕ) (b : List ℕ) → ((rest : List ℕ) → find (b ++ rest) ≡ Some (record { parts = parts; tail = tail; rest = rest })) → 1 ≤ length b → length b ≤ 13 → ReadsAs parts b
unfolding read
reads_as parts tail b h least most = record {
  reading = record { row = parts.row; length = length b; tail = tail; reg = parts.reg; vvvv = parts.vvvv; place = parts.place; imm = parts.imm };
  reads = λ rest. rw (h rest, length_left b rest) refl;
  same = refl;
  length = refl;
  least = least;
  most = most;
}
