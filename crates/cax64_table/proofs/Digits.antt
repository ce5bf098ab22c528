use Rattle.std.proofs.Common.{◌≡◌, ℕ, Bool, refl, ap, sym, ◌∙◌}
use Rattle.std.specs.Prelude.{◌==◌, ◌&&◌, is_some}
use Rattle.std.specs.List.{list_any}
use Rattle.cax64_machine_code.specs.Line.{same_bool}
use Rattle.cax64_machine_code.specs.Rows.{line_of, all_rows}
use Rattle.cax64_machine_code.specs.declared.line.Opcode.{Opcode}
use Rattle.cax64_machine_code.specs.declared.row.Row.{Row}
use Rattle.cax64_machine_code.specs.declared.row.Row.TheVariants.{lock_addb_mi}
use Rattle.cax64_table.specs.Digit.{digit_of, vex_map}

has_digit : Row → Bool
has_digit row = is_some (digit_of (line_of row).tail)

same_opcode : Opcode → Opcode → Bool
same_opcode a b = same_bool a.escape b.escape && (a.byte == b.byte)

-- a row of the opcode in this map has a digit
some_digit : ℕ → Opcode → Bool
some_digit map opcode = list_any (λ row. (vex_map (line_of row).prefix == map) && (same_opcode opcode (line_of row).opcode && has_digit row)) all_rows

each_has : (row : Row) → has_digit row ≡ some_digit (vex_map (line_of row).prefix) (line_of row).opcode
unfolding has_digit same_opcode some_digit line_of all_rows
each_has lock_addb_mi = refl
each_has _ = refl

pub alike : (a b : Row) → (line_of a).opcode ≡ (line_of b).opcode → vex_map (line_of a).prefix ≡ vex_map (line_of b).prefix → is_some (digit_of (line_of a).tail) ≡ is_some (digit_of (line_of b).tail)
unfolding has_digit
alike a b h m = each_has a ∙ ap (some_digit (vex_map (line_of a).prefix)) h ∙ ap (λ map. some_digit map (line_of b).opcode) m ∙ sym (each_has b)
