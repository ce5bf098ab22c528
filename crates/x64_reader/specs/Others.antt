use Rattle.std.specs.Prelude.{◌≡◌, ◌<◌, ℕ, ◌==◌, ◌&&◌, ◌||◌, not, Bool, List, Option, Some}
use Rattle.cax64_machine_code.specs.Line.{vvvv_matches}
use Rattle.cax64_machine_code.specs.Prefix.{Prefix}
use Rattle.cax64_machine_code.specs.Reading.{FoundOf}
use Rattle.cax64_machine_code.specs.declared.line.Line.{Line}
use Rattle.cax64_machine_code.specs.declared.line.PrefixField.{PrefixField}
use Rattle.cax64_machine_code.specs.declared.line.PrefixField.TheVariants.{LegacyField, VexField}
use Rattle.cax64_reader.specs.ByLine.{found_behind}
use Rattle.cax64_table.specs.declared.prefix.PrefixNumbers.{PrefixNumbers}
use Rattle.x64_lines.specs.Line.{core_line}

-- What a line asks of a prefix beside its key: that no REX byte stands where it may not, or L and vvvv.
abbrev pub others_match : PrefixField → PrefixNumbers → Bool → ℕ → Bool
others_match (LegacyField set rex) numbers has_rex vvvv = rex || not has_rex
others_match (VexField pp map l stored) numbers has_rex vvvv = (numbers.has_high && (numbers.high == l)) && vvvv_matches stored vvvv

-- whatever a line of a number below the limit finds there, it is the line of this number
abbrev pub FindsAlone : ℕ → Prefix → List ℕ → Option ℕ → Type 0
FindsAlone limit prefix bytes number = (n : ℕ) (found : FoundOf Line) → n < limit → found_behind (core_line n) prefix bytes ≡ Some found → number ≡ Some n
