use Rattle.std.specs.Prelude.{ℕ, List, Option, option_and_then}
use Rattle.cax64_machine_code.specs.Prefix.{Prefix}
use Rattle.cax64_machine_code.specs.Reading.{FoundOf, matched_at, operands_of}
use Rattle.cax64_machine_code.specs.declared.line.Line.{Line}

-- What one line finds behind a prefix: what `find_line` does there.

abbrev pub found_behind : Line → Prefix → List ℕ → Option (FoundOf Line)
found_behind line prefix bytes = option_and_then (λ rest. operands_of line.tail line line prefix rest) (matched_at line prefix bytes)
