use Rattle.std.specs.Prelude.{Bool, true, ◌&&◌, List, [], ◌∷◌}
use Rattle.cax64_machine_code.specs.Apart.{apart}
use Rattle.cax64_machine_code.specs.Rows.{line_of}
use Rattle.cax64_machine_code.specs.declared.row.Row.{Row}

-- Each two rows are apart.

abbrev pub apart_from_all : Row → List Row → Bool
apart_from_all row [] = true
apart_from_all row (other ∷ rows) = apart (line_of row) (line_of other) && apart_from_all row rows

abbrev pub all_apart : List Row → Bool
all_apart [] = true
all_apart (row ∷ rows) = apart_from_all row rows && all_apart rows
