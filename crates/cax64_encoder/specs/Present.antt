use Rattle.std.specs.Prelude.{Option, Some, None, List, [], ◌∷◌}
use Rattle.cax64_encoder.specs.declared.fault.Visited.{Visited}

-- the registers that are there
abbrev pub present : List (Option Visited) → List Visited
present [] = []
present (None ∷ later) = present later
present (Some visited ∷ later) = visited ∷ present later
