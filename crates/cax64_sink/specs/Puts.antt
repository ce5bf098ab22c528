use Rattle.std.specs.Prelude.{ℕ, List, [], ◌∷◌}
use Rattle.cax64_sink.specs.Call.{Action, put}

-- bytes that are put one at a time
abbrev pub puts : List ℕ → List Action
puts [] = []
puts (byte ∷ bytes) = put (byte ∷ []) ∷ puts bytes
