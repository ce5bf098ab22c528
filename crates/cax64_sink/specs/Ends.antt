-- Actions whose last one puts bytes, so that what a refusal leaves is less than the whole.
use Rattle.std.specs.Prelude.{◌<◌, List, [], ◌∷◌, length}
use Rattle.cax64_sink.specs.Call.{Action, bytes_of}

abbrev pub EndsInBytes : List Action → Type 0
EndsInBytes [] = ⊥
EndsInBytes (act ∷ []) = 0 < length (bytes_of act)
EndsInBytes (act ∷ next ∷ acts) = EndsInBytes (next ∷ acts)
