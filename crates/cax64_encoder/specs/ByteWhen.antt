use Rattle.std.specs.Prelude.{ℕ, Option, Some, None, List, [], ◌∷◌}

-- a byte, if there is one
abbrev pub byte_of : Option ℕ → List ℕ
byte_of (Some byte) = byte ∷ []
byte_of None = []
