use Rattle.std.specs.Prelude.{ℕ, Bool, List, if◌then◌else◌, slice_index}

-- The number that a table of 256 gives for a register, where there is one.
abbrev pub home_if : Bool → List ℕ → ℕ → ℕ
home_if present homes reg = if present then slice_index homes reg else reg
