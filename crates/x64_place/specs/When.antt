use Rattle.std.specs.Prelude.{ℕ, Bool, if◌then◌else◌, Option, Some, None}

-- a number, where it stands for something
abbrev pub when : Bool → ℕ → Option ℕ
when present number = if present then Some number else None
