-- Exit statuses of a run.
use Rattle.std.specs.Prelude.{◌≡◌, ◌⊎◌, ℕ}

-- all lines were written; the words aren't those of a command; no memory; a failed write
abbrev pub IsStatus : ℕ → Type 0
IsStatus n = (n ≡ 0) ⊎ ((n ≡ 2) ⊎ ((n ≡ 3) ⊎ (n ≡ 4)))
