use Rattle.std.proofs.Common.{◌≡◌, List, [], ◌∷◌, ℕ, length, refl, arith}
use Rattle.cax64_table.proofs.cursor.next.Goals as goal

empty : (xs : List ℕ) → length xs ≡ 0 → xs ≡ []
empty [] h = refl
empty (x ∷ xs) h = absurd (omega arith)

pub returns : goal.returns
returns c = rw c.in_ok-first.ensures.cases.0 refl

pub returns-in_err-first : goal.returns-in_err-first
returns-in_err-first c = rw (c.from_residual.ensures, empty c.args.bytes.now c.in_err-first.ensures.cases) refl
