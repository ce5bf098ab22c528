-- The uses of labels and constants that a buffer was told of, and what keeps one from being patched.
use Rattle.std.specs.Prelude.{◌≡◌, ◌≤◌, ◌<◌, ◌⊎◌, ℕ, ◌+◌, ℤ, Option, Some, None, option_and_then, List, [], ◌∷◌, All}
use Rattle.cax64_sink.specs.declared.DeferredTarget.{DeferredTarget}
use Rattle.cax64_sink.specs.declared.DeferredTarget.TheVariants as target
use Rattle.cax64_sink.specs.declared.Notice.{Notice}
use Rattle.cax64_sink.specs.declared.Notice.TheVariants.{Trap, Target}
use Rattle.x64_code_buffer.specs.Field.{patched, stored_at}
use Rattle.x64_code_buffer.specs.declared.errors.FinishError.{FinishError}
use Rattle.x64_code_buffer.specs.declared.errors.FinishError.TheVariants.{Unbound, TooFar}

-- the position of a field, and what it refers to
abbrev pub Use : Type 0
Use = ℕ × DeferredTarget

-- the uses in some notices, in the order told
abbrev pub uses_of : List Notice → List Use
uses_of [] = []
uses_of (Trap at code ∷ later) = uses_of later
uses_of (Target at target ∷ later) = (at, target) ∷ uses_of later

-- what the field at a position is to hold where it refers to another position, if its bytes are there and an i32 can say it
abbrev pub patched_at : List ℕ → ℕ → ℕ → Option ℤ
patched_at bytes at place = option_and_then (patched at place) (stored_at bytes at)

abbrev pub unless_patched : ℕ → Option ℤ → Option FinishError
unless_patched at None = Some (TooFar at)
unless_patched at (Some field) = None

abbrev pub unless_bound : DeferredTarget → List ℕ → ℕ → Option ℕ → Option FinishError
unless_bound target bytes at None = Some (Unbound target)
unless_bound target bytes at (Some place) = unless_patched at (patched_at bytes at place)

-- What keeps a use from being patched: its target isn't bound, or else the field can't hold the distance.
abbrev pub refusal_of : (DeferredTarget → Option ℕ) → List ℕ → Use → Option FinishError
refusal_of places bytes (at, target.Label label) = unless_bound (target.Label label) bytes at (places (target.Label label))
refusal_of places bytes (at, target.Constant constant) = unless_bound (target.Constant constant) bytes at (places (target.Constant constant))
refusal_of places bytes (at, target.None) = None

abbrev pub or_later : Option FinishError → Option FinishError → Option FinishError
or_later None later = later
or_later (Some error) later = Some error

-- that of the first use, in the order told, that can't be patched
abbrev pub first_refusal : (DeferredTarget → Option ℕ) → List ℕ → List Use → Option FinishError
first_refusal places bytes [] = None
first_refusal places bytes (used ∷ later) = or_later (refusal_of places bytes used) (first_refusal places bytes later)

-- the uses of labels and constants, which are patched
abbrev pub links : List Use → List Use
links [] = []
links ((at, target.Label label) ∷ later) = (at, target.Label label) ∷ links later
links ((at, target.Constant constant) ∷ later) = (at, target.Constant constant) ∷ links later
links ((at, target.None) ∷ later) = links later

-- a position is outside of a field, before or behind its four bytes
abbrev pub IsOutside : ℕ → Use → Type 0
IsOutside i used = (i < used.0) ⊎ (used.0 + 4 ≤ i)

-- two fields don't overlap
abbrev pub AreApart : Use → Use → Type 0
AreApart a b = (a.0 + 4 ≤ b.0) ⊎ (b.0 + 4 ≤ a.0)

-- no two fields overlap
abbrev pub EachApart : List Use → Type 0
EachApart [] = Unit {0}
EachApart (used ∷ later) = All (AreApart used) later × EachApart later

-- a field holds what it is to hold: its target is bound to a position, to which the field leads
pub record IsPatched (places : DeferredTarget → Option ℕ) (old new : List ℕ) (used : Use) : Type 0 where
  pub place : ℕ
  pub bound : places used.1 ≡ Some place
  pub field : ℤ
  pub leads : patched_at old used.0 place ≡ Some field
  pub stored : stored_at new used.0 ≡ Some field
