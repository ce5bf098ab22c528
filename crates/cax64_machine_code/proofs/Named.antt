use Rattle.std.proofs.Common.{rules, ◌⊎◌, inl, inr, ◌≡◌, ℕ, ◌+◌, ◌<◌, ◌≤◌, refl, sym, ap, ◌∙◌, Bool, true, false, ◌&&◌, nat_eq, List, [], ◌∷◌, length, Option, Some, None, slice_index_or}
use Rattle.std.specs.Prelude.{◌≢◌, if◌then◌else◌, nat_lt}
use Rattle.std.proofs.lemmas.Bool.{ltb-true}
use Rattle.std.proofs.lemmas.Option.{same_Some}
use Rattle.std.proofs.Math.Nat.{eq-or-lt_of_le}
use Rattle.cax64_machine_code.specs.Rows.{all_rows, name_of}
use Rattle.cax64_machine_code.specs.declared.row.Row.{Row}
use Rattle.cax64_machine_code.specs.declared.row.Row.TheVariants.{lock_addb_mi}
use Rattle.cax64_machine_code.proofs.Table.{place_of}

-- No two rows have one name.

same_text : List ℕ → List ℕ → Bool
same_text [] [] = true
same_text [] (y ∷ ys) = false
same_text (x ∷ xs) [] = false
same_text (x ∷ xs) (y ∷ ys) = nat_eq x y && same_text xs ys

first_named : List ℕ → List Row → Option Row
first_named name [] = None
first_named name (row ∷ rows) = if same_text (name_of row) name then Some row else first_named name rows

named : (row : Row) → first_named (name_of row) all_rows ≡ Some row
unfolding all_rows first_named same_text
named lock_addb_mi = refl
named _ = refl

pub same_name : (a b : Row) → name_of a ≡ name_of b → a ≡ b
same_name a b h = same_Some a b (sym (named a) ∙ ap (λ n. first_named n all_rows) h ∙ named b)

-- a row of this name stands at this place of the list of all rows or behind it
abbrev pub StandsFrom : ℕ → List ℕ → Type 0
StandsFrom place name = (row : Row) → name_of row ≡ name → place ≤ place_of row

at_place : (row : Row) → slice_index_or all_rows (place_of row) lock_addb_mi ≡ row
unfolding all_rows place_of
at_place lock_addb_mi = refl
at_place _ = refl

below : (row : Row) → nat_lt (place_of row) (length all_rows) ≡ true
unfolding all_rows place_of
below lock_addb_mi = refl
below _ = refl

-- all rows stand from place 0
pub from_0 : (name : List ℕ) → StandsFrom 0 name
from_0 name row h = search rules

-- where the row at a place has another name, one of this name stands behind it
pub from_next : (place : ℕ) (name : List ℕ) → StandsFrom place name → name_of (slice_index_or all_rows place lock_addb_mi) ≢ name → StandsFrom (place + 1) name
from_next place name from other row h = later (eq-or-lt_of_le (from row h))
  where
    later : (place ≡ place_of row) ⊎ (place < place_of row) → place + 1 ≤ place_of row
    later (inl e) = absurd (other (ap (λ p. name_of (slice_index_or all_rows p lock_addb_mi)) e ∙ ap name_of (at_place row) ∙ h))
    later (inr l) = search rules

-- behind all rows there is none
pub from_end : (place : ℕ) (name : List ℕ) → length all_rows ≤ place → StandsFrom place name → (row : Row) → name_of row ≢ name
from_end place name end from row h =
    let b : place_of row < length all_rows = ltb-true (place_of row) (length all_rows) (below row) in
    let f : place ≤ place_of row = from row h in
    search rules
