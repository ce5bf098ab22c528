use Rattle.std.proofs.Common.{◌≡◌, ℕ, slice_index_or, ◌+◌, ◌*◌, ◌<◌, refl, ◌∙◌, ap, arith, []}
use Rattle.cax64_encoder.proofs.TailTable.{by_eight, by_three}
use Rattle.x64_place.specs.Tail.{kind_number, tail_entry}
use Rattle.x64_place.specs.declared.place.PlaceKind.{PlaceKind}
use Rattle.x64_place.specs.declared.place.PlaceKind.TheVariants.{Absent, Register, Base, BaseAndIndex, Label, Constant, NoTarget}
use Rattle.x64_place.specs.declared.tails.TheConstants.{TAILS}

-- The table of tails has what is said of each kind of place: it is computed for each cell.

abbrev pub EntryIs : PlaceKind → ℕ → ℕ → Type 0
EntryIs kind width low = slice_index_or TAILS (kind_number kind * 32 + width * 8 + low) [] ≡ tail_entry kind width low

pub entry_is : (kind : PlaceKind) (width low : ℕ) → width < 3 → low < 8 → EntryIs kind width low
entry_is Absent width low c l = by_three (λ n. EntryIs Absent n low) (by_eight (λ n. EntryIs Absent 0 n) refl refl refl refl refl refl refl refl low l) (by_eight (λ n. EntryIs Absent 1 n) refl refl refl refl refl refl refl refl low l) (by_eight (λ n. EntryIs Absent 2 n) refl refl refl refl refl refl refl refl low l) width c
entry_is Register width low c l = by_three (λ n. EntryIs Register n low) (by_eight (λ n. EntryIs Register 0 n) refl refl refl refl refl refl refl refl low l) (by_eight (λ n. EntryIs Register 1 n) refl refl refl refl refl refl refl refl low l) (by_eight (λ n. EntryIs Register 2 n) refl refl refl refl refl refl refl refl low l) width c
entry_is Base width low c l = by_three (λ n. EntryIs Base n low) (by_eight (λ n. EntryIs Base 0 n) refl refl refl refl refl refl refl refl low l) (by_eight (λ n. EntryIs Base 1 n) refl refl refl refl refl refl refl refl low l) (by_eight (λ n. EntryIs Base 2 n) refl refl refl refl refl refl refl refl low l) width c
entry_is BaseAndIndex width low c l = by_three (λ n. EntryIs BaseAndIndex n low) (by_eight (λ n. EntryIs BaseAndIndex 0 n) refl refl refl refl refl refl refl refl low l) (by_eight (λ n. EntryIs BaseAndIndex 1 n) refl refl refl refl refl refl refl refl low l) (by_eight (λ n. EntryIs BaseAndIndex 2 n) refl refl refl refl refl refl refl refl low l) width c
entry_is Label width low c l = by_three (λ n. EntryIs Label n low) (by_eight (λ n. EntryIs Label 0 n) refl refl refl refl refl refl refl refl low l) (by_eight (λ n. EntryIs Label 1 n) refl refl refl refl refl refl refl refl low l) (by_eight (λ n. EntryIs Label 2 n) refl refl refl refl refl refl refl refl low l) width c
entry_is Constant width low c l = by_three (λ n. EntryIs Constant n low) (by_eight (λ n. EntryIs Constant 0 n) refl refl refl refl refl refl refl refl low l) (by_eight (λ n. EntryIs Constant 1 n) refl refl refl refl refl refl refl refl low l) (by_eight (λ n. EntryIs Constant 2 n) refl refl refl refl refl refl refl refl low l) width c
entry_is NoTarget width low c l = by_three (λ n. EntryIs NoTarget n low) (by_eight (λ n. EntryIs NoTarget 0 n) refl refl refl refl refl refl refl refl low l) (by_eight (λ n. EntryIs NoTarget 1 n) refl refl refl refl refl refl refl refl low l) (by_eight (λ n. EntryIs NoTarget 2 n) refl refl refl refl refl refl refl refl low l) width c

pub found : (kind : PlaceKind) (width low k c l : ℕ) → width < 3 → low < 8 → k ≡ kind_number kind → c ≡ width → l ≡ low → slice_index_or TAILS (k * 32 + c * 8 + l) [] ≡ tail_entry kind width low
found kind width low k c l hc hl ek ec el =
    let at : k * 32 + c * 8 + l ≡ kind_number kind * 32 + width * 8 + low = omega (arith, ek, ec, el) in
    ap (λ (i : ℕ). slice_index_or TAILS i []) at ∙ entry_is kind width low hc hl
