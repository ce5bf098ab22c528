use Rattle.std.proofs.Common.{◌≡◌, ℕ, zero, suc, slice_index_or, ◌+◌, ◌*◌, ◌<◌, refl, ◌∙◌, ap, arith, Bool, true, false, []}
use Rattle.std.specs.Int.{from_bool}
use Rattle.cax64_encoder.specs.Tails.{base_entry}
use Rattle.cax64_encoder.specs.declared.tails.TheConstants.{TAILS}

-- The table of tails has what is said of each width and base: it is computed for each cell.

pub by_three : (P : ℕ → Type 0) → P 0 → P 1 → P 2 → (n : ℕ) → n < 3 → P n
by_three P a b c zero l = a
by_three P a b c (suc zero) l = b
by_three P a b c (suc (suc zero)) l = c
by_three P a b c (suc (suc (suc n))) l = absurd (omega (arith, l))

pub by_eight : (P : ℕ → Type 0) → P 0 → P 1 → P 2 → P 3 → P 4 → P 5 → P 6 → P 7 → (n : ℕ) → n < 8 → P n
by_eight P a b c d e f g h zero l = a
by_eight P a b c d e f g h (suc zero) l = b
by_eight P a b c d e f g h (suc (suc zero)) l = c
by_eight P a b c d e f g h (suc (suc (suc zero))) l = d
by_eight P a b c d e f g h (suc (suc (suc (suc zero)))) l = e
by_eight P a b c d e f g h (suc (suc (suc (suc (suc zero))))) l = f
by_eight P a b c d e f g h (suc (suc (suc (suc (suc (suc zero)))))) l = g
by_eight P a b c d e f g h (suc (suc (suc (suc (suc (suc (suc zero))))))) l = h
by_eight P a b c d e f g h (suc (suc (suc (suc (suc (suc (suc (suc n)))))))) l = absurd (omega (arith, l))

abbrev EntryIs : Bool → ℕ → ℕ → Type 0
EntryIs has_index width low = slice_index_or TAILS (from_bool has_index * 24 + width * 8 + low) [] ≡ base_entry has_index width low

entry_is : (has_index : Bool) (width low : ℕ) → width < 3 → low < 8 → EntryIs has_index width low
entry_is false width low c l = by_three (λ n. EntryIs false n low) (by_eight (EntryIs false 0) refl refl refl refl refl refl refl refl low l) (by_eight (EntryIs false 1) refl refl refl refl refl refl refl refl low l) (by_eight (EntryIs false 2) refl refl refl refl refl refl refl refl low l) width c
entry_is true width low c l = by_three (λ n. EntryIs true n low) (by_eight (EntryIs true 0) refl refl refl refl refl refl refl refl low l) (by_eight (EntryIs true 1) refl refl refl refl refl refl refl refl low l) (by_eight (EntryIs true 2) refl refl refl refl refl refl refl refl low l) width c

pub found : (has_index : Bool) (width low i c l : ℕ) → width < 3 → low < 8 → i ≡ from_bool has_index → c ≡ width → l ≡ low → slice_index_or TAILS (i * 24 + c * 8 + l) [] ≡ base_entry has_index width low
found has_index width low i c l hc hl ei ec el =
    let at : i * 24 + c * 8 + l ≡ from_bool has_index * 24 + width * 8 + low = omega (arith, ei, ec, el) in
    ap (λ (k : ℕ). slice_index_or TAILS k []) at ∙ entry_is has_index width low hc hl
