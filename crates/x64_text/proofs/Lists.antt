use Rattle.std.proofs.Common.{◌≡◌, ◌≤◌, ◌<◌, ◌+◌, ◌-◌, ℕ, suc, zero, List, [], ◌∷◌, ◌++◌, drop, length, slice_index_or, refl, ap, ◌∙◌, arith, add-one, append_assoc, Bool, true, false}
use Rattle.std.specs.Prelude.{◌&&◌, not}
use Rattle.std.proofs.lemmas.Bool.{and_parts}
use Rattle.x64_core.specs.View.{CoreView}
use Rattle.x64_lines.specs.declared.operands.LineOperand.{LineOperand}
use Rattle.x64_text.specs.Fixed.{all_named, is_named}
use Rattle.x64_text.specs.Text.{is_imm, none_printed, operands_text, piece, width_of}

-- Lists of operands, from a place on.

at_place : (operands : List LineOperand) (i : ℕ) (d : LineOperand) → i < length operands → drop i operands ≡ slice_index_or operands i d ∷ drop (suc i) operands
at_place [] i d h = absurd (omega (arith, h))
at_place (operand ∷ operands) zero d h = refl
at_place (operand ∷ operands) (suc i) d h = at_place operands i d (omega (arith, h))

pub not_imm : (operands : List LineOperand) (i : ℕ) (d : LineOperand) → i < length operands → width_of (drop i operands) ≡ width_of operands → is_imm (slice_index_or operands i d).home ≡ false → (slice_index_or operands i d).bits ≡ width_of operands
not_imm operands i d h e f = rw (at_place operands i d h, f) at e

pub behind_imm : (operands : List LineOperand) (i : ℕ) (d : LineOperand) → i < length operands → width_of (drop i operands) ≡ width_of operands → is_imm (slice_index_or operands i d).home ≡ true → width_of (drop (i + 1) operands) ≡ width_of operands
behind_imm operands i d h e f = rw add-one (rw (at_place operands i d h, f) at e)

pub width_end : (operands : List LineOperand) (i : ℕ) → length operands ≤ i → width_of (drop i operands) ≡ 64
width_end [] zero h = refl
width_end [] (suc i) h = refl
width_end (operand ∷ operands) zero h = absurd (omega (arith, h))
width_end (operand ∷ operands) (suc i) h = width_end operands i (omega (arith, h))

-- what is printed, from a place on

pub named_at : (operands : List LineOperand) (i : ℕ) (d : LineOperand) → i < length operands → all_named operands ≡ true → is_named (slice_index_or operands i d).home ≡ true
named_at [] i d h e = absurd (omega (arith, h))
named_at (operand ∷ operands) zero d h e = (and_parts (is_named operand.home) (all_named operands) e).0
named_at (operand ∷ operands) (suc i) d h e = named_at operands i d (omega (arith, h)) (and_parts (is_named operand.home) (all_named operands) e).1

-- the operand before those that are there
one_more : (operands : List LineOperand) (done : ℕ) (d : LineOperand) → done < length operands → drop (length operands - (done + 1)) operands ≡ slice_index_or operands (length operands - 1 - done) d ∷ drop (length operands - done) operands
one_more operands done d h =
    let here : length operands - (done + 1) ≡ length operands - 1 - done = omega (arith, h) in
    let next : suc (length operands - 1 - done) ≡ length operands - done = omega (arith, h) in
    ap (λ (i : ℕ). drop i operands) here
    ∙ at_place operands (length operands - 1 - done) d (omega (arith, h))
    ∙ ap (λ (i : ℕ). slice_index_or operands (length operands - 1 - done) d ∷ drop i operands) next

pub text_more : (v : CoreView) (operands : List LineOperand) (done : ℕ) (d : LineOperand) (first : Bool) (old before new : List ℕ) → done < length operands → before ≡ old ++ operands_text v (drop (length operands - done) operands) → first ≡ none_printed (drop (length operands - done) operands) → new ≡ before ++ piece v first (slice_index_or operands (length operands - 1 - done) d) → new ≡ old ++ operands_text v (drop (length operands - (done + 1)) operands)
text_more v operands done d first old before new h b f n =
    let here = one_more operands done d h in
    rw (here, n, b, f, append_assoc) refl

pub first_more : (operands : List LineOperand) (done : ℕ) (d : LineOperand) (first still : Bool) → done < length operands → first ≡ none_printed (drop (length operands - done) operands) → still ≡ (not (slice_index_or operands (length operands - 1 - done) d).is_printed && first) → still ≡ none_printed (drop (length operands - (done + 1)) operands)
first_more operands done d first still h f s = rw (one_more operands done d h, s, f) refl
