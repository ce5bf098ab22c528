use Rattle.std.proofs.Common.{◌≡◌, ◌≢◌, ℕ, zero, suc, ◌*◌, ◌^◌, ◌<◌, ◌≤◌, arith, refl, ◌∙◌, ap, sym, ℤ, pos, Some, ◌*ℤ◌, ◌+ℤ◌, ◌-ℤ◌, ◌≤ℤ◌, ◌<ℤ◌}
use Rattle.std.specs.Int.{cast_unsigned, cast_signed, w8, w32}
use Rattle.std.specs.Int.RustNames.{FitsSigned, int_rem, int_div, unsigned_abs}
use Rattle.std.proofs.lemmas.Int.{ints, to_z-of_z, quot_rem_is, quot_fits, rem_below, quot-rem, unsigned_abs-mul}
use Rattle.std.proofs.Math.Nat.{mul-le-mul_left}
use Rattle.std.proofs.Math.IntN.{*ℤ_comm, *ℤ-zero, suc_ℤ-*ℤ}
use Rattle.cax64_machine_code.specs.Tail.{disp_at}
use Rattle.cax64_machine_code.proofs.Bytes.{s8_back, s32_back, one_back, four_back}
use Rattle.cax64_address.specs.Displacement.{GivesBack, IsClassOf}
use Rattle.cax64_address.specs.declared.disp.Disp.{Disp}
use Rattle.cax64_address.specs.declared.disp.Disp.TheVariants.{None, Imm8, Imm32}

pub zero_class : (n : ℕ) (value : ℤ) → value ≡ pos 0 → GivesBack n value None
unfolding disp_at
zero_class n value e = record { reads = λ rest. ap (λ (v : ℤ). Some (v, rest)) (sym e) }

pub byte_class : (n : ℕ) (value v : ℤ) → FitsSigned w8 v → v *ℤ pos n ≡ value → GivesBack n value (Imm8 v)
unfolding disp_at
byte_class n value v f e = record { reads = λ rest. rw (one_back (cast_unsigned w8 v) rest, s8_back v f, e) refl }

pub long_class : (n : ℕ) (value : ℤ) → FitsSigned w32 value → GivesBack n value (Imm32 value)
unfolding disp_at
long_class n value f = record { reads = λ rest. let small : cast_unsigned w32 value < 2 ^ 32 = omega (arith, ints) in rw (four_back (cast_unsigned w32 value) rest small, s32_back value f) refl }

times_suc : (m : ℤ) (n : ℕ) → m *ℤ pos (suc n) ≡ (m *ℤ pos n) +ℤ m
times_suc m n = *ℤ_comm m (pos (suc n)) ∙ suc_ℤ-*ℤ (pos n) m ∙ ap (λ (z : ℤ). z +ℤ m) (*ℤ_comm (pos n) m)

times_difference : (q d : ℤ) (n : ℕ) → (q -ℤ d) *ℤ pos n ≡ (q *ℤ pos n) -ℤ (d *ℤ pos n)
times_difference q d zero = rw (*ℤ-zero (q -ℤ d), *ℤ-zero q, *ℤ-zero d) refl
times_difference q d (suc n) = rw (times_suc (q -ℤ d) n, times_suc q n, times_suc d n, times_difference q d n) (omega (arith, ints))

above : (k : ℕ) → 1 ≤ suc k
above k = omega arith

no_part : (k : ℕ) (n r : ℕ) → r ≡ k * n → r < n → k ≡ 0
no_part zero n r e h = refl
no_part (suc k) n r e h = let m : n * 1 ≤ n * suc k = mul-le-mul_left n (above k) in absurd (omega arith)

-- the quotient of a multiple is the only one, and leaves nothing
pub only_quotient : (q d r : ℤ) (n : ℕ) → q *ℤ pos n ≡ (d *ℤ pos n) +ℤ r → unsigned_abs r < n → q ≡ d
only_quotient q d r n e h =
    let part : r ≡ (q *ℤ pos n) -ℤ (d *ℤ pos n) = omega (arith, ints) in
    let same : r ≡ (q -ℤ d) *ℤ pos n = part ∙ sym (times_difference q d n) in
    let size : unsigned_abs r ≡ unsigned_abs (q -ℤ d) * n = ap unsigned_abs same ∙ unsigned_abs-mul (q -ℤ d) (pos n) in
    let none : unsigned_abs (q -ℤ d) ≡ 0 = no_part (unsigned_abs (q -ℤ d)) n (unsigned_abs r) size h in
    omega (arith, ints, none)

-- the quotient that the program finds: what times the factor makes the value is nothing else, and leaves no remainder
pub quotient : (value s q : ℤ) → FitsSigned w32 value → pos 1 ≤ℤ s → FitsSigned w8 s → q *ℤ pos (unsigned_abs s) ≡ value → (q ≡ int_div value s) × (int_rem value s ≡ pos 0)
quotient value s q fv ps fs e =
    let abs : pos (unsigned_abs s) ≡ s = omega (arith, ints) in
    let below : unsigned_abs (int_rem value s) < unsigned_abs s = rem_below value s (omega (arith, ints)) in
    let parts : (int_div value s *ℤ pos (unsigned_abs s)) +ℤ int_rem value s ≡ value = rw abs (quot-rem value s) in
    let same : q ≡ int_div value s = only_quotient q (int_div value s) (int_rem value s) (unsigned_abs s) (e ∙ sym parts) below in
    let again : int_div value s *ℤ pos (unsigned_abs s) ≡ value = ap (λ (z : ℤ). z *ℤ pos (unsigned_abs s)) (sym same) ∙ e in
    (same, omega (arith, ints, parts, again))

-- the class of a displacement gives it back
pub class_back : (n : ℕ) (value : ℤ) (d : Disp) → FitsSigned w32 value → IsClassOf n value d → GivesBack n value d
class_back n value None f h = zero_class n value h
class_back n value (Imm8 v) f h = byte_class n value v h.1 h.2
class_back n value (Imm32 v) f h = rw h.1 (long_class n value f)

add_zero_z : (x : ℤ) → (x +ℤ pos 0) ≡ x
add_zero_z x = omega (arith, ints)

-- the factor as the program widens it
widened : (s r : ℤ) → FitsSigned w8 s → r ≡ cast_signed w8 (cast_unsigned w8 s) → cast_signed w32 (cast_unsigned w32 r) ≡ s
widened s r fs er = omega (arith, ints)

-- a quotient that the program finds to fit and to leave nothing is the class's
pub divided : (value s r v : ℤ) → FitsSigned w32 value → pos 1 ≤ℤ s → FitsSigned w8 s → r ≡ cast_signed w8 (cast_unsigned w8 s) → cast_unsigned w32 (int_rem (cast_signed w32 (cast_unsigned w32 value)) (cast_signed w32 (cast_unsigned w32 r))) ≡ 0 → v ≡ cast_signed w32 (cast_unsigned w32 (int_div (cast_signed w32 (cast_unsigned w32 value)) (cast_signed w32 (cast_unsigned w32 r)))) → v *ℤ pos (unsigned_abs s) ≡ value
divided value s r v fv ps fs er e0 ev =
    let same : r ≡ s = omega (arith, ints) in
    let fr : FitsSigned w32 r = omega (arith, ints) in
    let pr : pos 0 <ℤ r = omega (arith, ints) in
    let abs : pos (unsigned_abs s) ≡ r = omega (arith, ints) in
    let q = quot_rem_is w32 value r fv fr (quot_fits w32 value r fv pr) in
    let z : cast_signed w32 (cast_unsigned w32 (int_rem (cast_signed w32 (cast_unsigned w32 value)) (cast_signed w32 (cast_unsigned w32 r)))) ≡ pos 0 = ap (cast_signed w32) e0 in
    rw (abs, ev) (sym (add_zero_z _) ∙ ap (λ (x : ℤ). (cast_signed w32 (cast_unsigned w32 (int_div (cast_signed w32 (cast_unsigned w32 value)) (cast_signed w32 (cast_unsigned w32 r)))) *ℤ r) +ℤ x) (sym z) ∙ q)

-- where the program's remainder isn't 0, no byte is the quotient
pub not_divided : (value s r : ℤ) → FitsSigned w32 value → pos 1 ≤ℤ s → FitsSigned w8 s → r ≡ cast_signed w8 (cast_unsigned w8 s) → (cast_unsigned w32 (int_rem (cast_signed w32 (cast_unsigned w32 value)) (cast_signed w32 (cast_unsigned w32 r))) ≡ 0 → ⊥) → (q : ℤ) → FitsSigned w8 q → q *ℤ pos (unsigned_abs s) ≢ value
not_divided value s r fv ps fs er n q fq e =
    let k = quotient value s q fv ps fs e in
    n (rw (to_z-of_z w32 value fv, widened s r fs er, k.1) refl)

-- where the program's quotient doesn't fit, no byte is the quotient
pub not_fitting : (value s r : ℤ) → FitsSigned w32 value → pos 1 ≤ℤ s → FitsSigned w8 s → r ≡ cast_signed w8 (cast_unsigned w8 s) → (FitsSigned w8 (cast_signed w32 (cast_unsigned w32 (int_div (cast_signed w32 (cast_unsigned w32 value)) (cast_signed w32 (cast_unsigned w32 r))))) → ⊥) → (q : ℤ) → FitsSigned w8 q → q *ℤ pos (unsigned_abs s) ≢ value
not_fitting value s r fv ps fs er n q fq e =
    let k = quotient value s q fv ps fs e in
    let wide : FitsSigned w32 q = omega (arith, ints) in
    n (rw (to_z-of_z w32 value fv, widened s r fs er, ← k.0, to_z-of_z w32 q wide) fq)

-- without a factor the byte is the displacement itself
pub alone : (q : ℤ) → q *ℤ pos 1 ≡ q
alone q = times_suc q zero ∙ rw (*ℤ-zero q) (omega (arith, ints))
