use Rattle.std.proofs.Common.{◌≡◌, ◌≢◌, ℕ, zero, suc, ◌+◌, ◌*◌, ◌/◌, ◌%◌, ◌<◌, ◌≤◌, arith, refl, ◌∙◌, ap, sym, ℤ, pos, negsuc, Bool, true, false, ◌&&◌}
use Rattle.std.specs.Prelude.{◌==◌, nat_lt, nat_le, ◌*ℤ◌, ◌-ℤ◌}
use Rattle.std.specs.Int.{w8}
use Rattle.std.specs.Int.RustNames.{FitsSigned}
use Rattle.std.proofs.lemmas.Bool.Decides.{nat_tests}
use Rattle.std.proofs.lemmas.Int.{ints}
use Rattle.std.proofs.Math.IntN.{neg_ℤ, pos-*ℤ-pos, negsuc-*ℤ-pos}
use Rattle.std.proofs.Math.Nat.{mul-mod_left, mul-div_cancel, mod-eq-sub-div-mul, div-mul-le_self}
use Rattle.cax64_machine_code.specs.Len.{disp_len}
use Rattle.cax64_address.specs.Displacement.{IsClassOf}
use Rattle.cax64_address.specs.Length.{byte_holds, disp_len_under}
use Rattle.cax64_address.specs.declared.disp.Disp.{Disp}
use Rattle.cax64_address.specs.declared.disp.Disp.TheVariants.{None, Imm8, Imm32}
use Rattle.cax64_address.proofs.Emits.{disp_length, differ}

-- how many bytes a class has, by its factor

pub below : (a b : ℕ) → a < b → nat_lt a b ≡ true
below a b h = grind (arith, nat_tests)

at_most : (a b : ℕ) → a ≤ b → nat_le a b ≡ true
at_most a b h = grind (arith, nat_tests)

is_below : (a b : ℕ) → nat_lt a b ≡ true → a < b
is_below a b h = grind (arith, nat_tests)

is_at_most : (a b : ℕ) → nat_le a b ≡ true → a ≤ b
is_at_most a b h = grind (arith, nat_tests)

is_zero : (a : ℕ) → (a == 0) ≡ true → a ≡ 0
is_zero a h = grind (arith, nat_tests)

both : (a b : Bool) → (a && b) ≡ true → (a ≡ true) × (b ≡ true)
both true b h = (refl, h)
both false b h = cc

multiple : (m f n : ℕ) → 0 < f → n ≡ m * f → (n % f ≡ 0) × (n / f ≡ m)
multiple m f n positive e = (rw e (mul-mod_left m f), rw e (mul-div_cancel m positive))

back : (f n : ℕ) → n % f ≡ 0 → n / f * f ≡ n
back f n e = omega (arith, e, mod-eq-sub-div-mul n f, div-mul-le_self n f)

negated : (n : ℕ) → neg_ℤ (pos n) ≡ (pos 0 -ℤ pos n)
negated n = omega (arith, ints)

-- where some signed byte times the factor is the displacement, a byte holds it
held : (f : ℕ) (v q : ℤ) → 0 < f → v ≢ pos 0 → FitsSigned w8 q → q *ℤ pos f ≡ v → byte_holds f v ≡ true
held f (pos n) (pos a) positive nz fits e =
    let is : n ≡ a * f = omega (arith, ints, pos-*ℤ-pos a f, e) in
    let m = multiple a f n positive is in
    rw (m.0, m.1) (below a 128 (omega (arith, ints)))
held f (pos n) (negsuc a) positive nz fits e =
    let is : (pos 0 -ℤ pos (suc a * f)) ≡ pos n = sym (negated (suc a * f)) ∙ sym (negsuc-*ℤ-pos a f) ∙ e in
    let none : n ≡ 0 = omega (arith, ints, is) in
    absurd (nz (ap pos none))
held f (negsuc n) (pos a) positive nz fits e =
    let is : pos (a * f) ≡ negsuc n = sym (pos-*ℤ-pos a f) ∙ e in
    cc
held f (negsuc n) (negsuc a) positive nz fits e =
    let same : (pos 0 -ℤ pos (suc a * f)) ≡ negsuc n = sym (negated (suc a * f)) ∙ sym (negsuc-*ℤ-pos a f) ∙ e in
    let is : n + 1 ≡ suc a * f = omega (arith, ints, same) in
    let m = multiple (suc a) f (n + 1) positive is in
    rw (m.0, m.1) (at_most (suc a) 128 (omega (arith, ints)))

small_fits : (m : ℕ) → m < 128 → FitsSigned w8 (pos m)
small_fits m h = omega (arith, ints)

negative_fits : (m : ℕ) → m < 128 → FitsSigned w8 (negsuc m)
negative_fits m h = omega (arith, ints)

negative_quotient : (f n m : ℕ) → m * f ≡ n + 1 → m ≤ 128 → (q : ℤ) × FitsSigned w8 q × (q *ℤ pos f ≡ negsuc n)
negative_quotient f n zero e small = absurd (omega (arith, e))
negative_quotient f n (suc k) e small =
    let minus : (pos 0 -ℤ pos (suc k * f)) ≡ negsuc n = omega (arith, ints, e) in
    (negsuc k, negative_fits k (omega arith), negsuc-*ℤ-pos k f ∙ negated (suc k * f) ∙ minus)

-- where a byte holds the displacement, some signed byte times the factor is it
holds : (f : ℕ) (v : ℤ) → byte_holds f v ≡ true → (q : ℤ) × FitsSigned w8 q × (q *ℤ pos f ≡ v)
holds f (pos n) h =
    let k = both (n % f == 0) (nat_lt (n / f) 128) h in
    (pos (n / f), small_fits (n / f) (is_below (n / f) 128 k.1), pos-*ℤ-pos (n / f) f ∙ ap pos (back f n (is_zero (n % f) k.0)))
holds f (negsuc n) h =
    let k = both ((n + 1) % f == 0) (nat_le ((n + 1) / f) 128) h in
    negative_quotient f n ((n + 1) / f) (back f (n + 1) (is_zero ((n + 1) % f) k.0)) (is_at_most ((n + 1) / f) 128 k.1)

held_length : (f : ℕ) (v : ℤ) → v ≢ pos 0 → byte_holds f v ≡ true → disp_len_under f v ≡ 1
held_length f (pos n) nz h =
    let zero : n ≢ 0 = λ e. nz (ap pos e) in
    rw (differ n 0 zero, h) refl
held_length f (negsuc n) nz h = rw h refl

long_length : (f : ℕ) (v : ℤ) → v ≢ pos 0 → byte_holds f v ≡ false → disp_len_under f v ≡ 4
long_length f (pos n) nz h =
    let zero : n ≢ 0 = λ e. nz (ap pos e) in
    rw (differ n 0 zero, h) refl
long_length f (negsuc n) nz h = rw h refl

not_held : (f : ℕ) (v : ℤ) (t : Bool) → byte_holds f v ≡ t → ((q : ℤ) → FitsSigned w8 q → q *ℤ pos f ≢ v) → byte_holds f v ≡ false
not_held f v true h none = let q = holds f v h in absurd (none q.0 q.1 q.2)
not_held f v false h none = h

-- a class has as many bytes as its displacement under the factor
pub length_of_class : (f : ℕ) (v : ℤ) (d : Disp) → 0 < f → IsClassOf f v d → disp_len_under f v ≡ disp_length d
length_of_class f v None positive h = rw h refl
length_of_class f v (Imm8 q) positive h = held_length f v h.0 (held f v q positive h.0 h.1 h.2)
length_of_class f v (Imm32 w) positive h = long_length f v h.0 (not_held f v (byte_holds f v) refl h.2)

-- without a factor, which is a factor of 1

by_one : (n : ℕ) → (n % 1 ≡ 0) × (n / 1 ≡ n)
by_one n = multiple n 1 n (omega arith) (omega arith)

same_test : (n : ℕ) → nat_le (n + 1) 128 ≡ nat_lt n 128
same_test n = grind (arith, nat_tests)

pub disp_alone : (v : ℤ) → disp_len_under 1 v ≡ disp_len v
disp_alone (pos n) = rw ((by_one n).0, (by_one n).1) refl
disp_alone (negsuc n) = rw ((by_one (n + 1)).0, (by_one (n + 1)).1, same_test n) refl
