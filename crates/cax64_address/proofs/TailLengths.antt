use Rattle.std.proofs.Common.{◌≡◌, ◌≢◌, ℕ, suc, ◌%◌, ◌<◌, arith, refl, ap, ℤ, pos, Some, Bool, true, false}
use Rattle.std.specs.Prelude as std
use Rattle.std.specs.Prelude.{◌==◌, ◌≤ℤ◌, IfSome}
use Rattle.std.proofs.lemmas.Bool.Decides.{nat_tests}
use Rattle.std.proofs.lemmas.Int.{ints}
use Rattle.cax64_machine_code.specs.Len.{at_least_one, least_tail}
use Rattle.cax64_machine_code.specs.declared.reading.Place.{Place}
use Rattle.cax64_machine_code.specs.declared.reading.Place.TheVariants.{Reg, Mem, Rip}
use Rattle.cax64_address.specs.Displacement.{IsClassOf, factor_of, forced}
use Rattle.cax64_address.specs.Length.{disp_len_under, base_disp_len_under, least_tail_under}
use Rattle.cax64_address.specs.declared.disp.Disp.{Disp}
use Rattle.cax64_address.specs.declared.disp.Disp.TheVariants.{None, Imm8, Imm32}
use Rattle.cax64_address.proofs.Emits.{Chosen, disp_length, differ}
use Rattle.cax64_address.proofs.FactorLengths.{length_of_class, disp_alone}

-- how many bytes are put for a tail

pub some_factor : (scaling : std.Option ℤ) → IfSome scaling (λ n. pos 1 ≤ℤ n) → 0 < factor_of scaling
some_factor (Some n) h = omega (arith, ints)
some_factor std.None h = omega arith

forced_length : (f : ℕ) (v : ℤ) (d : Disp) → 0 < f → IsClassOf f v d → at_least_one (disp_len_under f v) ≡ disp_length (forced d)
forced_length f v None positive h = ap at_least_one (length_of_class f v None positive h)
forced_length f v (Imm8 q) positive h = ap at_least_one (length_of_class f v (Imm8 q) positive h)
forced_length f v (Imm32 w) positive h = ap at_least_one (length_of_class f v (Imm32 w) positive h)

by_low : (f base : ℕ) (v : ℤ) (d e : Disp) (five : Bool) → (base % 8 == 5) ≡ five → 0 < f → Chosen f base v d e → base_disp_len_under f base v ≡ disp_length e
by_low f base v d e true is positive h =
    let low : base % 8 ≡ 5 = grind (arith, nat_tests) in
    rw (is, h.five low) (forced_length f v d positive h.class)
by_low f base v d e false is positive h =
    let low : base % 8 ≢ 5 = grind (arith, nat_tests) in
    rw (is, h.other low) (length_of_class f v d positive h.class)

chosen_length : (f base : ℕ) (v : ℤ) (d e : Disp) → 0 < f → Chosen f base v d e → base_disp_len_under f base v ≡ disp_length e
chosen_length f base v d e positive h = by_low f base v d e (base % 8 == 5) refl positive h

-- ModR/M alone
pub base_length : (f base : ℕ) (v : ℤ) (d e : Disp) → 0 < f → Chosen f base v d e → base % 8 ≢ 4 → suc (disp_length e) ≡ least_tail_under f (Mem (Some base) std.None v)
base_length f base v d e positive h h4 = rw (differ (base % 8) 4 h4, chosen_length f base v d e positive h) (omega arith)

same_number : (a b : ℕ) → a ≡ b → (a == b) ≡ true
same_number a b h = grind (arith, nat_tests)

-- ModR/M, and a SIB byte with no index
pub stack_length : (f base : ℕ) (v : ℤ) (d e : Disp) → 0 < f → Chosen f base v d e → base % 8 ≡ 4 → suc (suc (disp_length e)) ≡ least_tail_under f (Mem (Some base) std.None v)
stack_length f base v d e positive h h4 = rw (same_number (base % 8) 4 h4, chosen_length f base v d e positive h) (omega arith)

-- ModR/M, and a SIB byte with one
pub index_length : (f base : ℕ) (index : ℕ × ℕ) (v : ℤ) (d e : Disp) → 0 < f → Chosen f base v d e → suc (suc (disp_length e)) ≡ least_tail_under f (Mem (Some base) (Some index) v)
index_length f base index v d e positive h = rw (chosen_length f base v d e positive h) (omega arith)

-- without a factor
pub alone_length : (place : Place) → least_tail_under 1 place ≡ least_tail place
alone_length (Reg view) = refl
alone_length (Mem std.None index disp) = refl
alone_length (Mem (Some base) index disp) = rw (disp_alone disp) refl
alone_length (Rip disp) = refl

pub without_factor : (scaling : std.Option ℤ) (place : Place) → scaling ≡ std.None → least_tail_under (factor_of scaling) place ≡ least_tail place
without_factor (Some n) place h = cc
without_factor std.None place h = alone_length place
