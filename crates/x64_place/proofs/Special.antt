use Rattle.std.specs.Prelude.{ℕ, Bool, true, false, ◌≡◌, ◌+◌, ◌*◌, ◌/◌, ◌%◌, ◌<◌, nat_le, bit_or, max, zero, suc, refl}
use Rattle.std.specs.Int.{bit_at, from_bool}
use Rattle.std.specs.Int.Bits.{or_zero_r}
use Rattle.std.proofs.Common.{◌∙◌, ap, arith}
use Rattle.std.proofs.lemmas.Bool.Decides.{nat_tests}
use Rattle.std.proofs.lemmas.Nat.Bits.{bit_at_or, bit_at-lt}
use Rattle.x64_place.specs.Kind.{is_register}
use Rattle.x64_place.specs.Tail.{special_of}
use Rattle.x64_place.specs.declared.place.PlaceKind.{PlaceKind}
use Rattle.x64_place.specs.declared.place.PlaceKind.TheVariants.{Absent, Register, Base, BaseAndIndex, Label, Constant, NoTarget}

-- Whether the low bits of one of two registers are 4 to 7, by what both are together.

max_of_bits : (a b : ℕ) → a < 2 → b < 2 → max a b ≡ bit_or a b
max_of_bits zero zero ha hb = refl
max_of_bits zero (suc zero) ha hb = refl
max_of_bits (suc zero) zero ha hb = refl
max_of_bits (suc zero) (suc zero) ha hb = refl
max_of_bits (suc (suc a)) b ha hb = absurd (omega (arith, ha))
max_of_bits zero (suc (suc b)) ha hb = absurd (omega (arith, hb))
max_of_bits (suc zero) (suc (suc b)) ha hb = absurd (omega (arith, hb))

either : (a b : ℕ) → bit_or a b / 4 % 2 ≡ bit_or (a / 4 % 2) (b / 4 % 2)
either a b = bit_at_or a b 2 ∙ max_of_bits (bit_at a 2) (bit_at b 2) (bit_at-lt a 2) (bit_at-lt b 2)

fourth_when : (n : ℕ) (b : Bool) → nat_le 4 (n % 8) ≡ b → n * 1 / 4 % 2 ≡ from_bool b
fourth_when n true h = grind (arith, nat_tests, h)
fourth_when n false h = grind (arith, nat_tests, h)

times_zero : (n : ℕ) → n * 0 ≡ 0
times_zero n = omega arith

alone : (reg base : ℕ) → bit_or reg (base * 0) / 4 % 2 ≡ bit_or (reg / 4 % 2) 0
alone reg base = either reg (base * 0) ∙ ap (λ n. bit_or (reg / 4 % 2) (n / 4 % 2)) (times_zero base)

pub placed_special : (kind : PlaceKind) (reg base : ℕ) → bit_or reg (base * from_bool (is_register kind)) / 4 % 2 ≡ bit_or (reg / 4 % 2) (special_of kind base)
placed_special Register reg base = either reg (base * 1) ∙ ap (bit_or (reg / 4 % 2)) (fourth_when base (nat_le 4 (base % 8)) refl)
placed_special Absent reg base = alone reg base
placed_special Base reg base = alone reg base
placed_special BaseAndIndex reg base = alone reg base
placed_special Label reg base = alone reg base
placed_special Constant reg base = alone reg base
placed_special NoTarget reg base = alone reg base
