use Rattle.std.specs.Prelude.{ℕ, ◌==◌, ◌&&◌, not, nat_lt, Bool, false, if◌then◌else◌}
use Rattle.cax64_encoder.specs.declared.number.Number.{Number}
use Rattle.cax64_encoder.specs.declared.number.Number.TheVariants.{Settled, Unsettled}

-- Registers by their numbers.

-- the number of a register, where it is settled
abbrev pub number_of : {R : Type 0} → (R → Bool) → (R → ℕ) → R → Number
number_of settled enc reg = if settled reg then Settled (enc reg) else Unsettled

-- that number, and 0 where there is none
abbrev pub number_value : Number → ℕ
number_value (Settled number) = number
number_value Unsettled = 0

abbrev pub is_real_number : Number → Bool
is_real_number (Settled number) = nat_lt number 16
is_real_number Unsettled = false

abbrev pub is_number : Number → ℕ → Bool
is_number (Settled number) expected = number == expected
is_number Unsettled expected = false

-- as an index, real and not number 4, which means none
abbrev pub is_index_number : Number → Bool
is_index_number number = is_real_number number && not (is_number number 4)
