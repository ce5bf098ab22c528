-- A displacement and the offset that a sink knows, added to it.
use Rattle.std.specs.Prelude.{ℕ, ◌^◌, nat_lt, ℤ, pos, negsuc, ◌+ℤ◌, Option, Some, None, Bool, true, false}

abbrev pub fits_i32 : ℤ → Bool
fits_i32 (pos n) = nat_lt n (2 ^ 31)
fits_i32 (negsuc n) = nat_lt n (2 ^ 31)

abbrev pub late_fits : Option ℤ → ℤ → Bool
late_fits None simm32 = false
late_fits (Some known) simm32 = fits_i32 (known +ℤ simm32)

-- the late offset is absent, or known with a sum that is an i32
abbrev pub sum_fits : (ℕ → Option ℤ) → Option ℕ → ℤ → Bool
sum_fits offsets None simm32 = true
sum_fits offsets (Some key) simm32 = late_fits (offsets key) simm32

abbrev pub late_sum : Option ℤ → ℤ → ℤ
late_sum None simm32 = simm32
late_sum (Some known) simm32 = known +ℤ simm32

-- the displacement with the late offset added
abbrev pub sum_of : (ℕ → Option ℤ) → Option ℕ → ℤ → ℤ
sum_of offsets None simm32 = simm32
sum_of offsets (Some key) simm32 = late_sum (offsets key) simm32
