-- which registers an instruction can hold
use Rattle.std.specs.Prelude.{ℕ, Bool, ◌&&◌, ◌==◌, not, nat_lt}

-- the register has a hardware number, and that number is below 16
abbrev pub is_real : {R : Type 0} → (R → Bool) → (R → ℕ) → R → Bool
is_real settled enc r = settled r && nat_lt (enc r) 16

-- the register is real, and not the stack pointer
abbrev pub is_real_non_rsp : {R : Type 0} → (R → Bool) → (R → ℕ) → R → Bool
is_real_non_rsp settled enc r = is_real settled enc r && not (enc r == 4)
