use Rattle.std.specs.Prelude.{ℕ, ◌-◌, ◌^◌, nat_lt, if◌then◌else◌, Option, Some, None, ℤ, pos, negsuc, ◌==◌}
use Rattle.huqmeris_c.specs.declared.make.TheConstants.{HQ_NO_REG}

-- What an argument gives: a register by its number, none from `HQ_NO_REG` on.
abbrev pub register_given : ℕ → Option ℕ
register_given number = if nat_lt number HQ_NO_REG then Some number else None

-- an immediate by its value, none by the least one
abbrev pub imm_given : ℤ → Option ℤ
imm_given (pos n) = Some (pos n)
imm_given (negsuc n) = if n == 2 ^ 63 - 1 then None else Some (negsuc n)
