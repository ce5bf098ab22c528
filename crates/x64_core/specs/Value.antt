use Rattle.std.specs.Prelude.{◌^◌, Bool, nat_lt, ℤ, pos, negsuc}

-- the values that immediates of one to four bytes have, unsigned or signed
abbrev pub is_imm_value : ℤ → Bool
is_imm_value (pos n) = nat_lt n (2 ^ 32)
is_imm_value (negsuc n) = nat_lt n (2 ^ 31)
