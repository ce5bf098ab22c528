use Rattle.std.specs.Prelude.{ℕ, ◌*◌, ◌-◌, ◌^◌, Bool, false, nat_lt, Option, Some, None, is_none, ℤ, pos, negsuc}
use Rattle.cax64_machine_code.specs.declared.line.ImmField.{ImmField}
use Rattle.cax64_machine_code.specs.declared.line.ImmField.TheVariants.{NoImm, Imm, Simm}

-- An immediate that is read is in the range of its bytes.

abbrev pub unsigned_below : ℕ → ℤ → Bool
unsigned_below limit (pos n) = nat_lt n limit
unsigned_below limit (negsuc n) = false

abbrev pub signed_below : ℕ → ℤ → Bool
signed_below limit (pos n) = nat_lt n limit
signed_below limit (negsuc n) = nat_lt n limit

abbrev pub in_range : ImmField → Option ℤ → Bool
in_range NoImm value = is_none value
in_range (Imm size) None = false
in_range (Imm size) (Some value) = unsigned_below (256 ^ size) value
in_range (Simm size) None = false
in_range (Simm size) (Some value) = signed_below (2 ^ (8 * size - 1)) value
