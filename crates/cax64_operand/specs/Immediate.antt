use Rattle.std.specs.Prelude.{ℕ, ◌^◌, nat_lt, Bool, Option, Some, None, ℤ, pos, negsuc}
use Rattle.cax64_operand.specs.declared.immediate.Immediate.{Immediate}
use Rattle.cax64_operand.specs.declared.immediate.Immediate.TheVariants.{Imm8, Imm16, Imm32, Simm8, Simm32, Distance8, Distance32, Predicate, VexPredicate}
use Rattle.cax64_operand.specs.declared.immediate.ImmOperand.{ImmOperand}
use Rattle.cax64_operand.specs.declared.immediate.ImmOperand.TheVariants as bytes

-- an immediate as it stands in the bytes
abbrev pub imm_of : Immediate → ImmOperand
imm_of (Imm8 v) = bytes.Imm8 v
imm_of (Imm16 v) = bytes.Imm16 v
imm_of (Imm32 v) = bytes.Imm32 v
imm_of (Simm8 v extension) = bytes.Simm8 v
imm_of (Simm32 v extension) = bytes.Simm32 v
imm_of (Distance8 v) = bytes.Simm8 v
imm_of (Distance32 v) = bytes.Simm32 v
imm_of (Predicate v) = bytes.Imm8 v
imm_of (VexPredicate v) = bytes.Imm8 v

-- its value, and how many bytes it has

abbrev pub imm_value : ImmOperand → ℤ
imm_value (bytes.Imm8 v) = pos v
imm_value (bytes.Imm16 v) = pos v
imm_value (bytes.Imm32 v) = pos v
imm_value (bytes.Simm8 v) = v
imm_value (bytes.Simm32 v) = v

abbrev pub imm_size : Option ImmOperand → ℕ
imm_size None = 0
imm_size (Some (bytes.Imm8 v)) = 1
imm_size (Some (bytes.Imm16 v)) = 2
imm_size (Some (bytes.Imm32 v)) = 4
imm_size (Some (bytes.Simm8 v)) = 1
imm_size (Some (bytes.Simm32 v)) = 4

-- whether it is within the range of its type

abbrev pub signed_below : ℕ → ℤ → Bool
signed_below n (pos v) = nat_lt v n
signed_below n (negsuc v) = nat_lt v n

abbrev pub imm_in_range : ImmOperand → Bool
imm_in_range (bytes.Imm8 v) = nat_lt v (2 ^ 8)
imm_in_range (bytes.Imm16 v) = nat_lt v (2 ^ 16)
imm_in_range (bytes.Imm32 v) = nat_lt v (2 ^ 32)
imm_in_range (bytes.Simm8 v) = signed_below (2 ^ 7) v
imm_in_range (bytes.Simm32 v) = signed_below (2 ^ 31) v
