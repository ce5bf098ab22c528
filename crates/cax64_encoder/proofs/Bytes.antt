use Rattle.std.proofs.Common.{◌≡◌, ℕ, ◌/◌, ◌%◌, ◌<◌, ◌^◌, arith, Bool, true, false, Option, Some, None, List, [], ◌∷◌, ◌++◌, ℤ, pos, negsuc}
use Rattle.std.specs.Prelude.{nat_lt, IfSome}
use Rattle.std.specs.Int.{cast_unsigned, w8, w16, w32, to_le_bytes}
use Rattle.std.proofs.lemmas.Bool.{and_parts}
use Rattle.std.proofs.lemmas.Bool.Decides.{nat_tests}
use Rattle.std.proofs.lemmas.Int.{ints}
use Rattle.std.proofs.lemmas.List.Elements.{All-nil, All-cons, All-append}
use Rattle.cax64_machine_code.specs.Fields.{IsBytes}
use Rattle.cax64_machine_code.specs.Prefix.{Rex}
use Rattle.cax64_machine_code.specs.declared.line.ImmField.{ImmField}
use Rattle.cax64_machine_code.specs.declared.line.Opcode.{Opcode}
use Rattle.cax64_operand.specs.Immediate.{imm_in_range}
use Rattle.cax64_operand.specs.Shape.{imm_fits, imm_has_size}
use Rattle.cax64_operand.specs.declared.immediate.ImmOperand.{ImmOperand}
use Rattle.cax64_operand.specs.declared.immediate.ImmOperand.TheVariants.{Imm8, Imm16, Imm32, Simm8, Simm32}
use Rattle.cax64_prefix.specs.Rex.{rex_bytes}
use Rattle.cax64_prefix.proofs.RexBits.{AreBits}
use Rattle.cax64_sink.specs.Run.{all_bytes}
use Rattle.cax64_machine_code.specs.Line.{opcode_bytes}
use Rattle.cax64_sink.proofs.PutRuns.{all_bytes-puts}
use Rattle.cax64_encoder.proofs.Opcode.{opcode_actions}
use Rattle.cax64_encoder.specs.ImmActions.{imm_actions, optional_imm_actions}

-- what is put are bytes

pub no_bytes : IsBytes []
no_bytes = All-nil (λ (byte : ℕ). byte < 256)

pub more_bytes : (byte : ℕ) (bytes : List ℕ) → byte < 256 → IsBytes bytes → IsBytes (byte ∷ bytes)
more_bytes byte bytes small h = All-cons (λ (byte : ℕ). byte < 256) byte bytes small h

pub both_bytes : (a b : List ℕ) → IsBytes a → IsBytes b → IsBytes (a ++ b)
both_bytes a b ha hb = All-append (λ (byte : ℕ). byte < 256) a b ha hb

pub one_byte : (byte : ℕ) → byte < 256 → IsBytes (byte ∷ [])
one_byte byte h = more_bytes byte [] h no_bytes

two_bytes : (n : ℕ) → IsBytes (to_le_bytes w16 n)
two_bytes n = more_bytes (n % 256) (n / 256 % 256 ∷ []) (omega arith) (one_byte (n / 256 % 256) (omega arith))

four_bytes : (n : ℕ) → IsBytes (to_le_bytes w32 n)
four_bytes n = more_bytes (n % 256) (n / 256 % 256 ∷ n / 65536 % 256 ∷ n / 16777216 % 256 ∷ []) (omega arith) (more_bytes (n / 256 % 256) (n / 65536 % 256 ∷ n / 16777216 % 256 ∷ []) (omega arith) (more_bytes (n / 65536 % 256) (n / 16777216 % 256 ∷ []) (omega arith) (one_byte (n / 16777216 % 256) (omega arith))))

small : (a b : ℕ) → nat_lt a b ≡ true → a < b
small a b h = grind (arith, nat_tests)

signed : (v : ℤ) → imm_in_range (Simm8 v) ≡ true → cast_unsigned w8 v < 256
signed (pos v) h = let k : v < 128 = small v (2 ^ 7) h in omega (arith, ints)
signed (negsuc v) h = let k : v < 128 = small v (2 ^ 7) h in omega (arith, ints)

imm_bytes_of : (imm : ImmOperand) → imm_in_range imm ≡ true → IsBytes (all_bytes (imm_actions imm))
imm_bytes_of (Imm8 v) h = one_byte v (small v 256 h)
imm_bytes_of (Imm16 v) h = two_bytes v
imm_bytes_of (Imm32 v) h = four_bytes v
imm_bytes_of (Simm8 v) h = one_byte (cast_unsigned w8 v) (signed v h)
imm_bytes_of (Simm32 v) h = four_bytes (cast_unsigned w32 v)

pub imm_are_bytes : (field : ImmField) (imm : Option ImmOperand) → imm_fits field imm ≡ true → IsBytes (all_bytes (optional_imm_actions imm))
imm_are_bytes field None h = no_bytes
imm_are_bytes field (Some imm) h = imm_bytes_of imm (and_parts (imm_has_size field imm) (imm_in_range imm) h).1

pub opcode_are_bytes : (opcode : Opcode) → nat_lt opcode.byte 256 ≡ true → IsBytes (all_bytes (opcode_actions opcode))
opcode_are_bytes opcode h = rw (all_bytes-puts (opcode_bytes opcode)) (by_escape opcode.escape)
  where
    by_escape : (escape : Bool) → IsBytes (opcode_bytes (record { escape = escape; byte = opcode.byte }))
    by_escape true = more_bytes 0x0F (opcode.byte ∷ []) (omega arith) (one_byte opcode.byte (small opcode.byte 256 h))
    by_escape false = one_byte opcode.byte (small opcode.byte 256 h)

pub rex_are_bytes : (rex : Option Rex) → IfSome rex AreBits → IsBytes (rex_bytes rex)
rex_are_bytes None h = no_bytes
rex_are_bytes (Some rex) h = one_byte _ (omega (arith, h.w, h.r, h.x, h.b))
