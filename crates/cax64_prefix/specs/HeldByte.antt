use Rattle.std.specs.Prelude.{◌≡◌, ℕ, ◌/◌, Option, Some, None, IfSome, option_map}
use Rattle.std.proofs.Common.{arith, ap, refl}
use Rattle.cax64_machine_code.specs.Prefix.{rex_of}
use Rattle.cax64_prefix.specs.Rex.{rex_byte}

-- What a `RexPrefix` holds, and that its bits tell it.

-- a byte from 40 to 4F, or none
abbrev pub IsRexByte : Option ℕ → Type 0
IsRexByte byte = IfSome byte (λ b. b / 16 ≡ 4)

pub rex_byte-rex_of : (byte : Option ℕ) → IsRexByte byte → option_map rex_byte (option_map rex_of byte) ≡ byte
rex_byte-rex_of None h = refl
rex_byte-rex_of (Some byte) h = let e : rex_byte (rex_of byte) ≡ byte = omega arith in ap Some e
