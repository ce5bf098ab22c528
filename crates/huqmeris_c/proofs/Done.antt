use Rattle.std.proofs.Common.{◌≡◌, ap, Option, Some}
use Rattle.std.specs.Prelude.{unwrap_or}
use Rattle.cax64_machine_code.specs.ReadLine.{LineReading}

-- What is told of an instruction that was encoded.

pub some_is : (a b : LineReading) → ◌≡◌ {A = Option LineReading} (Some a) (Some b) → a ≡ b
some_is a b h = ap (λ (o : Option LineReading). unwrap_or o a) h
