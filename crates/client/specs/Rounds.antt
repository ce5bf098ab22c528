-- The code of a loop.
use Rattle.std.specs.Prelude.{◌≡◌, ℕ, ◌+◌, pos, Some, List, [], ◌∷◌, length}
use Rattle.cranelift_assembler_x64.specs.MachineAddress.{modulo_64_bits}
use Rattle.cranelift_assembler_x64.specs.ReadLine.{LineReading}
use Rattle.x64_code_buffer.specs.Laid.{LinesRead, led_to}

-- Three instructions: a jump that leads to the end of the code, the loop's body, and a jump that leads to its beginning.
pub record GoesRound (code : List ℕ) : Type 0 where
  pub out : LineReading
  pub body : LineReading
  pub back : LineReading
  pub reads : LinesRead (out ∷ body ∷ back ∷ []) code
  pub leaves : led_to out.imm out.length ≡ Some (modulo_64_bits (pos (length code)))
  pub returns : led_to back.imm (out.length + body.length + back.length) ≡ Some (modulo_64_bits (pos 0))
