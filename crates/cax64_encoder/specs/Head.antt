use Rattle.std.specs.Prelude.{◌≡◌, ℕ, Option, List, ◌++◌}
use Rattle.cax64_machine_code.specs.Line.{opcode_bytes}
use Rattle.cax64_machine_code.specs.declared.line.Line.{Line}
use Rattle.cax64_encoder.specs.Numbered.{plain}
use Rattle.cax64_encoder.specs.Prefix.{PrefixFor}
use Rattle.cax64_encoder.specs.declared.number.Number.{Number}
use Rattle.cax64_encoder.specs.declared.role.PlaceOperand.{PlaceOperand}

-- a prefix that a line's operands go with, and the opcode
pub record IsHead (line : Line) (reg : ℕ) (vvvv : Option Number) (operand : PlaceOperand ℕ) (bytes : List ℕ) : Type 0 where
  pub pre : List ℕ
  pub is : bytes ≡ pre ++ opcode_bytes line.opcode
  pub prefix : PrefixFor plain.enc line reg vvvv operand pre
