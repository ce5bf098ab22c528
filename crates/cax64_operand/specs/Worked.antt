use Rattle.std.specs.Prelude.{ℕ}
use Rattle.cax64_machine_code.specs.declared.row.Row.{Row}
use Rattle.cax64_operand.specs.declared.instruction.Numbers.{Numbers}
use Rattle.cax64_operand.specs.declared.operand.Operands.{Operands}
use Rattle.cax64_operand.specs.Signature.{HasSignature}

-- a signature over registers that are plain numbers
abbrev pub Has : Row → Operands Numbers ℕ ℕ ℕ ℕ ℕ ℕ → Type 0
Has row operands = HasSignature row operands
