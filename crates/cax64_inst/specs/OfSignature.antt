use Rattle.cax64_machine_code.specs.declared.row.Row.{Row}
use Rattle.cax64_operand.specs.Signature.{HasSignature}
use Rattle.cax64_operand.specs.declared.operand.Operands.{Operands}

-- Operands have their row's signature: one word, which the search of a proof leaves as it is. A word of the proofs' own
-- steps.
unfoldable pub OfSignature : {R A B C D E F : Type 0} → Row → Operands R A B C D E F → Type 0
OfSignature row operands = HasSignature row operands
