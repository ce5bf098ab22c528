use Rattle.x64_lines.proofs.Table.{op_below}
use Rattle.x64_text.proofs.Table.{are_named}
use Rattle.x64_text.proofs.text.CoreCoreText.to_string.Goals as goal

pub push_operands-requires-clause-fixed : goal.push_operands-requires-clause-fixed
push_operands-requires-clause-fixed g c = rw c.operands-operands.ensures.list (are_named c.op-op.result.number (op_below c.op-op.result))
