use Rattle.std.proofs.Common.{◌≡◌, drop}
use Rattle.x64_text.specs.Text.{width_of}
use Rattle.x64_text.proofs.operand.width.Given as goal

-- those before say nothing
abbrev pub invariant-loop-operand : goal.invariant-loop-operand
invariant-loop-operand l = width_of (drop l.operand-index l.operands) ≡ width_of l.operands
