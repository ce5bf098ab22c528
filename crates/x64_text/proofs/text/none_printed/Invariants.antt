use Rattle.std.proofs.Common.{◌≡◌, drop}
use Rattle.x64_text.specs.Text.{none_printed}
use Rattle.x64_text.proofs.text.none_printed.Given as goal

-- none of those before is
abbrev pub invariant-loop-operand : goal.invariant-loop-operand
invariant-loop-operand l = none_printed (drop l.operand-index l.operands) ≡ none_printed l.operands
