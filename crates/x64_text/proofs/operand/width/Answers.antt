use Rattle.std.proofs.Common.{◌∙◌, sym}
use Rattle.x64_text.proofs.Lists.{behind_imm, not_imm, width_end}
use Rattle.x64_text.proofs.operand.width.Goals as goal

pub returns-then-not-is_imm : goal.returns-then-not-is_imm
returns-then-not-is_imm c = not_imm c.args.operands.now c.loop-operand.operand-index _ c.loop-operand-test.true c.loop-operand.invariant (sym c.is_imm.ensures ∙ c.if-not-is_imm.true)

pub loop-operand-preserved : goal.loop-operand-preserved
loop-operand-preserved c = behind_imm c.args.operands.now c.loop-operand.operand-index _ c.loop-operand-test.true c.loop-operand.invariant (sym c.is_imm.ensures ∙ c.if-not-is_imm.false)

pub returns : goal.returns
returns c = sym (width_end c.args.operands.now c.loop-operand.operand-index c.loop-operand-test.false) ∙ c.loop-operand.invariant
