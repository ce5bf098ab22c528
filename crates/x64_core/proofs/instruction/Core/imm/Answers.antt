use Rattle.std.proofs.Common.{refl}
use Rattle.x64_lines.proofs.Facts.{facts}
use Rattle.x64_core.proofs.instruction.Core.imm.Goals as goal

pub returns-clause-value : goal.returns-clause-value
returns-clause-value c = rw (c.word_value.ensures.value, c.shape.ensures.is, (facts c.args.self.now.op).imm) refl
