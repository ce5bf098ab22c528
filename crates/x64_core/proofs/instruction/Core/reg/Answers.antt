use Rattle.std.proofs.Common.{◌≡◌, refl, sym, ◌∙◌, true, false}
use Rattle.x64_lines.specs.Shape.{has_reg, shape_of}
use Rattle.x64_lines.proofs.Facts.{facts}
use Rattle.x64_core.proofs.instruction.Core.reg.Goals as goal

pub returns-then-has_reg : goal.returns-then-has_reg
returns-then-has_reg c =
    let there : has_reg (shape_of c.args.self.now.op.number).fields ≡ true = (rw c.shape.ensures.is at (sym c.has_reg.ensures)) ∙ c.if-has_reg.true in
    rw ((facts c.args.self.now.op).reg ∙ there) refl

pub returns-else-has_reg : goal.returns-else-has_reg
returns-else-has_reg c =
    let there : has_reg (shape_of c.args.self.now.op.number).fields ≡ false = (rw c.shape.ensures.is at (sym c.has_reg.ensures)) ∙ c.if-has_reg.false in
    rw ((facts c.args.self.now.op).reg ∙ there) refl
