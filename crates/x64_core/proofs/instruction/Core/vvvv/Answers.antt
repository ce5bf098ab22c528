use Rattle.std.proofs.Common.{◌≡◌, refl, sym, ◌∙◌, true, false}
use Rattle.x64_lines.specs.Shape.{has_vvvv, shape_of}
use Rattle.x64_lines.proofs.Facts.{facts}
use Rattle.x64_core.proofs.instruction.Core.vvvv.Goals as goal

pub returns-then-has_vvvv : goal.returns-then-has_vvvv
returns-then-has_vvvv c =
    let there : has_vvvv (shape_of c.args.self.now.op.number).fields ≡ true = (rw c.shape.ensures.is at (sym c.has_vvvv.ensures)) ∙ c.if-has_vvvv.true in
    rw ((facts c.args.self.now.op).vvvv ∙ there) refl

pub returns-else-has_vvvv : goal.returns-else-has_vvvv
returns-else-has_vvvv c =
    let there : has_vvvv (shape_of c.args.self.now.op.number).fields ≡ false = (rw c.shape.ensures.is at (sym c.has_vvvv.ensures)) ∙ c.if-has_vvvv.false in
    rw ((facts c.args.self.now.op).vvvv ∙ there) refl
