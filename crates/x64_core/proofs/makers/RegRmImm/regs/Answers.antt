use Rattle.std.proofs.Common.{refl, ◌∙◌}
use Rattle.x64_core.specs.Viewed.{viewed}
use Rattle.x64_lines.specs.declared.shapes.OpFields.TheVariants.{RegRm}
use Rattle.x64_core.proofs.MadeOf.{register_fits, fits_by, view_by}
use Rattle.x64_core.proofs.Viewed.{viewed_operand}
use Rattle.x64_core.proofs.makers.RegRmImm.regs.Goals as goal

pub invariant_of-result : goal.invariant_of-result
invariant_of-result g c = record { shape = fits_by _ RegRm g.I.CoreImm.kind c.args.reg 0 (viewed c.register.result) c.word.result c.args.self.fields c.args.self.imm (rw (register_fits RegRm c.register.result _ refl c.register.ensures, c.word.ensures.fits) refl) }

pub returns : goal.returns
returns g c = view_by c.args.self.op RegRm g.I.CoreImm.kind c.args.reg 0 (viewed c.register.result) c.word.result c.args.self.fields c.args.self.imm ∙ rw (viewed_operand c.register.result, c.register.ensures, c.word.ensures.value) refl
