use Rattle.std.proofs.Common.{refl, ◌∙◌}
use Rattle.x64_core.specs.Viewed.{viewed}
use Rattle.x64_lines.specs.declared.shapes.OpFields.TheVariants.{RegVvvvRm}
use Rattle.x64_lines.specs.declared.shapes.OpImm.TheVariants.{None}
use Rattle.x64_core.proofs.MadeOf.{register_fits, fits_by, view_by}
use Rattle.x64_core.proofs.Viewed.{viewed_operand}
use Rattle.x64_core.proofs.makers.RegVvvvRm.regs.Goals as goal

pub invariant_of-result : goal.invariant_of-result
invariant_of-result c = record { shape = fits_by _ RegVvvvRm None c.args.reg c.args.vvvv (viewed c.register.result) 0 c.args.self.fields c.args.self.imm (rw (register_fits RegVvvvRm c.register.result _ refl c.register.ensures) refl) }

pub returns : goal.returns
returns c = view_by c.args.self.op RegVvvvRm None c.args.reg c.args.vvvv (viewed c.register.result) 0 c.args.self.fields c.args.self.imm ∙ rw (viewed_operand c.register.result, c.register.ensures) refl
