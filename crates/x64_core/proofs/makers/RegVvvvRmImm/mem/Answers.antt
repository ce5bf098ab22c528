use Rattle.std.proofs.Common.{refl, ◌∙◌}
use Rattle.x64_core.specs.Viewed.{viewed}
use Rattle.x64_lines.specs.declared.shapes.OpFields.TheVariants.{RegVvvvRm}
use Rattle.x64_core.proofs.MadeOf.{address_fits, fits_by, view_by}
use Rattle.x64_core.proofs.Viewed.{viewed_operand}
use Rattle.x64_core.proofs.makers.RegVvvvRmImm.mem.Goals as goal

pub invariant_of-result : goal.invariant_of-result
invariant_of-result g c = record { shape = fits_by _ RegVvvvRm g.I.CoreImm.kind c.args.reg c.args.vvvv (viewed c.of_amode.result) c.word.result c.args.self.fields c.args.self.imm (rw (address_fits RegVvvvRm c.of_amode.result _ refl c.of_amode.ensures, c.word.ensures.fits) refl) }

pub returns : goal.returns
returns g c = view_by c.args.self.op RegVvvvRm g.I.CoreImm.kind c.args.reg c.args.vvvv (viewed c.of_amode.result) c.word.result c.args.self.fields c.args.self.imm ∙ rw (viewed_operand c.of_amode.result, c.of_amode.ensures, c.word.ensures.value) refl
