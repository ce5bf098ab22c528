use Rattle.std.proofs.Common.{refl}
use Rattle.x64_core.specs.declared.place.CorePlace.TheVariants.{Absent}
use Rattle.x64_lines.specs.declared.shapes.OpFields.TheVariants.{Bare}
use Rattle.x64_core.proofs.MadeOf.{fits_by, view_by}
use Rattle.x64_core.proofs.makers.Imm.imm.Goals as goal

pub invariant_of-result-2 : goal.invariant_of-result-2
invariant_of-result-2 g c = record { shape = fits_by _ Bare g.I.CoreImm.kind 0 0 Absent c.word.result c.args.self.fields c.args.self.imm (rw c.word.ensures.fits refl) }

pub returns : goal.returns
returns g c = rw c.word.ensures.value at (view_by c.args.self.op Bare g.I.CoreImm.kind 0 0 Absent c.word.result c.args.self.fields c.args.self.imm)
