use Rattle.std.proofs.Common.{refl}
use Rattle.x64_core.specs.declared.place.CorePlace.TheVariants.{Absent}
use Rattle.x64_lines.specs.declared.shapes.OpFields.TheVariants.{Bare}
use Rattle.x64_lines.specs.declared.shapes.OpImm.TheVariants.{None}
use Rattle.x64_core.proofs.MadeOf.{fits_by, view_by}
use Rattle.x64_core.proofs.makers.Bare.bare.Goals as goal

pub invariant_of-result-2 : goal.invariant_of-result-2
invariant_of-result-2 c = record { shape = fits_by _ Bare None 0 0 Absent 0 c.args.self.fields c.args.self.imm (refl) }

pub returns : goal.returns
returns c = view_by c.args.self.op Bare None 0 0 Absent 0 c.args.self.fields c.args.self.imm
