use Rattle.x64_core.specs.Viewed.{viewed}
use Rattle.std.proofs.Common.{slice_index}
use Rattle.x64_core.proofs.Renames.{fits_alike, fits_found, renamed_all, viewed_renamed}
use Rattle.x64_core.proofs.instruction.Core.rename.Goals as goal

pub invariant_of-self : goal.invariant_of-self
invariant_of-self c = record { shape = fits_found c.args.self.now c.args.homes.now c.rename.new.self _ _ _ _ _ c.shape-fields.ensures.is c.has_reg.ensures c.has_vvvv.ensures c.home_if.ensures c.home_if-2.ensures (fits_alike c.args.self.now.place c.rename.new.self c.rename.ensures.kind) }

pub returns : goal.returns
returns c = renamed_all c.args.self.now c.args.homes.now (viewed c.rename.new.self) _ _ _ _ _ c.shape-fields.ensures.is c.has_reg.ensures c.has_vvvv.ensures c.home_if.ensures c.home_if-2.ensures (viewed_renamed (slice_index c.args.homes.now) c.args.self.now.place c.rename.new.self c.rename.ensures.operand)
