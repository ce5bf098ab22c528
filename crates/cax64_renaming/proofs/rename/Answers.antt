use Rattle.std.proofs.Common.{◌∙◌}
use Rattle.cax64_renaming.proofs.Renaming.{meant_renamed}
use Rattle.cax64_renaming.proofs.rename.Goals as goal

pub returns-clause-renamed : goal.returns-clause-renamed
returns-clause-renamed g c n law offsets = g.met.I.Instruction.follows _ offsets ∙ meant_renamed _ _ g.met.I.Family.WriteGpr.AsReg.same _ n law _ _ _ _ _ _ c.visit.ensures.row c.visit.ensures.run offsets
