use Rattle.x64_core.proofs.Reals.{met_is}
use Rattle.x64_core.proofs.instruction.Core.is_met.Goals as goal

pub returns : goal.returns
returns c = rw c.is_met.ensures (met_is c.args.self.now)
