use Rattle.x64_core.proofs.HeadTable.{heads_is}
use Rattle.x64_core.proofs.heads.heads.Goals as goal

pub returns : goal.returns
returns c = rw c.from.ensures (heads_is c.args.number c.requires)
