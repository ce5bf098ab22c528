use Rattle.std.proofs.Common.{◌∙◌, arith}
use Rattle.x64_plain.proofs.Limits.{within_whole}
use Rattle.x64_plain.proofs.place.HqPlace.is_whole.Goals as goal

pub returns : goal.returns
returns c = c.is_within.ensures ∙ within_whole c.args.kind c.args.self.now _ _ c.requires c.from.ensures (search arith) (search arith) (search arith)
