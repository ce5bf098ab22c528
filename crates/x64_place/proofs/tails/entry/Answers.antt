use Rattle.x64_place.proofs.TailTable.{found}
use Rattle.x64_place.proofs.tails.entry.Goals as goal

pub returns : goal.returns
returns c = found c.args.kind c.args.width c.args.low _ _ _ c.requires.width c.requires.low c.kind_number.ensures.is c.from.ensures c.from-2.ensures
