use Rattle.x64_reader.proofs.Table.{place_below}
use Rattle.x64_reader.proofs.index.place.Goals as goal

pub returns-clause-below : goal.returns-clause-below
returns-clause-below c = rw c.from.ensures (place_below c.args.low)
