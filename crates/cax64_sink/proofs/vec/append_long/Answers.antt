use Rattle.cax64_sink.proofs.Runs.{ran_one}
use Rattle.cax64_sink.proofs.vec.append_long.Goals as goal

pub returns-in-Some : goal.returns-in-Some
returns-in-Some g c =
    let step = rw c.to_le_bytes.ensures at c.append.ensures in
    rw c.in-Some.is (ran_one step)
