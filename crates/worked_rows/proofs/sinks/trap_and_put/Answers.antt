use Rattle.cax64_sink.proofs.Runs.{ran_one, ran_next}
use Rattle.worked_rows.proofs.sinks.trap_and_put.Goals as goal

pub returns : goal.returns
returns g c = ran_next c.add_trap.ensures.step c.in_ok-add_trap.was (ran_one c.put4.ensures.step)
