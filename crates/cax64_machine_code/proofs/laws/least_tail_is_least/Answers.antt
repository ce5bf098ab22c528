use Rattle.cax64_machine_code.proofs.NoShorter.{no_shorter}
use Rattle.cax64_machine_code.proofs.Reached.{reached, shortest}
use Rattle.cax64_machine_code.proofs.laws.least_tail_is_least.Goals as goal

pub returns-clause-no_shorter : goal.returns-clause-no_shorter
returns-clause-no_shorter c x b bytes tail hb h = no_shorter x b bytes tail hb h

pub returns-clause-reached : goal.returns-clause-reached
returns-clause-reached c x b bytes tail hb h = reached x b bytes tail hb h

pub returns-clause-shortest : goal.returns-clause-shortest
returns-clause-shortest c x b reg place t hb h = shortest x b reg place t hb h
