use Rattle.cax64_sink.proofs.Rooms.{bytes_fit, ran_fits}
use Rattle.cax64_sink.proofs.laws.laws_of_fixed_sinks.Goals as goal

pub returns-clause-hold : goal.returns-clause-hold
returns-clause-hold g c = λ s. bytes_fit s

pub returns-clause-take : goal.returns-clause-take
returns-clause-take g c = λ acts s t r h. ran_fits s t h
