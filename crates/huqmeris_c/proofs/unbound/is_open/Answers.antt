use Rattle.huqmeris_c.proofs.unbound.is_open.Goals as goal

pub returns-in-None : goal.returns-in-None
returns-in-None c = (λ t. cc, λ opens. absurd (c.in-None.ensures.none opens.0 opens.1))
