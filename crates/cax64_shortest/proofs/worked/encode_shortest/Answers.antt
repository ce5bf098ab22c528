use Rattle.cax64_shortest.proofs.Structs.{added_shortest}
use Rattle.cax64_shortest.proofs.worked.encode_shortest.Goals as goal

pub returns-clause-shortest : goal.returns-clause-shortest
returns-clause-shortest g c = added_shortest _ _ _ c.encode.result c.encode.ensures.adds (λ bytes reading hb h same. c.whole_instruction_is_shortest.ensures _ bytes reading c.requires.short hb h same)
