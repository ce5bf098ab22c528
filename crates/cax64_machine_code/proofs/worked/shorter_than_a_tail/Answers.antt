use Rattle.std.proofs.Common.{◌∷◌, [], refl, lit<}
use Rattle.cax64_machine_code.specs.Fields.{IsBytes, number_at}
use Rattle.cax64_machine_code.specs.Tail.{read_tail, disp_at}
use Rattle.cax64_machine_code.proofs.Reached.{no_bytes, more_bytes}
use Rattle.cax64_machine_code.proofs.worked.shorter_than_a_tail.Goals as goal

zeros : IsBytes (0 ∷ 0 ∷ 0 ∷ 0 ∷ [])
zeros = more_bytes 0 (0 ∷ 0 ∷ 0 ∷ []) (lit< tt) (more_bytes 0 (0 ∷ 0 ∷ []) (lit< tt) (more_bytes 0 (0 ∷ []) (lit< tt) (more_bytes 0 [] (lit< tt) no_bytes)))

pub returns-clause-some : goal.returns-clause-some
unfolding read_tail disp_at number_at
returns-clause-some c =
    c.least_tail_is_least.ensures.reached 0 0 (0x85 ∷ 0 ∷ 0 ∷ 0 ∷ 0 ∷ []) _ (more_bytes 0x85 (0 ∷ 0 ∷ 0 ∷ 0 ∷ []) (lit< tt) zeros) refl

pub returns-clause-shortest : goal.returns-clause-shortest
unfolding read_tail disp_at number_at
returns-clause-shortest c =
    (c.least_tail_is_least.ensures.shortest 0 0 0 _ (0x45 ∷ 0 ∷ [])
    (more_bytes 0x45 (0 ∷ []) (lit< tt) (more_bytes 0 [] (lit< tt) no_bytes)) (record { reads = λ rest. refl })).1 refl
