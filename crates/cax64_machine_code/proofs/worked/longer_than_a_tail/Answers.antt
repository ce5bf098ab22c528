use Rattle.std.proofs.Common.{◌∷◌, [], refl}
use Rattle.cax64_machine_code.specs.Tail.{read_tail, sib_at, disp_at}
use Rattle.cax64_machine_code.proofs.worked.longer_than_a_tail.Goals as goal

pub returns : goal.returns
unfolding read_tail sib_at disp_at
returns c more second longer h none =
    c.no_tail_begins_another.ensures 0 0 1 (4 ∷ 36 ∷ []) (4 ∷ 36 ∷ more) _ second refl refl h none (record { rest = more; whole = refl; proper = longer })
