use Rattle.std.proofs.Common.{◌≡◌, inr, pos, rules}
use Rattle.huqmeris_c.proofs.Untold.{none_told}
use Rattle.huqmeris_c.proofs.assemble.number_told.Goals as goal

pub returns-then-refused-eq-HQ_TOO_MANY : goal.returns-then-refused-eq-HQ_TOO_MANY
returns-then-refused-eq-HQ_TOO_MANY c = λ items denied.
    let many : c.args.refused.status ≡ pos 10 = search rules in
    none_told items c.args.refused.number c.args.refused.status (inr many) denied
