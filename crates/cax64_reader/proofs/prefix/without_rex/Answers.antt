use Rattle.std.proofs.Common.{refl, false, None}
use Rattle.cax64_table.specs.Legacy.{set_in}
use Rattle.cax64_table.proofs.Again.{legacy_again}
use Rattle.cax64_reader.proofs.Fronts.{without_rex_are}
use Rattle.cax64_reader.proofs.prefix.without_rex.Goals as goal

pub invariant_of-result : goal.invariant_of-result
invariant_of-result c = record { meant = without_rex_are c.legacy.result (set_in c.args.seen) (c.legacy.ensures None refl) }

pub returns : goal.returns
returns c = legacy_again c.legacy.result (set_in c.args.seen) false false false false false (c.legacy.ensures None refl)
