use Rattle.std.proofs.Common.{arith}
use Rattle.std.proofs.lemmas.Result.{on_ok_weaker}
use Rattle.cax64_address.proofs.NumberDigits.{add_two}
use Rattle.cax64_address.proofs.number.push_hex16.Goals as goal

pub returns-clause-text : goal.returns-clause-text
returns-clause-text g c = on_ok_weaker _ (add_two _ _ _ c.args.number (omega arith) (omega arith) c.in_ok-push_hex8.ensures.text) c.push_two.ensures.text
