use Rattle.std.proofs.Common.{arith}
use Rattle.std.proofs.lemmas.Result.{on_ok_weaker}
use Rattle.cax64_address.proofs.NumberDigits.{add_eight}
use Rattle.cax64_address.proofs.number.add_hex_digits.Goals as goal

pub returns-clause-text : goal.returns-clause-text
returns-clause-text g c = on_ok_weaker _ (add_eight _ _ _ c.args.number (omega arith) (omega arith) c.in_ok-push_hex32.ensures.text) c.push_eight.ensures.text
