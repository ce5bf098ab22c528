use Rattle.std.proofs.Common.{arith}
use Rattle.std.proofs.lemmas.Result.{on_ok_weaker}
use Rattle.cax64_address.proofs.NumberDigits.{add_last}
use Rattle.cax64_address.proofs.number.+add_decimal.Goals as goal

pub returns-clause-text : goal.returns-clause-text
returns-clause-text g t c = on_ok_weaker _ (add_last _ _ _ c.args.byte (omega arith) (omega arith) c.in_ok-add_decimal.ensures.text) c.push_digit-2.ensures.text
