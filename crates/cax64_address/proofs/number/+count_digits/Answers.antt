use Rattle.std.proofs.Common.{arith, sym}
use Rattle.cax64_address.proofs.NumberDigits.{hex_at_most, hex_length_one, hex_length_more}
use Rattle.cax64_address.proofs.number.+count_digits.Goals as goal

pub returns-then-number-lt16-clause-is : goal.returns-then-number-lt16-clause-is
returns-then-number-lt16-clause-is t c = sym (hex_length_one c.args.number (omega arith))

pub returns-else-number-lt16-clause-is : goal.returns-else-number-lt16-clause-is
returns-else-number-lt16-clause-is t c = omega (arith, hex_length_more c.args.number (omega arith) (omega arith), c.count_digits.ensures.is)

pub returns-else-number-lt16-clause-below : goal.returns-else-number-lt16-clause-below
returns-else-number-lt16-clause-below t c = omega (arith, hex_at_most c.args.number (omega arith), hex_length_more c.args.number (omega arith) (omega arith), c.count_digits.ensures.is)
