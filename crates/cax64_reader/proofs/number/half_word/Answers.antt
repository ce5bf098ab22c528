use Rattle.cax64_reader.proofs.Numbers.{two_missing, two_stand}
use Rattle.cax64_reader.proofs.number.half_word.Goals as goal

pub returns-in_default-clause-is : goal.returns-in_default-clause-is
returns-in_default-clause-is c = two_missing c.args.bytes.now c.in_default.len_below

pub returns-in-len2-up-clause-is : goal.returns-in-len2-up-clause-is
returns-in-len2-up-clause-is c = rw (c.from.ensures, c.from-in-len2-up.ensures) (two_stand c.args.bytes.now c.in-len2-up.len_at_least)
