use Rattle.cax64_reader.proofs.Numbers.{four_missing, four_stand}
use Rattle.cax64_reader.proofs.number.word.Goals as goal

pub returns-in_default-clause-is : goal.returns-in_default-clause-is
returns-in_default-clause-is c = four_missing c.args.bytes.now c.in_default.len_below

pub returns-in-len4-up-clause-is : goal.returns-in-len4-up-clause-is
returns-in-len4-up-clause-is c =
    rw (c.from-in-len4-up-2.ensures, c.from-in-len4-up-3.ensures, c.from.ensures, c.from-in-len4-up.ensures)
    (four_stand c.args.bytes.now c.in-len4-up.len_at_least)
