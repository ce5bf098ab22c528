use Rattle.cax64_table.proofs.Digits.{alike}
use Rattle.cax64_table.proofs.laws.all_rows_of_an_opcode_have_a_digit_or_none.Goals as goal

pub returns : goal.returns
returns c = alike c.args.a c.args.b
