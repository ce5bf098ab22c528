use Rattle.std.proofs.Common.{refl}
use Rattle.cax64_machine_code.specs.Tail.{sib_at}
use Rattle.cax64_reader.proofs.Numbers.{nothing_left}
use Rattle.cax64_reader.proofs.tail.with_sib.Goals as goal

pub returns-in_err-sib : goal.returns-in_err-sib
unfolding sib_at
returns-in_err-sib c = rw (c.from_residual.ensures, nothing_left c.args.bytes.now c.in_err-sib.ensures) refl
