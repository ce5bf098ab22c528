use Rattle.std.proofs.Common.{arith}
use Rattle.x64_reader.proofs.Table.{entry_fits}
use Rattle.x64_reader.proofs.index.entry.Goals as goal

pub returns-clause-fits : goal.returns-clause-fits
returns-clause-fits c = rw (c.from.ensures, c.from-2.ensures, c.from-3.ensures) (entry_fits c.args.low c.args.opcode (omega arith))
