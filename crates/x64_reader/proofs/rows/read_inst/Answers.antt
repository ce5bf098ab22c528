use Rattle.std.proofs.Common.{arith, sym}
use Rattle.cax64_reader.specs.Found.{found_of}
use Rattle.x64_reader.proofs.RowsRead.{none_of_rows, row_read}
use Rattle.x64_reader.proofs.rows.read_inst.Goals as goal

pub returns-in_err-op-clause-is : goal.returns-in_err-op-clause-is
returns-in_err-op-clause-is c = rw c.from_residual.ensures (sym (none_of_rows c.args.bytes.now c.in_err-op.ensures.none))

pub returns-in_err-row-clause-is : goal.returns-in_err-row-clause-is
returns-in_err-row-clause-is c = absurd (omega (arith, c.in_err-row.ensures.none, c.in_ok-op.ensures.below))

pub returns-clause-is : goal.returns-clause-is
returns-clause-is c = sym (row_read c.in_ok-row.row c.in_ok-op.op.number c.args.bytes.now (found_of c.in_ok-op.found) c.in_ok-row.ensures.line c.in_ok-op.ensures.found)
