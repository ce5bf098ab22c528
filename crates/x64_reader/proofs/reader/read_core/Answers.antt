use Rattle.x64_lines.proofs.Table.{op_below}
use Rattle.cax64_reader.specs.Found.{found_of}
use Rattle.x64_reader.proofs.Found.{found_reads, none_read, none_reads, one_reads}
use Rattle.x64_reader.proofs.Taken.{all_taken}
use Rattle.x64_reader.proofs.reader.read_core.Goals as goal
use Rattle.std.proofs.Common.{◌-◌, length, sym}

pub returns-in_err-op-clause-is : goal.returns-in_err-op-clause-is
returns-in_err-op-clause-is c = rw c.from_residual.ensures (sym (none_read c.args.bytes.now (λ n below. none_reads n c.args.bytes.now (c.in_err-op.ensures.none n below))))

pub returns-in_err-op-clause-none : goal.returns-in_err-op-clause-none
returns-in_err-op-clause-none c = rw c.from_residual.ensures (λ n below. none_reads n c.args.bytes.now (c.in_err-op.ensures.none n below))

pub returns-clause-is : goal.returns-clause-is
returns-clause-is c = sym (one_reads c.in_ok-op.op.number c.args.bytes.now _ (op_below c.in_ok-op.op) (found_reads c.in_ok-op.op.number c.args.bytes.now (found_of c.in_ok-op.found) c.in_ok-op.ensures.found))

pub returns-clause-line : goal.returns-clause-line
returns-clause-line c = found_reads c.in_ok-op.op.number c.args.bytes.now (found_of c.in_ok-op.found) c.in_ok-op.ensures.found

pub returns-clause-taken : goal.returns-clause-taken
returns-clause-taken c = all_taken c.in_ok-op.op (length c.args.bytes.now - length c.in_ok-op.found.rest.now) c.args.bytes.now (found_of c.in_ok-op.found) c.in_ok-op.ensures.found c.in_ok-op.ensures.range
