use Rattle.std.proofs.Common.{sym}
use Rattle.x64_lines.proofs.Table.{op_below}
use Rattle.x64_reader.proofs.Found.{alone_of_key, key_finds, none_keyed, none_of_key}
use Rattle.x64_reader.proofs.reader.line_behind.Goals as goal

pub returns-in_err-opcode-clause-alone : goal.returns-in_err-opcode-clause-alone
returns-in_err-opcode-clause-alone c = rw c.from_residual.ensures (none_keyed c.args.limit c.args.front.now c.args.bytes.now c.requires (sym c.in_err-opcode.ensures))

pub returns-in_err-op-clause-alone : goal.returns-in_err-op-clause-alone
returns-in_err-op-clause-alone c = rw c.from_residual-in_err-op.ensures (none_of_key c.args.limit c.args.front.now c.args.bytes.now c.in_ok-opcode.rest.now c.in_ok-opcode.opcode c.requires (sym c.in_ok-opcode.ensures) c.in_err-op.ensures.none)

pub returns-clause-finds : goal.returns-clause-finds
returns-clause-finds c = key_finds c.args.front.now c.args.bytes.now c.in_ok-opcode.rest.now c.in_ok-opcode.opcode c.in_ok-op.op.number c.in_ok-op.ensures.byte (op_below c.in_ok-op.op) (sym c.in_ok-opcode.ensures) c.in_ok-op.ensures.found.0 c.in_ok-op.ensures.found.1

pub returns-clause-alone : goal.returns-clause-alone
returns-clause-alone c = alone_of_key c.args.limit c.args.front.now c.args.bytes.now c.in_ok-opcode.rest.now c.in_ok-opcode.opcode c.in_ok-op.op.number c.requires (sym c.in_ok-opcode.ensures) c.in_ok-op.ensures.found.0
