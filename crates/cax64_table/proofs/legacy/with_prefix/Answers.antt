use Rattle.std.proofs.Common.{◌+◌, true, false, arith}
use Rattle.cax64_table.specs.LegacyNumber.{set_of}
use Rattle.cax64_table.proofs.Sets.{is_set, lock_is, operand_size_is, repeats_not, lock_more, operand_size_more, repne_more, rep_more, added_lock, added_operand_size, added_repne, added_rep}
use Rattle.cax64_table.proofs.legacy.with_prefix.Goals as goal

pub returns-in-240-clause-is : goal.returns-in-240-clause-is
returns-in-240-clause-is c = added_lock c.args.seen c.args.byte c.requires c.in-240.is (lock_is c.args.seen false (grind arith))

pub returns-in-240-clause-fits : goal.returns-in-240-clause-fits
returns-in-240-clause-fits c = is_set (c.args.seen + 1) (record (set_of c.args.seen) { lock = true }) (lock_more c.args.seen c.requires (lock_is c.args.seen false (grind arith)))

pub returns-in-102-clause-is : goal.returns-in-102-clause-is
returns-in-102-clause-is c = added_operand_size c.args.seen c.args.byte c.requires c.in-102.is (operand_size_is c.args.seen false (grind arith))

pub returns-in-102-clause-fits : goal.returns-in-102-clause-fits
returns-in-102-clause-fits c = is_set (c.args.seen + 2) (record (set_of c.args.seen) { operand_size = true }) (operand_size_more c.args.seen c.requires (operand_size_is c.args.seen false (grind arith)))

pub returns-in-242-clause-is : goal.returns-in-242-clause-is
returns-in-242-clause-is c = added_repne c.args.seen c.args.byte c.requires c.in-242.is (omega arith)

pub returns-in-242-clause-fits : goal.returns-in-242-clause-fits
returns-in-242-clause-fits c = is_set (c.args.seen + 4) (record (set_of c.args.seen) { repne = true }) (repne_more c.args.seen c.requires (repeats_not c.args.seen c.requires (omega arith)))

pub returns-in-243-clause-is : goal.returns-in-243-clause-is
returns-in-243-clause-is c = added_rep c.args.seen c.args.byte c.requires c.in-243.is (omega arith)

pub returns-in-243-clause-fits : goal.returns-in-243-clause-fits
returns-in-243-clause-fits c = is_set (c.args.seen + 8) (record (set_of c.args.seen) { rep = true }) (rep_more c.args.seen c.requires (repeats_not c.args.seen c.requires (omega arith)))
