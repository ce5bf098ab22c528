use Rattle.std.proofs.Common.{refl}
use Rattle.cax64_reader.proofs.Numbers.{number_none, number_one, number_step, three_not_none}
use Rattle.cax64_reader.proofs.number.number.Goals as goal

pub returns-in-0-clause-is : goal.returns-in-0-clause-is
returns-in-0-clause-is c = rw (c.in-0.is, number_none c.args.bytes.now) refl

pub returns-in_err-byte-in-1-clause-is : goal.returns-in_err-byte-in-1-clause-is
returns-in_err-byte-in-1-clause-is c = rw (c.from_residual.ensures, c.in-1.is, number_one c.args.bytes.now, ← c.in_err-byte-in-1.ensures) refl

pub returns-in_ok-byte-in-1-clause-is : goal.returns-in_ok-byte-in-1-clause-is
returns-in_ok-byte-in-1-clause-is c = rw (c.from.ensures, c.in-1.is, number_one c.args.bytes.now, ← c.in_ok-byte-in-1.ensures) refl

pub returns-in_err-lowest-in-3-clause-is : goal.returns-in_err-lowest-in-3-clause-is
returns-in_err-lowest-in-3-clause-is c = rw (c.from_residual-in_err-lowest-in-3.ensures, c.in-3.is, number_step 3 c.args.bytes.now three_not_none, ← c.in_err-lowest-in-3.ensures) refl

pub returns-in_err-higher-in-3-clause-is : goal.returns-in_err-higher-in-3-clause-is
returns-in_err-higher-in-3-clause-is c = rw (c.from_residual-in_err-higher-in-3.ensures, c.in-3.is, number_step 3 c.args.bytes.now three_not_none, ← c.in_ok-lowest-in-3.ensures, ← c.in_err-higher-in-3.ensures.is) refl

pub returns-in_ok-higher-in-3-clause-is : goal.returns-in_ok-higher-in-3-clause-is
returns-in_ok-higher-in-3-clause-is c = rw (c.in-3.is, number_step 3 c.args.bytes.now three_not_none, ← c.in_ok-lowest-in-3.ensures, ← c.in_ok-higher-in-3.ensures.is, c.from-in-3.ensures) refl
