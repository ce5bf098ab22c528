use Rattle.std.proofs.Common.{sym, ap}
use Rattle.x64_plain.specs.Status.{check_status}
use Rattle.huqmeris_c.proofs.Coded.{no_fault_of}
use Rattle.huqmeris_c.proofs.encode.hq_check.Goals as goal

pub returns-in-Some-clause-checks : goal.returns-in-Some-clause-checks
returns-in-Some-clause-checks c = λ other h. sym (ap check_status (no_fault_of c.args.inst.now c.in-Some.field-0 other c.in-Some.ensures.is c.in-Some.ensures.encodable h))
