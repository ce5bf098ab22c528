use Rattle.x64_assemble.proofs.message.LayoutErrorDisplay.fmt.Goals as goal

pub returns-in-Fault-clause-writes : goal.returns-in-Fault-clause-writes
returns-in-Fault-clause-writes g c = rw c.in-Fault.is c.write.ensures.writes

pub returns-in-Bind-clause-writes : goal.returns-in-Bind-clause-writes
returns-in-Bind-clause-writes g c = rw c.in-Bind.is c.write-in-Bind.ensures.writes
