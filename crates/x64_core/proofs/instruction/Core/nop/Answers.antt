use Rattle.x64_core.proofs.Nops.{one, two, three, four, five, six, seven, eight, nine}
use Rattle.x64_core.proofs.instruction.Core.nop.Goals as goal

pub returns-in-1-clause-view : goal.returns-in-1-clause-view
returns-in-1-clause-view c = (one _ _ c.bare.ensures c.in-1.is).view

pub returns-in-1-clause-length : goal.returns-in-1-clause-length
returns-in-1-clause-length c = (one _ _ c.bare.ensures c.in-1.is).length

pub returns-in-2-clause-view : goal.returns-in-2-clause-view
returns-in-2-clause-view c = (two _ _ c.bare-in-2.ensures c.in-2.is).view

pub returns-in-2-clause-length : goal.returns-in-2-clause-length
returns-in-2-clause-length c = (two _ _ c.bare-in-2.ensures c.in-2.is).length

pub returns-in-3-clause-view : goal.returns-in-3-clause-view
returns-in-3-clause-view c = (three _ _ _ c.mem.ensures c.at_rax.ensures c.in-3.is).view

pub returns-in-3-clause-length : goal.returns-in-3-clause-length
returns-in-3-clause-length c = (three _ _ _ c.mem.ensures c.at_rax.ensures c.in-3.is).length

pub returns-in-4-clause-view : goal.returns-in-4-clause-view
returns-in-4-clause-view c = (four _ _ _ c.mem-in-4.ensures c.at_rax-in-4.ensures c.in-4.is).view

pub returns-in-4-clause-length : goal.returns-in-4-clause-length
returns-in-4-clause-length c = (four _ _ _ c.mem-in-4.ensures c.at_rax-in-4.ensures c.in-4.is).length

pub returns-in-5-clause-view : goal.returns-in-5-clause-view
returns-in-5-clause-view c = (five _ _ _ c.mem-in-5.ensures c.at_two_rax.ensures c.in-5.is).view

pub returns-in-5-clause-length : goal.returns-in-5-clause-length
returns-in-5-clause-length c = (five _ _ _ c.mem-in-5.ensures c.at_two_rax.ensures c.in-5.is).length

pub returns-in-6-clause-view : goal.returns-in-6-clause-view
returns-in-6-clause-view c = (six _ _ _ c.mem-in-6.ensures c.at_two_rax-in-6.ensures c.in-6.is).view

pub returns-in-6-clause-length : goal.returns-in-6-clause-length
returns-in-6-clause-length c = (six _ _ _ c.mem-in-6.ensures c.at_two_rax-in-6.ensures c.in-6.is).length

pub returns-in-7-clause-view : goal.returns-in-7-clause-view
returns-in-7-clause-view c = (seven _ _ _ c.mem-in-7.ensures c.at_rax-in-7.ensures c.in-7.is).view

pub returns-in-7-clause-length : goal.returns-in-7-clause-length
returns-in-7-clause-length c = (seven _ _ _ c.mem-in-7.ensures c.at_rax-in-7.ensures c.in-7.is).length

pub returns-in-8-clause-view : goal.returns-in-8-clause-view
returns-in-8-clause-view c = (eight _ _ _ c.mem-in-8.ensures c.at_two_rax-in-8.ensures c.in-8.is).view

pub returns-in-8-clause-length : goal.returns-in-8-clause-length
returns-in-8-clause-length c = (eight _ _ _ c.mem-in-8.ensures c.at_two_rax-in-8.ensures c.in-8.is).length

pub returns-in-9-clause-view : goal.returns-in-9-clause-view
returns-in-9-clause-view c = (nine _ _ _ c.mem-in-9.ensures c.at_two_rax-in-9.ensures c.in-9.is).view

pub returns-in-9-clause-length : goal.returns-in-9-clause-length
returns-in-9-clause-length c = (nine _ _ _ c.mem-in-9.ensures c.at_two_rax-in-9.ensures c.in-9.is).length
