use Rattle.std.proofs.Common.{take}
use Rattle.x64_code_buffer.proofs.Filling.{all_read}
use Rattle.x64_code_buffer.proofs.laws.what_is_filled_reads.Goals as goal

pub returns-clause-filled : goal.returns-clause-filled
returns-clause-filled c readings n s places h = all_read readings (take n s.bytes) h.reads

pub returns-clause-finished : goal.returns-clause-finished
returns-clause-finished c readings n s places code h = all_read h.now (take n code) h.reads
