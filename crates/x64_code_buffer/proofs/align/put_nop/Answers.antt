use Rattle.std.proofs.Common.{arith}
use Rattle.cax64_sink.specs.Recorder.{recorder_state}
use Rattle.x64_code_buffer.proofs.Padded.{nop_put}
use Rattle.x64_code_buffer.proofs.align.put_nop.Goals as goal

pub unwrap-requires : goal.unwrap-requires
unwrap-requires g c = (nop_put c.args.nop (recorder_state c.args.recorder.now) (recorder_state c.put.new.sink) c.put.result c.requires (omega arith) (rw c.nop_code.ensures.actions at c.put.ensures.run)).ok

pub returns : goal.returns
returns g c = (nop_put c.args.nop (recorder_state c.args.recorder.now) (recorder_state c.put.new.sink) c.put.result c.requires (omega arith) (rw c.nop_code.ensures.actions at c.put.ensures.run)).puts
