use Rattle.std.proofs.Common.{take}
use Rattle.cax64_sink.specs.Recorder.{recorder_state}
use Rattle.x64_code_buffer.specs.Put.{PutsBytes}
use Rattle.x64_code_buffer.proofs.data.put_all.Given as goal

abbrev pub invariant-loop-byte : goal.invariant-loop-byte
invariant-loop-byte g l = PutsBytes (take l.byte-index l.bytes) (recorder_state l.initial.recorder) (recorder_state l.recorder)
