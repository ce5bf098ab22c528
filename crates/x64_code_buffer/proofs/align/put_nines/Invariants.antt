use Rattle.std.specs.Prelude.{replicate}
use Rattle.cax64_operand.specs.declared.nop.Nop.TheVariants.{Nine}
use Rattle.cax64_sink.specs.Recorder.{recorder_state}
use Rattle.x64_code_buffer.specs.Padding.{nops_bytes}
use Rattle.x64_code_buffer.specs.Put.{PutsBytes}
use Rattle.x64_code_buffer.proofs.align.put_nines.Given as goal

abbrev pub invariant-loop-nine : goal.invariant-loop-nine
invariant-loop-nine g l = PutsBytes (nops_bytes (replicate l._nine Nine)) (recorder_state l.initial.recorder) (recorder_state l.recorder)
