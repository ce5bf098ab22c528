use Rattle.std.proofs.Common.{take, w64}
use Rattle.std.specs.Int.{to_le_bytes}
use Rattle.cax64_sink.specs.Recorder.{recorder_state}
use Rattle.x64_code_buffer.specs.Buffer.{places_of}
use Rattle.x64_code_buffer.proofs.Filling.{stays_both, put_in_turn}
use Rattle.x64_code_buffer.proofs.buffer.CodeBufferCodeSink.put_low_bytes.Goals as goal

pub returns-clause-filled : goal.returns-clause-filled
returns-clause-filled g c = stays_both _ _ (λ pieces n h.
    put_in_turn (take c.args.count (to_le_bytes w64 c.args.word)) pieces n (recorder_state c.args.self.now.recorder) (recorder_state c.put_low_bytes.new.self) c.put_low_bytes.result (places_of c.args.self.now) c.put_low_bytes.ensures.run h)
