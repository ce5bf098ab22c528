use Rattle.cax64_sink.proofs.Rests.{rest_puts}
use Rattle.cax64_sink.specs.Recorder.{recorder_state}
use Rattle.cax64_sink.specs.Rest.{rest_actions}
use Rattle.x64_code_buffer.specs.Buffer.{places_of}
use Rattle.x64_code_buffer.proofs.Filling.{stays_both, put_roomier}
use Rattle.x64_code_buffer.proofs.buffer.CodeBufferCodeSink.put_rest.Goals as goal

pub returns-clause-filled : goal.returns-clause-filled
returns-clause-filled g c = stays_both _ _ (λ pieces n h.
    put_roomier (rest_actions c.args.long c.args.imm_len c.args.imm) pieces n (recorder_state c.args.self.now.recorder) (recorder_state c.put_rest.new.self) c.put_rest.result (places_of c.args.self.now) (rest_puts c.args.long c.args.imm_len c.args.imm) c.put_rest.ensures.run h)
