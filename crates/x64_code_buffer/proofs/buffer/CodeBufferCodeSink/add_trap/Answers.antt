use Rattle.std.proofs.Common.{refl}
use Rattle.cax64_sink.specs.Call.{trap}
use Rattle.cax64_sink.specs.Recorder.{recorder_state}
use Rattle.x64_code_buffer.specs.Buffer.{places_of}
use Rattle.x64_code_buffer.proofs.Filling.{stays_both, stepped}
use Rattle.x64_code_buffer.proofs.buffer.CodeBufferCodeSink.add_trap.Goals as goal

pub returns-clause-filled : goal.returns-clause-filled
returns-clause-filled g c = stays_both _ _ (λ pieces n h.
    let places = places_of c.args.self.now in
    stepped (trap c.args.code) pieces n (recorder_state c.args.self.now.recorder) (recorder_state c.add_trap.new.self) c.add_trap.result places places (λ at. refl) c.add_trap.ensures.step (λ target. refl) h)
