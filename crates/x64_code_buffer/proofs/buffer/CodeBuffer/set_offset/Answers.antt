use Rattle.std.proofs.Common.{ap, refl}
use Rattle.cax64_sink.specs.Recorder.{recorder_state}
use Rattle.cax64_sink.specs.Sink.{State}
use Rattle.x64_code_buffer.specs.Buffer.{places_of}
use Rattle.x64_code_buffer.proofs.Filling.{stays_both, stays_as}
use Rattle.x64_code_buffer.proofs.buffer.CodeBuffer.set_offset.Goals as goal

pub returns-clause-filled : goal.returns-clause-filled
returns-clause-filled g c = stays_both _ _ (λ pieces n h.
    let places = places_of c.args.self.now in
    stays_as pieces n (recorder_state c.args.self.now.recorder) (recorder_state c.set_offset.new.self) places places (ap (λ (z : State). z.bytes) c.set_offset.ensures) (ap (λ (z : State). z.notices) c.set_offset.ensures) (λ target. refl) h)
