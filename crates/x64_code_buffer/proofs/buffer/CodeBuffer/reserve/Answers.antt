use Rattle.std.proofs.Common.{refl}
use Rattle.cax64_sink.specs.Recorder.{recorder_state}
use Rattle.x64_code_buffer.specs.Buffer.{places_of}
use Rattle.x64_code_buffer.proofs.Filling.{stays_both, stays_as}
use Rattle.x64_code_buffer.proofs.buffer.CodeBuffer.reserve.Goals as goal

pub returns-clause-filled : goal.returns-clause-filled
returns-clause-filled g c = stays_both _ _ (λ pieces n h.
    let places = places_of c.args.self.now in
    stays_as pieces n (recorder_state c.args.self.now.recorder) (recorder_state c.reserve.new.self) places places c.reserve.ensures.bytes c.reserve.ensures.notices (λ target. refl) h)
