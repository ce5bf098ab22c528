use Rattle.std.proofs.Common.{refl}
use Rattle.cax64_sink.specs.Recorder.{recorder_state}
use Rattle.x64_code_buffer.specs.Binding.{place_bound}
use Rattle.x64_code_buffer.specs.Buffer.{places_of}
use Rattle.x64_code_buffer.proofs.Filling.{stays_both, stays_as}
use Rattle.x64_code_buffer.proofs.buffer.CodeBuffer.reserve_labels.Goals as goal

pub returns-clause-filled : goal.returns-clause-filled
returns-clause-filled g c = stays_both _ _ (λ pieces n h.
    let s = recorder_state c.args.self.now.recorder in
    stays_as pieces n s s (places_of c.args.self.now) (place_bound c.reserve_labels.new.self) refl refl c.reserve_labels.ensures.places h)
