use Rattle.std.proofs.Common.{refl, [], ◌∷◌}
use Rattle.cax64_sink.specs.Call.{put}
use Rattle.cax64_sink.specs.Recorder.{recorder_state}
use Rattle.x64_code_buffer.specs.Buffer.{places_of}
use Rattle.x64_code_buffer.proofs.Filling.{stays_both, stepped}
use Rattle.x64_code_buffer.proofs.buffer.CodeBufferCodeSink.put1.Goals as goal

pub returns-clause-filled : goal.returns-clause-filled
returns-clause-filled g c = stays_both _ _ (λ pieces n h.
    let places = places_of c.args.self.now in
    stepped (put (c.args.value ∷ [])) pieces n (recorder_state c.args.self.now.recorder) (recorder_state c.put1.new.self) c.put1.result places places (λ at. refl) c.put1.ensures.step (λ target. refl) h)
