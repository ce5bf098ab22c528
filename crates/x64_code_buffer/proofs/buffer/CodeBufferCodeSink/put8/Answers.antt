use Rattle.std.proofs.Common.{refl}
use Rattle.std.specs.Int.{to_le_bytes, w64}
use Rattle.cax64_sink.specs.Call.{put}
use Rattle.cax64_sink.specs.Recorder.{recorder_state}
use Rattle.x64_code_buffer.specs.Buffer.{places_of}
use Rattle.x64_code_buffer.proofs.Filling.{stays_both, stepped}
use Rattle.x64_code_buffer.proofs.buffer.CodeBufferCodeSink.put8.Goals as goal

pub returns-clause-filled : goal.returns-clause-filled
returns-clause-filled g c = stays_both _ _ (λ pieces n h.
    let places = places_of c.args.self.now in
    stepped (put (to_le_bytes w64 c.args.value)) pieces n (recorder_state c.args.self.now.recorder) (recorder_state c.put8.new.self) c.put8.result places places (λ at. refl) c.put8.ensures.step (λ target. refl) h)
