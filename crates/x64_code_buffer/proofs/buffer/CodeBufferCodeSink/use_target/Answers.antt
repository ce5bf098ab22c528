use Rattle.std.proofs.Common.{refl, ◌∙◌, append-nil, length}
use Rattle.cax64_sink.specs.Recorder.{recorder_state}
use Rattle.x64_code_buffer.specs.Buffer.{places_of}
use Rattle.cax64_sink.specs.Call.{target}
use Rattle.x64_code_buffer.proofs.Filling.{stays_as, stays_before, stays_both}
use Rattle.x64_code_buffer.proofs.Putting.{if_err, if_ok_is, step_refused, step_taken}
use Rattle.x64_code_buffer.proofs.buffer.CodeBufferCodeSink.use_target.Goals as goal

pub returns-clause-refused : goal.returns-clause-refused
returns-clause-refused g c = if_err _ c.use_target.result (λ e is. stays_both _ _ (λ pieces n h.
    let s = recorder_state c.args.self.now.recorder in
    let t = recorder_state c.use_target.new.self in
    let places = places_of c.args.self.now in
    let same = step_refused (target c.args.place) s t c.use_target.result e is c.use_target.ensures.step in
    stays_as pieces n s t places places same.0 same.1 (λ target. refl) h))

pub returns-clause-filled : goal.returns-clause-filled
returns-clause-filled g c = if_ok_is _ c.use_target.result (λ is.
    let s = recorder_state c.args.self.now.recorder in
    let t = recorder_state c.use_target.new.self in
    let went = step_taken (target c.args.place) s t c.use_target.result is c.use_target.ensures.step in
    stays_before _ _ (length s.bytes) c.args.place refl (went.0 ∙ append-nil s.bytes) went.1 (λ target. refl))
