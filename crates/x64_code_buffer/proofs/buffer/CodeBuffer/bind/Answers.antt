use Rattle.std.proofs.Common.{ℕ, length, ap, subst}
use Rattle.std.specs.Prelude.{OnOk}
use Rattle.cax64_sink.specs.Recorder.{recorder_state}
use Rattle.cax64_sink.specs.declared.DeferredTarget.TheVariants.{Label}
use Rattle.x64_code_buffer.specs.Binding.{AddsBinding, place_bound}
use Rattle.x64_code_buffer.specs.Buffer.{places_of}
use Rattle.x64_code_buffer.proofs.Filling.{stays_both, bound_if}
use Rattle.x64_code_buffer.proofs.buffer.CodeBuffer.bind.Goals as goal

pub returns-clause-filled : goal.returns-clause-filled
returns-clause-filled g c = stays_both _ _ (λ pieces n h.
    let old = places_of c.args.self.now in
    let new = place_bound c.bind.new.self in
    let t = Label c.args.label in
    bound_if pieces n (recorder_state c.args.self.now.recorder) old new t c.bind.result
    (subst (λ (z : ℕ). OnOk c.bind.result (AddsBinding t z old new)) (ap length c.bytes-place.ensures) c.bind.ensures.binds)
    c.bind.ensures.unchanged h)
