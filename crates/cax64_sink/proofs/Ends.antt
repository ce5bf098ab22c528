use Rattle.cax64_sink.specs.declared.SinkError.{SinkError}
use Rattle.std.proofs.Common.{Result, ◌≡◌, ℕ, ◌+◌, ◌<◌, arith, List, [], ◌∷◌, ◌++◌, length, sym, ◌∙◌, ap}
use Rattle.std.proofs.lemmas.List.{length-append}
use Rattle.cax64_sink.specs.Keeps.{Keeps}
use Rattle.cax64_sink.specs.Sink.{State}
use Rattle.cax64_sink.specs.Run.{Ran, Refusal, all_bytes, all_notices}
use Rattle.cax64_sink.specs.Call.{Action, bytes_of}
use Rattle.cax64_sink.specs.Ends.{EndsInBytes}
use Rattle.cax64_sink.specs.declared.Notice.{Notice}
use Rattle.cax64_sink.proofs.Runs.{all_bytes_append, all_notices_append, ran_offsets, ran_records, ran_answers}

-- more actions before those that end in bytes
pub ends_append : (acts more : List Action) → EndsInBytes more → EndsInBytes (acts ++ more)
ends_append [] more h = h
ends_append (act ∷ []) [] h = absurd h
ends_append (act ∷ []) (next ∷ more) h = h
ends_append (act ∷ other ∷ acts) more h = ends_append (other ∷ acts) more h

some_bytes : (acts : List Action) → EndsInBytes acts → 0 < length (all_bytes acts)
some_bytes [] h = absurd h
some_bytes (act ∷ []) h = omega (arith, length-append (bytes_of act) [])
some_bytes (act ∷ next ∷ acts) h = omega (arith, some_bytes (next ∷ acts) h, length-append (bytes_of act) (all_bytes (next ∷ acts)))

some_later : (done : List Action) (act : Action) (later : List Action) → EndsInBytes (done ++ act ∷ later) → 0 < length (all_bytes (act ∷ later))
some_later [] act later h = some_bytes (act ∷ later) h
some_later (first ∷ []) act later h = some_bytes (act ∷ later) h
some_later (first ∷ next ∷ done) act later h = some_later (next ∷ done) act later h

-- what a refusal leaves of the bytes is a front of all, and less
pub refused_bytes : {acts : List Action} {s t : State} (left : Refusal acts s t) → EndsInBytes acts → (more : List ℕ) × (all_bytes left.done ++ more ≡ all_bytes acts) × (0 < length more)
refused_bytes {acts} left h = (
  all_bytes (left.act ∷ left.later),
  sym (ap all_bytes left.parts ∙ all_bytes_append left.done (left.act ∷ left.later)),
  some_later left.done left.act left.later (rw left.parts at h),
)

-- what a refusal leaves of the notices is a front of all
pub refused_notices : {acts : List Action} {s t : State} (left : Refusal acts s t) (at : ℕ) → (more : List Notice) × (all_notices left.done at ++ more ≡ all_notices acts at)
refused_notices {acts} left at = (
  all_notices (left.act ∷ left.later) (at + length (all_bytes left.done)),
  sym (ap (λ (x : List Action). all_notices x at) left.parts ∙ all_notices_append left.done (left.act ∷ left.later) at),
)

-- what no run changes
pub ran_keeps : {acts : List Action} {s t : State} {r : Result (Unit {0}) SinkError} → Ran acts s t r → Keeps s t
ran_keeps h = record { offsets = ran_offsets h; records = ran_records h; answers = ran_answers h }
