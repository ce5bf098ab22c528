use Rattle.std.proofs.Common.{◌≡◌, List, [], ◌∷◌, ◌++◌, Result, Err, inl, inr, refl, sym, ◌∙◌, ap, append_assoc, append-nil}
use Rattle.cax64_sink.specs.Sink.{State}
use Rattle.cax64_sink.specs.Run.{Went, Ran, Refusal, all_bytes}
use Rattle.cax64_sink.specs.Call.{Action, bytes_of}
use Rattle.cax64_sink.specs.declared.SinkError.{SinkError}
use Rattle.cax64_sink.proofs.Runs.{notices_next, told_nothing}

went_refusal : (acts : List Action) (s t : State) (e : SinkError) → Went acts s t (Err e) → Refusal acts s t
unfolding Went
went_refusal [] s t e (bad, _) = cc
went_refusal (act ∷ acts) s t e (inl (u, h, rest)) =
    let k : Refusal acts u t = went_refusal acts u t e rest in
    record {
      done = act ∷ k.done;
      act = k.act;
      later = k.later;
      parts = ap (λ x. act ∷ x) k.parts;
      bytes = k.bytes ∙ ap (λ x. x ++ all_bytes k.done) h.bytes ∙ append_assoc s.bytes (bytes_of act) (all_bytes k.done);
      notices = notices_next act k.done s u t h k.notices;
    }
went_refusal (act ∷ acts) s t e (inr (d, same, h)) =
    record {
      done = [];
      act = act;
      later = acts;
      parts = refl;
      bytes = h.bytes ∙ sym (append-nil s.bytes);
      notices = told_nothing s.records s.notices t.notices h.notices;
    }

-- a refused run leaves what its first calls added, and at least one call undone
pub ran_refusal : {acts : List Action} {s t : State} {r : Result (Unit {0}) SinkError} {e : SinkError} → Ran acts s t r → r ≡ Err e → Refusal acts s t
ran_refusal {acts} {s} {t} {r} {e} h is = let j : Ran acts s t (Err e) = rw is at h in went_refusal acts s t e j.went
