use Rattle.std.proofs.Common.{◌≡◌, Bool, true, List, Result, Ok, Err, refl, sym, ◌∙◌, ap, IsOk, OnOk, IfErr}
use Rattle.cax64_sink.specs.Sink.{State, is_full, is_no_memory}
use Rattle.cax64_sink.specs.Run.{Ran}
use Rattle.cax64_sink.specs.Call.{Action}
use Rattle.cax64_sink.specs.declared.SinkError.{SinkError}
use Rattle.cax64_sink.specs.declared.SinkError.TheVariants.{NoMemory, Full}
use Rattle.cax64_sink.proofs.Runs.{ran_error}

-- a fact on Ok, shown where the answer is Ok
pub on_ok : {P : Type 0} (r : Result (Unit {0}) SinkError) → (r ≡ Ok tt → P) → OnOk r P
on_ok (Ok tt) show = show refl
on_ok (Err e) show = tt

-- a fact of the error, shown where the answer is an error
pub if_err : (P : SinkError → Type 0) (r : Result (Unit {0}) SinkError) → ((e : SinkError) → r ≡ Err e → P e) → IfErr r P
if_err P (Ok tt) show = tt
if_err P (Err e) show = show e refl

-- what succeeds has no error
pub no_error : (P : SinkError → Type 0) (r : Result (Unit {0}) SinkError) → IsOk r → IfErr r P
no_error P (Ok tt) is = tt
no_error P (Err e) is = cc

no_memory_alone : (e : SinkError) → is_no_memory e ≡ true → e ≡ NoMemory
no_memory_alone NoMemory is = refl
no_memory_alone Full is = cc

full_alone : (e : SinkError) → is_full e ≡ true → e ≡ Full
full_alone NoMemory is = cc
full_alone Full is = refl

-- a run's error, in a sink that is refused memory alone
pub ran_no_memory : {acts : List Action} {s t : State} {r : Result (Unit {0}) SinkError} {e : SinkError} → Ran acts s t r → s.answers ≡ is_no_memory → r ≡ Err e → e ≡ NoMemory
ran_no_memory {e = e} h alone is = no_memory_alone e (ap (λ (f : SinkError → Bool). f e) (sym alone) ∙ ran_error h is)

-- a run's error, in a sink that is full alone
pub ran_full : {acts : List Action} {s t : State} {r : Result (Unit {0}) SinkError} {e : SinkError} → Ran acts s t r → s.answers ≡ is_full → r ≡ Err e → e ≡ Full
ran_full {e = e} h alone is = full_alone e (ap (λ (f : SinkError → Bool). f e) (sym alone) ∙ ran_error h is)
