use Rattle.std.proofs.Common.{◌≡◌, refl, ◌∙◌, ap, sym, List, [], ◌++◌, append-nil, Result, Ok, Err, Some, ℕ}
use Rattle.std.specs.Prelude.{OnOk, IsSome}
use Rattle.cax64_encoder.specs.Instruction.{AddsInstruction}
use Rattle.cax64_encoder.specs.Meant.{Meant}
use Rattle.cax64_machine_code.specs.Reading.{read}
use Rattle.cax64_sink.specs.Sink.{State}
use Rattle.cax64_sink.specs.declared.SinkError.{SinkError}

-- what an empty sink has got of an instruction has a reading
pub read_whole : {M : Type 0} (m : Meant M) (s t : State) (r : Result (Unit {0}) SinkError) (u : Unit {0}) → r ≡ Ok u → s.bytes ≡ [] → OnOk r (AddsInstruction m s t) → IsSome (read t.bytes)
read_whole m s t (Ok v) u e none adds =
    let whole : t.bytes ≡ adds.added = adds.bytes ∙ ap (λ (x : List ℕ). x ++ adds.added) none in
    let found : read t.bytes ≡ Some adds.reads.reading = ap read (whole ∙ sym (append-nil adds.added)) ∙ adds.reads.reads [] in
    rw found refl
read_whole m s t (Err error) u e none adds = cc
