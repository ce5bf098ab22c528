-- What is said of a list that was tested and put one by one, and stopped.
use Rattle.std.specs.Prelude.{ℕ, Option, option_and_then, List, slice_get, Result, IfErr}
use Rattle.cax64_encoder.specs.EncodeError.{is_fault, is_refusal}
use Rattle.cax64_encoder.specs.Instruction.{Meaning, fault_in}
use Rattle.cax64_encoder.specs.declared.fault.Fault.{Fault}
use Rattle.cax64_sequence.specs.declared.checked.Stopped.{Stopped}
use Rattle.cax64_sink.specs.Sink.{State}
use Rattle.cax64_sink.specs.declared.SinkError.{SinkError}

-- the fault of the instruction at a place of a list, if it has one
abbrev pub fault_at : {A M : Type 0} → State → (A → Meaning M) → List A → ℕ → Option Fault
fault_at state meant insts n = option_and_then (λ i. fault_in state (meant i)) (slice_get insts n)

-- where a fault stopped it, this holds of how many instructions are whole
abbrev pub AtFault : {T : Type 0} → Result T Stopped → (ℕ → Type 0) → Type 0
AtFault result P = IfErr result (λ s. is_fault (P s.whole) s.error)

-- where the sink refused an instruction, this holds of how many are whole, and of the sink's error
abbrev pub AtRefusal : {T : Type 0} → Result T Stopped → (ℕ → SinkError → Type 0) → Type 0
AtRefusal result P = IfErr result (λ s. is_refusal (P s.whole) s.error)

-- the sink doesn't refuse
abbrev pub NeverRefused : {T : Type 0} → Result T Stopped → Type 0
NeverRefused result = AtRefusal result (λ whole error. ⊥)
