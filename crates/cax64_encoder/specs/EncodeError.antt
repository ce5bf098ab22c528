use Rattle.std.specs.Prelude.{Option, Some, None, Result, Ok, Err, IfErr}
use Rattle.cax64_sink.specs.declared.SinkError.{SinkError}
use Rattle.cax64_encoder.specs.declared.error.EncodeError.{EncodeError}
use Rattle.cax64_encoder.specs.declared.error.EncodeError.TheVariants.{Fault, Sink}
use Rattle.cax64_encoder.specs.declared.fault.Fault as fault

-- What a call gives that tests and puts.

abbrev pub fault_in_error : EncodeError → Option fault.Fault
fault_in_error (Fault why) = Some why
fault_in_error (Sink why) = None

-- the fault that was found
abbrev pub fault_found : {T : Type 0} → Result T EncodeError → Option fault.Fault
fault_found (Ok v) = None
fault_found (Err error) = fault_in_error error

abbrev pub is_refusal : (SinkError → Type 0) → EncodeError → Type 0
is_refusal P (Fault why) = Unit {0}
is_refusal P (Sink why) = P why

-- where the sink refuses, this holds of its error
abbrev pub IfRefused : {T : Type 0} → Result T EncodeError → (SinkError → Type 0) → Type 0
IfRefused result P = IfErr result (is_refusal P)

-- the sink doesn't refuse
abbrev pub NotRefused : {T : Type 0} → Result T EncodeError → Type 0
NotRefused result = IfRefused result (λ error. ⊥)

abbrev pub is_fault : Type 0 → EncodeError → Type 0
is_fault P (Fault why) = P
is_fault P (Sink why) = Unit {0}

-- where there is a fault, this holds
abbrev pub OnFault : {T : Type 0} → Result T EncodeError → Type 0 → Type 0
OnFault result P = IfErr result (is_fault P)
