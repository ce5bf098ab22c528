use Rattle.std.specs.Prelude.{Option, Some, is_some, option_map, if◌then◌else◌}
use Rattle.cax64_encoder.specs.Instruction.{Meaning, fault_in}
use Rattle.cax64_sink.specs.Sink.{State}
use Rattle.x64_of_port.specs.declared.refused.NotCore.{NotCore}
use Rattle.x64_of_port.specs.declared.refused.NotCore.TheVariants as why

-- Why an instruction of the port is none of the core: its very bytes are fixed, or else it can't be encoded for a sink.
abbrev pub not_core : {M : Type 0} → State → Meaning M → Option NotCore
not_core state meaning = if is_some (meaning state.offsets).exact then Some why.Nop else option_map (λ fault. why.Fault fault) (fault_in state meaning)
