use Rattle.std.specs.Prelude.{Option, Some, None, List, [], ◌∷◌, ◌++◌, ◌≡◌, true, length, ◌≤◌}
use Rattle.cax64_address.specs.Emitted.{target_actions}
use Rattle.cax64_sink.specs.Call.{Action, trap}
use Rattle.cax64_sink.specs.Puts.{puts}
use Rattle.cax64_sink.specs.Rest.{long_actions, word_actions, is_imm_len}
use Rattle.cax64_sink.specs.declared.TrapCode.{TrapCode}
use Rattle.cax64_encoder.specs.declared.code.Code.{Code}
use Rattle.cax64_encoder.specs.declared.code.TailPart.{TailPart}

-- the sink calls that a code stands for

abbrev pub trap_actions : Option TrapCode → List Action
trap_actions None = []
trap_actions (Some code) = trap code ∷ []

abbrev pub tail_actions : TailPart → List Action
tail_actions tail = puts tail.front ++ (target_actions tail.target ++ long_actions tail.long)

abbrev pub code_actions : Code → List Action
code_actions code = trap_actions code.trap ++ (puts code.front ++ (target_actions code.target ++ (long_actions code.long ++ word_actions code.imm_len code.imm)))

-- a code has bytes in front, and an immediate of a size that there is
pub record IsCode (code : Code) : Type 0 where
  pub front : 1 ≤ length code.front
  pub imm_len : is_imm_len code.imm_len ≡ true
