use Rattle.std.specs.Prelude.{◌≡◌, ℕ, ℤ, List, length}
use Rattle.cax64_machine_code.specs.Fields.{IsBytes}
use Rattle.cax64_machine_code.specs.Len.{tail_len}
use Rattle.cax64_sink.specs.Call.{Action}
use Rattle.cax64_sink.specs.Run.{all_bytes}
use Rattle.cax64_encoder.specs.Encodes.{TailPartOf}
use Rattle.cax64_encoder.specs.Numbered.{plain}
use Rattle.cax64_encoder.specs.Place.{place_read}
use Rattle.cax64_encoder.specs.declared.role.PlaceOperand.{PlaceOperand}

-- actions that are the tail of a place, of as many bytes as it has
pub record IsTailPart (operand : PlaceOperand ℕ) (disp : ℤ) (at_end reg : ℕ) (acts : List Action) : Type 0 where
  pub part : TailPartOf plain.enc disp at_end reg operand acts
  pub bytes : IsBytes (all_bytes acts)
  pub length : length (all_bytes acts) ≡ tail_len (place_read plain.enc disp at_end operand)
