-- What is put for a tail.
use Rattle.std.specs.Prelude.{◌≡◌, ◌≤◌, ℕ, List, [], ◌∷◌, ◌++◌, Option, Some, None, length}
use Rattle.cax64_machine_code.specs.declared.reading.Place.{Place}
use Rattle.cax64_machine_code.specs.Tail.{IsTail}
use Rattle.cax64_machine_code.specs.Shortest.{Shortest}
use Rattle.cax64_sink.specs.Ends.{EndsInBytes}
use Rattle.cax64_sink.specs.Run.{all_bytes, all_notices}
use Rattle.cax64_sink.specs.Call.{Action, put, target}
use Rattle.cax64_sink.specs.Rest.{long_actions}
use Rattle.cax64_sink.specs.declared.DeferredTarget.{DeferredTarget}
use Rattle.cax64_sink.specs.declared.Notice.{Notice}
use Rattle.cax64_address.specs.OperandTail.{TailMeant}
use Rattle.cax64_address.specs.declared.tail.TailCode.{TailCode}

-- what is put for a code of a tail
abbrev pub byte_actions : Option ℕ → List Action
byte_actions None = []
byte_actions (Some byte) = put (byte ∷ []) ∷ []

abbrev pub target_actions : Option DeferredTarget → List Action
target_actions None = []
target_actions (Some place) = target place ∷ []

abbrev pub tail_actions : TailCode → List Action
tail_actions code = put (code.modrm ∷ []) ∷ (byte_actions code.sib ++ (byte_actions code.byte ++ (target_actions code.target ++ long_actions code.long)))

-- actions whose bytes are the shortest tail of this reg field and place, and whose notices these
pub record TailOf (x b factor reg : ℕ) (place : Place) (told : ℕ → List Notice) (acts : List Action) : Type 0 where
  pub tail : IsTail x b factor reg place (all_bytes acts)
  pub shortest : Shortest x b factor reg place (all_bytes acts)
  pub notices : (at : ℕ) → all_notices acts at ≡ told at
  pub ends : EndsInBytes acts
  pub most : length (all_bytes acts) ≤ 6

-- the same, of the tail that an operand means
abbrev pub PutsTail : TailMeant → List Action → Type 0
PutsTail m acts = TailOf m.x m.b m.factor m.reg m.place m.told acts
