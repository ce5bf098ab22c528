-- What labels and constants are bound to.
use Rattle.std.specs.Prelude.{◌≡◌, ◌≢◌, ℕ, nat_lt, nat_eq, if◌then◌else◌, Option, Some, None, option_and_then, Result, Ok, Err, slice_index_or}
use Rattle.std.specs.HashMap.{get}
use Rattle.std.specs.Option.{option_or}
use Rattle.cax64_sink.specs.declared.DeferredTarget.{DeferredTarget}
use Rattle.cax64_sink.specs.declared.DeferredTarget.TheVariants as target
use Rattle.x64_code_buffer.specs.declared.errors.BindError.{BindError}
use Rattle.x64_code_buffer.specs.declared.errors.BindError.TheVariants.{Unknown, Twice}
use Rattle.x64_code_buffer.specs.declared.bindings.Bindings.{Bindings}
use Rattle.x64_code_buffer.specs.Label.{slot_place, no_slot, label_place}

-- the position that a target is bound to
abbrev pub place_bound : {A : Type 0} → Bindings A → DeferredTarget → Option ℕ
place_bound b (target.Label label) = label_place b.labels label.0
place_bound b (target.Constant constant) = option_or (slot_place (slice_index_or b.listed.items constant.0 no_slot)) (option_and_then (λ others. get nat_eq others constant.0) b.others)
place_bound b target.None = None

-- no binding changes
abbrev pub SamePlaces : (DeferredTarget → Option ℕ) → (DeferredTarget → Option ℕ) → Type 0
SamePlaces old new = (target : DeferredTarget) → new target ≡ old target

-- one binding is added, of a target that had none, and no other changes
pub record AddsBinding (target : DeferredTarget) (place : ℕ) (old new : DeferredTarget → Option ℕ) : Type 0 where
  pub free : old target ≡ None
  pub bound : new target ≡ Some place
  pub others : (other : DeferredTarget) → other ≢ target → new other ≡ old other

-- what `bind` answers for a label that is bound to this position, if to any
abbrev pub unless_bound : Option ℕ → Result (Unit {0}) BindError
unless_bound None = Ok tt
unless_bound (Some place) = Err Twice

-- what `bind` answers for a label of this number where so many were given
abbrev pub bind_answer : ℕ → ℕ → Option ℕ → Result (Unit {0}) BindError
bind_answer given number bound = if nat_lt number given then unless_bound bound else Err Unknown
