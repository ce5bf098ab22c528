-- Why a list isn't put.
use Rattle.std.specs.Prelude.{◌≡◌, ℕ, ◌<◌, Option, Some, None, option_map, option_and_then, Result, Ok, Err, List, take, slice_get}
use Rattle.std.specs.Option.{option_or}
use Rattle.cax64_encoder.specs.declared.fault.Fault.{Fault}
use Rattle.cax64_sink.specs.declared.DeferredTarget.{DeferredTarget}
use Rattle.cax64_sink.specs.declared.DeferredTarget.TheVariants as target
use Rattle.x64_code_buffer.specs.Binding.{bind_answer}
use Rattle.x64_code_buffer.specs.declared.errors.BindError.{BindError}
use Rattle.x64_assemble.specs.Assembled.{spot_of}
use Rattle.x64_assemble.specs.declared.errors.LayoutError.{LayoutError}
use Rattle.x64_assemble.specs.declared.errors.LayoutError.TheVariants as refusal
use Rattle.x64_assemble.specs.declared.item.Item.{Item}
use Rattle.x64_assemble.specs.declared.item.Item.TheVariants as item

abbrev pub error_in : Result (Unit {0}) BindError → Option BindError
error_in (Ok done) = None
error_in (Err why) = Some why

-- Why a label that stands behind some items can't be bound, where a buffer gave so many labels and bound some: as `bind`
-- answers where these items are put, so that what one of them binds is bound.
abbrev pub bind_refusal : {I : Type 0} → ℕ → (DeferredTarget → Option ℕ) → List (Item I) → ℕ → Option BindError
bind_refusal given places before label = error_in (bind_answer given label (option_or (places (target.Label (record { 0 = label }))) (spot_of label before)))

-- why an item of this number that stands behind some others is refused, if it is
abbrev pub item_refusal : {I : Type 0} → (I → Option Fault) → ℕ → (DeferredTarget → Option ℕ) → List (Item I) → ℕ → Item I → Option LayoutError
item_refusal fault given places before n (item.Inst inst) = option_map (refusal.Fault n) (fault inst)
item_refusal fault given places before n (item.Jump jump to) = None
item_refusal fault given places before n (item.Bind bound) = option_map (refusal.Bind n) (bind_refusal given places before bound.0)

-- why the n-th item of a list is refused, if there is one and it is
abbrev pub refusal_at : {I : Type 0} → (I → Option Fault) → ℕ → (DeferredTarget → Option ℕ) → List (Item I) → ℕ → Option LayoutError
refusal_at fault given places items n = option_and_then (item_refusal fault given places (take n items) n) (slice_get items n)

-- the n-th item is refused for this, and none before it is refused
pub record IsFirstRefusal {I : Type 0} (fault : I → Option Fault) (given : ℕ) (places : DeferredTarget → Option ℕ) (items : List (Item I)) (n : ℕ) (why : LayoutError) : Type 0 where
  pub is : refusal_at fault given places items n ≡ Some why
  pub first : (k : ℕ) → k < n → refusal_at fault given places items k ≡ None

-- the item that a refusal names
abbrev pub number_in : LayoutError → Option ℕ
number_in (refusal.Fault n why) = Some n
number_in (refusal.Bind n why) = Some n
number_in refusal.TooMany = None
number_in refusal.NoMemory = None
