-- What is said of a list of what can be encoded, by a line of whatever table: of each what its type says of itself.
use Rattle.std.specs.Prelude.{◌≡◌, ◌<◌, ℕ, Option, option_and_then, List, [], ◌∷◌, length, take, slice_get, Some}
use Rattle.std.specs.List.{sum_by}
use Rattle.cax64_encoder.specs.declared.fault.Fault.{Fault}
use Rattle.cax64_sink.specs.Keeps.{Keeps}
use Rattle.cax64_sink.specs.Room.{FallsBy}
use Rattle.cax64_sink.specs.Sink.{State}
use Rattle.x64_encode.specs.Encode.{LineMeaning, SamePut, fault_by, len_by, notices_by}

-- how many bytes they have
abbrev pub each_len : {A M : Type 0} → State → (A → LineMeaning M) → List A → ℕ
each_len state meaning insts = sum_by (λ i. len_by state (meaning i)) insts

-- how many notices they have
abbrev pub each_notice_count : {A M : Type 0} → State → (A → LineMeaning M) → List A → ℕ
each_notice_count state meaning insts = sum_by (λ i. notices_by state (meaning i)) insts

-- the fault of the one at a place of a list, if it has one
abbrev pub each_fault_at : {A M : Type 0} → State → (A → LineMeaning M) → List A → ℕ → Option Fault
each_fault_at state meaning insts n = option_and_then (λ i. fault_by state (meaning i)) (slice_get insts n)

-- A sink has got them one behind the other.
abbrev pub AddsEach : {A : Type 0} → (A → State → State → Type 0) → List A → State → State → Type 0
AddsEach adds [] old new = SamePut old new
AddsEach adds (i ∷ later) old new = (between : State) × adds i old between × Keeps old between × AddsEach adds later between new

-- A sink has got so many whole ones, which lead to a state between, with rooms that fall by no more than these have; and of
-- the next what a refusal leaves.
pub record LeavesEach {A M : Type 0} (adds leaves : A → State → State → Type 0) (meaning : A → LineMeaning M) (insts : List A) (whole : ℕ) (old new : State) : Type 0 where
  pub within : whole < length insts
  pub between : State
  pub before : AddsEach adds (take whole insts) old between
  pub keeps : Keeps old between
  pub byte_room : FallsBy old.byte_room between.byte_room (each_len old meaning (take whole insts))
  pub notice_room : FallsBy old.notice_room between.notice_room (each_notice_count old meaning (take whole insts))
  pub next : A
  pub next_is : slice_get insts whole ≡ Some next
  pub refused : leaves next between new
