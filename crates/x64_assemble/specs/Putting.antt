-- Steps of the proofs: where labels of a list are noted, and a list on its way into a buffer.
use Rattle.std.specs.Prelude.{◌≡◌, ◌<◌, ℕ, ◌+◌, ◌-◌, ◌==◌, Bool, false, take, if◌then◌else◌, Option, Some, None, option_and_then, List, ◌++◌, length, sum, drop, slice_get}
use Rattle.cax64_sink.specs.Keeps.{Keeps}
use Rattle.cax64_sink.specs.Room.{HasRoom}
use Rattle.cax64_sink.specs.Sink.{State}
use Rattle.cax64_sink.specs.declared.Label.{Label}
use Rattle.cax64_sink.specs.declared.DeferredTarget.{DeferredTarget}
use Rattle.cax64_sink.specs.declared.DeferredTarget.TheVariants as target
use Rattle.x64_code_buffer.specs.Laid.{Laid, LinesRead, Piece, readings_in}
use Rattle.x64_layout.specs.Layout.{place_in}
use Rattle.x64_assemble.specs.Assembled.{EachReads, IsNoLabelOf, all_told, entries, spot_of}
use Rattle.x64_assemble.specs.Listed.{Listed}
use Rattle.x64_assemble.specs.declared.binders.Binder.{Binder}
use Rattle.x64_assemble.specs.declared.item.Item.{Item}
use Rattle.x64_assemble.specs.declared.item.Item.TheVariants as item

-- an item is the position of this label
abbrev pub binds_it : {I : Type 0} → ℕ → Item I → Bool
binds_it label (item.Inst inst) = false
binds_it label (item.Jump jump to) = false
binds_it label (item.Bind bound) = bound.0 == label

-- what a note of a label says: it counts where the item that it names binds the label
abbrev pub spot_noted : {I : Type 0} → List (Item I) → List Binder → ℕ → Option ℕ
spot_noted items binders label = option_and_then (λ b. option_and_then (λ x. if binds_it label x then Some b.spot else None) (slice_get items b.item)) (slice_get binders label)

-- the spots of all labels of some items are noted, and no others
abbrev pub AreBinders : {I : Type 0} → List (Item I) → List Binder → Type 0
AreBinders items binders = (label : ℕ) → spot_noted items binders label ≡ spot_of label items

-- each instruction of a list can be put
abbrev pub CanPut : {I : Type 0} → (I → Listed) → List (Item I) → Type 0
CanPut {I = I} meant items = (k : ℕ) (i : I) → slice_get items k ≡ Some (item.Inst i) → (meant i).fault ≡ None

-- each label that a list binds was given, and nothing binds it before
abbrev pub AreFree : {I : Type 0} → ℕ → (DeferredTarget → Option ℕ) → List (Item I) → Type 0
AreFree given places items = (k : ℕ) (label : Label) → slice_get items k ≡ Some (item.Bind label) → (label.0 < given) × (places (target.Label label) ≡ None) × (spot_of label.0 (take k items) ≡ None)

-- A buffer has got the first items of a list, and has room for the others, and 13 bytes and a notice more.
pub record Put {I : Type 0} (meant : I → Listed) (lens : List ℕ) (all done : List (Item I)) (s t : State) (old new : DeferredTarget → Option ℕ) : Type 0 where
  pub more : List Piece
  pub added : List ℕ
  pub reads : EachReads meant lens all 0 done more
  pub read : LinesRead (readings_in more) added
  pub bytes : t.bytes ≡ s.bytes ++ added
  pub told : t.notices ≡ s.notices ++ all_told meant all (length s.bytes) done more
  pub laid : (pieces : List Piece) → Laid pieces (length s.bytes) s old → Laid (pieces ++ more) (length t.bytes) t new
  pub size : length t.bytes ≡ length s.bytes + place_in lens (entries done)
  pub bound : (label spot : ℕ) → spot_of label done ≡ Some spot → new (target.Label (record { 0 = label })) ≡ Some (length s.bytes + place_in lens spot)
  pub others : (target : DeferredTarget) → IsNoLabelOf done target → new target ≡ old target
  pub keeps : Keeps s t
  pub byte_room : HasRoom t.byte_room (13 + sum (drop (entries done) lens))
  pub notice_room : HasRoom t.notice_room (1 + (length all - length done))
