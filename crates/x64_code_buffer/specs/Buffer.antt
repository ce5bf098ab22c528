-- What a contract sees of a `CodeBuffer`.
use Rattle.std.specs.Prelude.{◌≡◌, ℕ, Option, List}
use Rattle.std.proofs.Common.{◌∙◌}
use Rattle.cax64_machine_code.specs.declared.reading.Reading.{Reading}
use Rattle.cax64_sink.specs.Recorder.{recorder_state}
use Rattle.cax64_sink.specs.Room.{FallsBy}
use Rattle.cax64_sink.specs.Sink.{State}
use Rattle.cax64_sink.specs.declared.DeferredTarget.{DeferredTarget}
use Rattle.x64_code_buffer.specs.Binding.{SamePlaces, place_bound}
use Rattle.x64_code_buffer.specs.Label.{spare_labels}
use Rattle.x64_code_buffer.specs.Filled.{Filled, FilledBefore}
use Rattle.x64_code_buffer.specs.Laid.{Piece, Laid, LaidBefore}
use Rattle.x64_code_buffer.specs.declared.buffer.CodeBuffer.{CodeBuffer}

-- it as a sink
abbrev pub buffer_state : {A : Type 0} → CodeBuffer A → State
buffer_state b = recorder_state b.recorder

-- how many labels it gave
abbrev pub label_count : {A : Type 0} → CodeBuffer A → ℕ
label_count b = b.bindings.labels.given

-- how many more labels it gives for sure
abbrev pub label_room : {A : Type 0} → CodeBuffer A → ℕ
label_room b = spare_labels b.bindings.labels

-- the position that a target is bound to
abbrev pub places_of : {A : Type 0} → CodeBuffer A → DeferredTarget → Option ℕ
places_of b target = place_bound b.bindings target

-- the labels that it gave, the room for others, and what is bound are as before
pub record KeepsLabels {A : Type 0} (old new : CodeBuffer A) : Type 0 where
  pub labels : label_count new ≡ label_count old
  pub label_room : label_room new ≡ label_room old
  pub places : SamePlaces (places_of old) (places_of new)

-- so they are, and so they are again
pub keeps_labels_on : {A : Type 0} (a b c : CodeBuffer A) → KeepsLabels a b → KeepsLabels b c → KeepsLabels a c
keeps_labels_on a b c h k = record {
  labels = k.labels ∙ h.labels;
  label_room = k.label_room ∙ h.label_room;
  places = λ target. k.places target ∙ h.places target;
}

-- With whatever the old one was filled, the new one is; and in whatever pieces it was laid out.
pub record StaysFilled {A : Type 0} (old new : CodeBuffer A) : Type 0 where
  pub filled : (readings : List Reading) (n : ℕ) → Filled readings n (buffer_state old) (places_of old) → Filled readings n (buffer_state new) (places_of new)
  pub laid : (pieces : List Piece) (n : ℕ) → Laid pieces n (buffer_state old) (places_of old) → Laid pieces n (buffer_state new) (places_of new)

-- With whatever the old one was filled, the new one is but that uses at these positions are told besides; and so of the pieces
-- that it was laid out in.
pub record StaysBefore {A : Type 0} (more : List ℕ) (old new : CodeBuffer A) : Type 0 where
  pub filled : (readings : List Reading) (n : ℕ) → Filled readings n (buffer_state old) (places_of old) → FilledBefore more readings n (buffer_state new) (places_of new)
  pub laid : (pieces : List Piece) (n : ℕ) → Laid pieces n (buffer_state old) (places_of old) → LaidBefore more pieces n (buffer_state new) (places_of new)

-- Bytes, notices and offsets are as before, and the rooms no smaller.
pub record AsBefore (old new : State) : Type 0 where
  pub bytes : new.bytes ≡ old.bytes
  pub notices : new.notices ≡ old.notices
  pub offsets : new.offsets ≡ old.offsets
  pub byte_room : FallsBy old.byte_room new.byte_room 0
  pub notice_room : FallsBy old.notice_room new.notice_room 0
