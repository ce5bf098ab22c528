use Rattle.std.proofs.Common.{◌≡◌, ℕ, ◌≤◌, ◌<◌, Some, slice_get, slice_index, get_or}
use Rattle.x64_layout.specs.Growing.{room_at}
use Rattle.x64_layout.specs.declared.span.Span.{Span}
use Rattle.x64_layout.proofs.ripple.note_rooms.Given as goal

abbrev pub invariant-loop-n : goal.invariant-loop-n
invariant-loop-n l = (k : ℕ) (s : Span) → k < l.n → slice_get l.spans k ≡ Some s → room_at (slice_index l.places) k s.spot ≤ get_or l.rooms k 0
