-- Lengths on their way to the least layout.
use Rattle.std.specs.Prelude.{◌≡◌, ◌≤◌, ◌<◌, ◌⊎◌, ℕ, ◌+◌, ◌-◌, nat_le, if◌then◌else◌, Option, Some, None, List, length, slice_get, slice_index}
use Rattle.x64_layout.specs.Layout.{IsLayout, NoLonger}
use Rattle.x64_layout.specs.declared.span.Span.{Span}

-- Each span has its least length or its longer one, and has at least as many bytes in each layout.
pub record IsBelow (spans : List Span) (lens : List ℕ) : Type 0 where
  pub as_many : length lens ≡ length spans
  pub chosen : (n : ℕ) (s : Span) → slice_get spans n ≡ Some s → (slice_index lens n ≡ s.least) ⊎ (slice_index lens n ≡ s.least + s.more)
  pub below : (other : List ℕ) → IsLayout spans other → NoLonger lens other

-- How many bytes more make a jump too long for eight bits, whose end and spot are at these positions: none, if it is so.
abbrev pub room_of : ℕ → ℕ → ℕ
room_of end place = if nat_le place end then place + 129 - end else end + 128 - place

-- the same of the n-th span, where spans have these positions; what doesn't jump has more than enough
abbrev pub room_at : (ℕ → ℕ) → ℕ → Option ℕ → ℕ
room_at place n None = 255
room_at place n (Some spot) = room_of (place (n + 1)) (place spot)

-- Each span has no more room than is noted, where spans have these positions.
abbrev pub HasRooms : (ℕ → ℕ) → List Span → List ℕ → Type 0
HasRooms place spans rooms = (n : ℕ) (s : Span) → slice_get spans n ≡ Some s → room_at place n s.spot ≤ slice_index rooms n

-- a span jumps over another, or back to it or over itself, so that its distance holds that one's length
abbrev pub GoesOver : ℕ → Option ℕ → ℕ → Type 0
GoesOver by None n = ⊥
GoesOver by (Some spot) n = ((by < n) × (n < spot)) ⊎ ((n ≤ by) × (spot ≤ n))
