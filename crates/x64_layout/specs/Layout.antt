-- Lengths of a row of spans, some of which jump: which of them are right, and which are the least.
use Rattle.std.specs.Prelude.{◌≡◌, ◌≤◌, ◌⊎◌, ℕ, ◌+◌, pos, ◌-ℤ◌, Option, Some, IfSome, List, All, length, take, sum, slice_get, slice_index, FitsSigned}
use Rattle.std.specs.Int.{w8}
use Rattle.x64_layout.specs.declared.span.Span.{Span}
use Rattle.x64_layout.specs.declared.span.TheConstants.{MOST_SPANS}

-- A span is no longer than an instruction here may be, and jumps to a span of the row or to its end.
pub record IsSpan (count : ℕ) (s : Span) : Type 0 where
  pub most : s.least + s.more ≤ 13
  pub within : IfSome s.spot (λ spot. spot ≤ count)

-- Spans that can be laid out: so few that all together have less than 2 to the 31 bytes.
pub record AreSpans (spans : List Span) : Type 0 where
  pub few : length spans ≤ MOST_SPANS
  pub each : All (IsSpan (length spans)) spans

-- the position of the n-th span, from the first one's; that of the end has the number of all spans
abbrev pub place_in : List ℕ → ℕ → ℕ
place_in lens n = sum (take n lens)

-- From the end of the n-th span the spot that it jumps to, if it jumps, is at a distance of eight bits, where spans have
-- these positions. (Intel SDM, volume 2, JMP and Jcc: rel8.)
abbrev pub Reaches : (ℕ → ℕ) → ℕ → Option ℕ → Type 0
Reaches place n spot = IfSome spot (λ spot. FitsSigned w8 (pos (place spot) -ℤ pos (place (n + 1))))

-- A span has its least length, and reaches its spot; or it has so many bytes more.
abbrev pub Stands : List ℕ → ℕ → Span → ℕ → Type 0
Stands lens n s len = ((len ≡ s.least) × Reaches (place_in lens) n s.spot) ⊎ (len ≡ s.least + s.more)

pub record IsLayout (spans : List Span) (lens : List ℕ) : Type 0 where
  pub as_many : length lens ≡ length spans
  pub each : (n : ℕ) (s : Span) → slice_get spans n ≡ Some s → Stands lens n s (slice_index lens n)

abbrev pub NoLonger : List ℕ → List ℕ → Type 0
NoLonger lens other = (n : ℕ) → slice_index lens n ≤ slice_index other n

-- a layout, each of whose spans is as short as in any
pub record IsLeast (spans : List Span) (lens : List ℕ) : Type 0 where
  pub layout : IsLayout spans lens
  pub least : (other : List ℕ) → IsLayout spans other → NoLonger lens other

-- the positions of all spans, and behind them that of the end
abbrev pub ArePlaces : List ℕ → List ℕ → Type 0
ArePlaces lens places = (n : ℕ) → n ≤ length lens → slice_index places n ≡ place_in lens n
