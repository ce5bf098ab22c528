use Rattle.std.proofs.Common.{◌≡◌, ℕ, ◌<◌, Some, slice_get, get_or}
use Rattle.x64_layout.specs.declared.span.Span.{Span}
use Rattle.x64_layout.proofs.least.begin.Given as goal

abbrev pub invariant-loop-n : goal.invariant-loop-n
invariant-loop-n l = (k : ℕ) (s : Span) → k < l.n → slice_get l.spans k ≡ Some s → get_or l.lens k 0 ≡ s.least
