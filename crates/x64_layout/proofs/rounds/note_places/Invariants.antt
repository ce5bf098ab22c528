use Rattle.std.proofs.Common.{◌≡◌, ℕ, ◌<◌, get_or}
use Rattle.x64_layout.specs.Layout.{place_in}
use Rattle.x64_layout.proofs.rounds.note_places.Given as goal

abbrev pub invariant-loop-n : goal.invariant-loop-n
invariant-loop-n l = record {
  noted : (k : ℕ) → k < l.n → get_or l.places k 0 ≡ place_in l.lens k;
  at : l.at ≡ place_in l.lens l.n;
}
