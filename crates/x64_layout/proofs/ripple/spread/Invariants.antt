use Rattle.std.proofs.Common.{◌≤◌, ◌+◌, ◌*◌, ◌-◌, length, sum}
use Rattle.x64_layout.specs.Growing.{IsBelow, HasRooms}
use Rattle.x64_layout.specs.Layout.{place_in}
use Rattle.x64_layout.proofs.ripple.spread.Given as goal

abbrev pub invariant-loop-n : goal.invariant-loop-n
invariant-loop-n l = record {
  below : IsBelow l.spans l.lens;
  rooms : HasRooms (place_in l.lens) l.spans l.rooms;
  grew : sum l.initial.lens ≤ sum l.lens;
  within : l.n ≤ length l.spans;
}

-- each growth counts for more than all steps
abbrev pub decreases-loop-n : goal.decreases-loop-n
decreases-loop-n l = (13 * length l.spans - sum l.lens) * (length l.spans + 1) + (length l.spans - l.n)
