use Rattle.std.proofs.Common.{◌≡◌, ℕ, ◌<◌, ◌≤◌, None, take, length}
use Rattle.x64_code_buffer.specs.Buffer.{buffer_state, label_count, places_of}
use Rattle.x64_assemble.specs.Listed.{listed}
use Rattle.x64_assemble.specs.Assembled.{entries}
use Rattle.x64_assemble.specs.Putting.{AreBinders}
use Rattle.x64_assemble.specs.Refused.{refusal_at}
use Rattle.x64_assemble.proofs.tested.test_items.Given as goal

abbrev pub invariant-loop-n : goal.invariant-loop-n
invariant-loop-n g l = record {
  spot : l.spot ≡ entries (take l.n l.items);
  binders : AreBinders (take l.n l.items) l.binders;
  room : label_count l.buffer ≤ length l.binders;
  tested : (k : ℕ) → k < l.n → refusal_at (λ i. (listed (g.I.Encode.line_meant i) (buffer_state l.buffer).offsets).fault) (label_count l.buffer) (places_of l.buffer) l.items k ≡ None;
}
