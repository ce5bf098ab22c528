use Rattle.std.proofs.Common.{◌≡◌, take}
use Rattle.x64_code_buffer.specs.Buffer.{buffer_state, label_count, places_of}
use Rattle.x64_assemble.specs.Listed.{listed}
use Rattle.x64_assemble.specs.Assembled.{entries}
use Rattle.x64_assemble.specs.Putting.{Put}
use Rattle.x64_assemble.proofs.put.put_items.Given as goal

abbrev pub invariant-loop-item : goal.invariant-loop-item
invariant-loop-item g l = record {
  n : l.n ≡ entries (take l.item-index l.items);
  put : Put (λ i. listed (g.I.Encode.line_meant i) (buffer_state l.initial.buffer).offsets) l.lens l.items (take l.item-index l.items) (buffer_state l.initial.buffer) (buffer_state l.buffer) (places_of l.initial.buffer) (places_of l.buffer);
  labels : label_count l.buffer ≡ label_count l.initial.buffer;
}
