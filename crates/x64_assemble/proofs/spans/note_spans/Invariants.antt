use Rattle.std.proofs.Common.{◌≡◌, ◌≤◌, All, take}
use Rattle.x64_code_buffer.specs.Buffer.{buffer_state}
use Rattle.x64_layout.specs.Layout.{IsSpan}
use Rattle.x64_assemble.specs.Listed.{listed}
use Rattle.x64_assemble.specs.Assembled.{entries, spans_of}
use Rattle.x64_assemble.proofs.spans.note_spans.Given as goal

abbrev pub invariant-loop-item : goal.invariant-loop-item
invariant-loop-item g l = record {
  count : l.count ≡ entries (take l.item-index l.items);
  most : l.count ≤ l.item-index;
  spans : take l.count l.spans ≡ spans_of (λ i. (listed (g.I.Encode.line_meant i) (buffer_state l.buffer).offsets).len) l.items (take l.item-index l.items);
  each : All (IsSpan (entries l.items)) (take l.count l.spans);
}
