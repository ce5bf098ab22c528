use Rattle.std.proofs.Common.{◌≡◌, ℕ, arith, rules, List, Option, take, subst}
use Rattle.std.proofs.lemmas.Grind.{common_steps}
use Rattle.cax64_encoder.specs.declared.fault.Fault.{Fault}
use Rattle.x64_code_buffer.specs.Buffer.{buffer_state, label_count, places_of}
use Rattle.x64_layout.specs.Layout.{AreSpans}
use Rattle.x64_layout.specs.declared.span.Span.{Span}
use Rattle.x64_assemble.specs.Listed.{listed}
use Rattle.x64_assemble.proofs.Entries.{are_free, can_put_all, first_named, spans_are}
use Rattle.x64_assemble.proofs.assemble.Layout.assemble.Goals as goal

pub returns-in-Err-clause-first : goal.returns-in-Err-clause-first
returns-in-Err-clause-first g c =
    let fault : g.row.I.Denot → Option Fault = λ i. (listed (g.I.Encode.line_meant i) (buffer_state c.args.buffer.now).offsets).fault in
    first_named fault (label_count c.args.buffer.now) (places_of c.args.buffer.now) c.args.items.now c.in-Err.error c.in-Err.ensures.first

pub put_least-requires-clause-can_put : goal.put_least-requires-clause-can_put
put_least-requires-clause-can_put g c = can_put_all (λ i. listed (g.I.Encode.line_meant i) (buffer_state c.args.buffer.now).offsets) (label_count c.args.buffer.now) (places_of c.args.buffer.now) c.args.items.now c.in_default.ensures.tested

pub put_least-requires-clause-free : goal.put_least-requires-clause-free
put_least-requires-clause-free g c =
    let fault : g.row.I.Denot → Option Fault = λ i. (listed (g.I.Encode.line_meant i) (buffer_state c.args.buffer.now).offsets).fault in
    are_free fault (label_count c.args.buffer.now) (places_of c.args.buffer.now) c.args.items.now c.in_default.ensures.tested

pub put_least-requires-clause-are_spans : goal.put_least-requires-clause-are_spans
put_least-requires-clause-are_spans g c =
    let size : g.row.I.Denot → ℕ = λ i. (listed (g.I.Encode.line_meant i) (buffer_state c.args.buffer.now).offsets).len in
    let there : AreSpans (take c.note_spans-count.result c.note_spans-count.new.spans) = spans_are size c.args.items.now (take c.note_spans-count.result c.note_spans-count.new.spans) c.note_spans-count.ensures.spans c.note_spans-count.ensures.each (omega arith) in
    let same : c.note_spans-count.new.spans ≡ c.deref-3.result.now = first_of (cc, search rules, grind (arith, common_steps)) in
    subst (λ (z : List Span). AreSpans (take c.note_spans-count.result z)) same there
