use Rattle.std.proofs.Common.{◌≡◌, ℕ, ◌+◌, ◌<◌, arith, ◌∙◌, ap, sym, subst, All, List, [], ◌∷◌, ◌++◌, length, set, take, append-nil}
use Rattle.x64_code_buffer.specs.Buffer.{buffer_state, label_count, places_of}
use Rattle.x64_layout.specs.Layout.{IsSpan}
use Rattle.x64_layout.specs.declared.span.Span.{Span}
use Rattle.x64_assemble.specs.Listed.{listed}
use Rattle.x64_assemble.specs.Assembled.{entries, span_of, spans_of, spot_of}
use Rattle.x64_assemble.specs.declared.item.Item.{Item}
use Rattle.x64_assemble.specs.declared.item.Item.TheVariants as item
use Rattle.x64_assemble.proofs.Entries.{can_put_all, each_more, entries_next, get_item, inst_span, item_spans, jump_span, noted_more, plain, spans_push, take_next}
use Rattle.x64_assemble.proofs.Items.{spot_most}
use Rattle.x64_assemble.proofs.spans.note_spans.Goals as goal
use Rattle.x64_assemble.proofs.spans.note_spans.Goals.{in-Inst, in-Jump}

pub len-requires : goal.len-requires
len-requires g c =
    let items : List (Item g.row.I.Denot) = c.args.items.now in
    let k : ℕ = c.loop-item.item-index in
    let y : Item g.row.I.Denot = item.Inst c.in-Inst.inst in
    let e : c.item-item.result ≡ y = cc in
    can_put_all (λ i. listed (g.I.Encode.line_meant i) (buffer_state c.args.buffer.now).offsets) (label_count c.args.buffer.now) (places_of c.args.buffer.now) items c.requires.tested k c.in-Inst.inst (get_item items k c.item-item.result y c.loop-item-test.true c.item-item.is e)

pub loop-item-preserved-in-Bind : goal.loop-item-preserved-in-Bind
loop-item-preserved-in-Bind g c =
    let items : List (Item g.row.I.Denot) = c.args.items.now in
    let len : g.row.I.Denot → ℕ = λ i. (listed (g.I.Encode.line_meant i) (buffer_state c.args.buffer.now).offsets).len in
    let k : ℕ = c.loop-item.item-index in
    let y : Item g.row.I.Denot = item.Bind c.in-Bind.field-0 in
    let e : c.item-item.result ≡ y = cc in
    let within : k < length items = c.loop-item-test.true in
    let held = c.loop-item.invariant in
    let more : spans_of len items (take (k + 1) items) ≡ spans_of len items (take k items) = ap (spans_of len items) (take_next items k c.item-item.result y within c.item-item.is e) ∙ spans_push len items (take k items) y ∙ append-nil (spans_of len items (take k items)) in
    record {
      count = omega (arith, held.count, entries_next items k c.item-item.result y within c.item-item.is e);
      most = omega (arith, held.most);
      spans = held.spans ∙ sym more;
      each = held.each;
    }

pub loop-item-preserved : goal.loop-item-preserved
loop-item-preserved g c =
    let items : List (Item g.row.I.Denot) = c.args.items.now in
    let len : g.row.I.Denot → ℕ = λ i. (listed (g.I.Encode.line_meant i) (buffer_state c.args.buffer.now).offsets).len in
    let k : ℕ = c.loop-item.item-index in
    let x : Item g.row.I.Denot = c.item-item.result in
    let within : k < length items = c.loop-item-test.true in
    let held = c.loop-item.invariant in
    let spans : List Span = c.loop-item.spans in
    let n : ℕ = c.loop-item.count in
    let in_spans : n < length spans = omega arith in
    let before : List Span = spans_of len items (take k items) in
    elim c.match-item.branch [
      | in-Inst w ↦
          let s : Span = plain w.len.result in
          let y : Item g.row.I.Denot = item.Inst w.in-Inst.inst in
          let e : x ≡ y = cc in
          let as_is : item_spans len items y ≡ s ∷ [] = ap (λ (m : ℕ). plain m ∷ []) (sym w.len.ensures.value) in
          let next : take (n + 1) (set spans n s) ≡ spans_of len items (take (k + 1) items) = noted_more spans before n s in_spans held.spans ∙ sym (ap (spans_of len items) (take_next items k x y within c.item-item.is e) ∙ spans_push len items (take k items) y ∙ ap (λ (z : List Span). before ++ z) as_is) in
          let each : All (IsSpan (entries items)) (take (n + 1) (set spans n s)) = each_more (IsSpan (entries items)) spans n s in_spans held.each (inst_span (entries items) w.len.result w.len.ensures.most) in
          record {
            count = omega (arith, held.count, entries_next items k x y within c.item-item.is e);
            most = omega (arith, held.most);
            spans = rw w.span-is next;
            each = rw w.span-is each;
          }
      | in-Jump w ↦
          let s : Span = w.span_of-span.result in
          let jump = w.in-Jump.jump in
          let label = w.in-Jump.label in
          let y : Item g.row.I.Denot = item.Jump jump label in
          let e : x ≡ y = cc in
          let is : s ≡ span_of jump (spot_of label.0 items) = w.span_of-span.ensures ∙ ap (span_of jump) (w.spot_in.ensures ∙ c.requires.binders label.0) in
          let as_is : item_spans len items y ≡ s ∷ [] = ap (λ (z : Span). z ∷ []) (sym is) in
          let next : take (n + 1) (set spans n s) ≡ spans_of len items (take (k + 1) items) = noted_more spans before n s in_spans held.spans ∙ sym (ap (spans_of len items) (take_next items k x y within c.item-item.is e) ∙ spans_push len items (take k items) y ∙ ap (λ (z : List Span). before ++ z) as_is) in
          let fits : IsSpan (entries items) s = subst (IsSpan (entries items)) (sym is) (jump_span jump (spot_of label.0 items) (entries items) (spot_most label.0 items)) in
          let each : All (IsSpan (entries items)) (take (n + 1) (set spans n s)) = each_more (IsSpan (entries items)) spans n s in_spans held.each fits in
          record {
            count = omega (arith, held.count, entries_next items k x y within c.item-item.is e);
            most = omega (arith, held.most);
            spans = rw w.span-is next;
            each = rw w.span-is each;
          }
    ]
