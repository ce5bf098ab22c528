use Rattle.std.proofs.Common.{◌≡◌, ℕ, ◌+◌, ◌<◌, ◌≤◌, arith, refl, ◌∙◌, ap, sym, subst, Option, Some, None, List, [], ◌∷◌, ◌++◌, length, take, slice_get, ℤ, Ok}
use Rattle.std.specs.Prelude.{IfSome, slice_index}
use Rattle.std.proofs.lemmas.List.{length-take-le, take_all}
use Rattle.cax64_sink.specs.Sink.{State}
use Rattle.cax64_sink.specs.declared.DeferredTarget.{DeferredTarget}
use Rattle.cax64_sink.specs.declared.DeferredTarget.TheVariants as target
use Rattle.x64_code_buffer.specs.Buffer.{buffer_state, label_count, places_of}
use Rattle.x64_layout.proofs.Growth.{layout_bytes}
use Rattle.x64_layout.specs.Layout.{Stands}
use Rattle.x64_assemble.specs.Assembled.{JumpReads, WholeReads, entries, jump_told, span_of, spot_of}
use Rattle.x64_assemble.specs.Listed.{GotEntry, Listed, listed}
use Rattle.x64_assemble.specs.Putting.{Put}
use Rattle.x64_assemble.specs.declared.item.Item.{Item}
use Rattle.x64_assemble.specs.declared.item.Item.TheVariants as item
use Rattle.x64_assemble.proofs.Items.{spot_most}
use Rattle.x64_assemble.proofs.Pieces.{put_bind, put_entry}
use Rattle.x64_assemble.proofs.Entries.{answer_ok, entries_next, get_item, inst_at, jump_at, spans_few, take_next}
use Rattle.x64_assemble.proofs.Steps.{given_ok}
use Rattle.x64_assemble.proofs.put.put_items.Goals as goal
use Rattle.x64_assemble.proofs.put.put_items.Goals.{in-Inst, in-Jump, in-Bind}

pub overflow_add-n : goal.overflow_add-n
overflow_add-n g c =
    let items : List (Item g.row.I.Denot) = c.args.items.now in
    let size : g.row.I.Denot → ℕ = λ i. (listed (g.I.Encode.line_meant i) (buffer_state c.args.buffer.now).offsets).len in
    let k : ℕ = c.loop-item.item-index in
    let y : Item g.row.I.Denot = item.Inst c.in-Inst.inst in
    let e : c.item-item.result ≡ y = cc in
    let at = inst_at size items k c.in-Inst.inst c.args.lens.now (get_item items k c.item-item.result y c.loop-item-test.true c.item-item.is e) c.requires.layout in
    omega (arith, at.0, c.loop-item.invariant.n, c.requires.layout.as_many, c.requires.spans.few)

pub put_jump-requires-clause-stands : goal.put_jump-requires-clause-stands
put_jump-requires-clause-stands g c =
    let items : List (Item g.row.I.Denot) = c.args.items.now in
    let size : g.row.I.Denot → ℕ = λ i. (listed (g.I.Encode.line_meant i) (buffer_state c.args.buffer.now).offsets).len in
    let lens : List ℕ = c.args.lens.now in
    let k : ℕ = c.loop-item.item-index in
    let jump = c.in-Jump.jump in
    let label = c.in-Jump.label in
    let y : Item g.row.I.Denot = item.Jump jump label in
    let e : c.item-item.result ≡ y = cc in
    let at = jump_at size items k jump label lens (get_item items k c.item-item.result y c.loop-item-test.true c.item-item.is e) c.requires.layout in
    let spot : spot_of label.0 items ≡ c.spot_in-spot.result = sym (c.spot_in-spot.ensures ∙ c.requires.binders label.0) in
    let n : entries (take k items) ≡ c.loop-item.n = sym c.loop-item.invariant.n in
    subst (λ (o : Option ℕ). Stands lens c.loop-item.n (span_of jump o) (slice_index lens c.loop-item.n)) spot
    (subst (λ (m : ℕ). Stands lens m (span_of jump (spot_of label.0 items)) (slice_index lens m)) n at.1)

pub put_jump-requires-clause-small : goal.put_jump-requires-clause-small
put_jump-requires-clause-small g c = layout_bytes _ c.args.lens.now c.requires.spans c.requires.layout

pub put_jump-requires-clause-within : goal.put_jump-requires-clause-within
put_jump-requires-clause-within g c =
    let items : List (Item g.row.I.Denot) = c.args.items.now in
    let size : g.row.I.Denot → ℕ = λ i. (listed (g.I.Encode.line_meant i) (buffer_state c.args.buffer.now).offsets).len in
    let k : ℕ = c.loop-item.item-index in
    let y : Item g.row.I.Denot = item.Jump c.in-Jump.jump c.in-Jump.label in
    let e : c.item-item.result ≡ y = cc in
    let at = jump_at size items k c.in-Jump.jump c.in-Jump.label c.args.lens.now (get_item items k c.item-item.result y c.loop-item-test.true c.item-item.is e) c.requires.layout in
    omega (arith, at.0, c.loop-item.invariant.n)

pub put_jump-requires-clause-spot : goal.put_jump-requires-clause-spot
put_jump-requires-clause-spot g c =
    let items : List (Item g.row.I.Denot) = c.args.items.now in
    let size : g.row.I.Denot → ℕ = λ i. (listed (g.I.Encode.line_meant i) (buffer_state c.args.buffer.now).offsets).len in
    let spot : spot_of c.in-Jump.label.0 items ≡ c.spot_in-spot.result = sym (c.spot_in-spot.ensures ∙ c.requires.binders c.in-Jump.label.0) in
    let as_many : entries items ≡ length c.args.lens.now = sym (c.requires.layout.as_many ∙ spans_few size items items) in
    subst (λ (o : Option ℕ). IfSome o (λ (s : ℕ). s ≤ length c.args.lens.now)) spot
    (subst (λ (m : ℕ). IfSome (spot_of c.in-Jump.label.0 items) (λ (s : ℕ). s ≤ m)) as_many (spot_most c.in-Jump.label.0 items))

pub overflow_add-n-in-Jump : goal.overflow_add-n-in-Jump
overflow_add-n-in-Jump g c =
    let items : List (Item g.row.I.Denot) = c.args.items.now in
    let size : g.row.I.Denot → ℕ = λ i. (listed (g.I.Encode.line_meant i) (buffer_state c.args.buffer.now).offsets).len in
    let k : ℕ = c.loop-item.item-index in
    let y : Item g.row.I.Denot = item.Jump c.in-Jump.jump c.in-Jump.label in
    let e : c.item-item.result ≡ y = cc in
    let at = jump_at size items k c.in-Jump.jump c.in-Jump.label c.args.lens.now (get_item items k c.item-item.result y c.loop-item-test.true c.item-item.is e) c.requires.layout in
    omega (arith, at.0, c.loop-item.invariant.n, c.requires.layout.as_many, c.requires.spans.few)

pub unwrap-requires : goal.unwrap-requires
unwrap-requires g c =
    let items : List (Item g.row.I.Denot) = c.args.items.now in
    let k : ℕ = c.loop-item.item-index in
    let label = c.in-Bind.label in
    let y : Item g.row.I.Denot = item.Bind label in
    let e : c.item-item.result ≡ y = cc in
    let held = c.loop-item.invariant in
    let free = c.requires.free k label (get_item items k c.item-item.result y c.loop-item-test.true c.item-item.is e) in
    let none : places_of c.loop-item.buffer (target.Label label) ≡ None = held.put.others (target.Label label) free.2 ∙ free.1 in
    let ok : c.bind.result ≡ Ok tt = c.bind.ensures.answer ∙ answer_ok (label_count c.loop-item.buffer) label.0 (places_of c.loop-item.buffer (target.Label label)) (omega (arith, held.labels, free.0)) none in
    rw ok refl

pub loop-item-preserved : goal.loop-item-preserved
loop-item-preserved g c =
    let items : List (Item g.row.I.Denot) = c.args.items.now in
    let lens : List ℕ = c.args.lens.now in
    let s : State = buffer_state c.args.buffer.now in
    let u : State = buffer_state c.loop-item.buffer in
    let old : DeferredTarget → Option ℕ = places_of c.args.buffer.now in
    let mid : DeferredTarget → Option ℕ = places_of c.loop-item.buffer in
    let meant : g.row.I.Denot → Listed = λ i. listed (g.I.Encode.line_meant i) s.offsets in
    let size : g.row.I.Denot → ℕ = λ i. (meant i).len in
    let k : ℕ = c.loop-item.item-index in
    let n : ℕ = entries (take k items) in
    let x : Item g.row.I.Denot = c.item-item.result in
    let held = c.loop-item.invariant in
    let within : k < length items = c.loop-item-test.true in
    let few : length (take k items) < length items = omega (arith, length-take-le k items (omega arith)) in
    elim c.match-item.branch [
      | in-Inst w ↦
          let inst = w.in-Inst.inst in
          let y : Item g.row.I.Denot = item.Inst inst in
          let e : x ≡ y = cc in
          let is : slice_get items k ≡ Some y = get_item items k x y within c.item-item.is e in
          let at = inst_at size items k inst lens is c.requires.layout in
          let t : State = buffer_state w.put.new.buffer in
          let new : DeferredTarget → Option ℕ = places_of w.put.new.buffer in
          let offsets : u.offsets ≡ s.offsets = held.put.keeps.offsets in
          let long : (listed (g.I.Encode.line_meant inst) u.offsets).len ≡ slice_index lens n = ap (λ (o : ℕ → Option ℤ). (listed (g.I.Encode.line_meant inst) o).len) offsets ∙ sym at.1 in
          let got : GotEntry (WholeReads (listed (g.I.Encode.line_meant inst) u.offsets).parts) (listed (g.I.Encode.line_meant inst) u.offsets).tells (slice_index lens n) u t mid new = subst (λ (m : ℕ). GotEntry (WholeReads (listed (g.I.Encode.line_meant inst) u.offsets).parts) (listed (g.I.Encode.line_meant inst) u.offsets).tells m u t mid new) long w.put.ensures.got in
          let here : GotEntry (WholeReads (meant inst).parts) (meant inst).tells (slice_index lens n) u t mid new = subst (λ (o : ℕ → Option ℤ). GotEntry (WholeReads (listed (g.I.Encode.line_meant inst) o).parts) (listed (g.I.Encode.line_meant inst) o).tells (slice_index lens n) u t mid new) offsets got in
          let next : Put meant lens items (take k items ++ y ∷ []) s t old new = put_entry meant lens items (take k items) y s u t old mid new refl at.0 few held.put here in
          let all : Put meant lens items (take (k + 1) items) s t old new = subst (λ (z : List (Item g.row.I.Denot)). Put meant lens items z s t old new) (sym (take_next items k x y within c.item-item.is e)) next in
          record {
            n = omega (arith, w.n-is, held.n, entries_next items k x y within c.item-item.is e);
            put = rw w.buffer-is all;
            labels = rw w.buffer-is (w.put.ensures.labels ∙ held.labels);
          }
      | in-Jump w ↦
          let jump = w.in-Jump.jump in
          let label = w.in-Jump.label in
          let y : Item g.row.I.Denot = item.Jump jump label in
          let e : x ≡ y = cc in
          let is : slice_get items k ≡ Some y = get_item items k x y within c.item-item.is e in
          let at = jump_at size items k jump label lens is c.requires.layout in
          let t : State = buffer_state w.put_jump.new.buffer in
          let new : DeferredTarget → Option ℕ = places_of w.put_jump.new.buffer in
          let spot : w.spot_in-spot.result ≡ spot_of label.0 items = w.spot_in-spot.ensures ∙ c.requires.binders label.0 in
          let got : GotEntry (JumpReads lens c.loop-item.n jump (spot_of label.0 items)) (jump_told (spot_of label.0 items) label) (slice_index lens c.loop-item.n) u t mid new = subst (λ (o : Option ℕ). GotEntry (JumpReads lens c.loop-item.n jump o) (jump_told o label) (slice_index lens c.loop-item.n) u t mid new) spot w.put_jump.ensures.got in
          let here : GotEntry (JumpReads lens n jump (spot_of label.0 items)) (jump_told (spot_of label.0 items) label) (slice_index lens n) u t mid new = subst (λ (m : ℕ). GotEntry (JumpReads lens m jump (spot_of label.0 items)) (jump_told (spot_of label.0 items) label) (slice_index lens m) u t mid new) held.n got in
          let next : Put meant lens items (take k items ++ y ∷ []) s t old new = put_entry meant lens items (take k items) y s u t old mid new refl at.0 few held.put here in
          let all : Put meant lens items (take (k + 1) items) s t old new = subst (λ (z : List (Item g.row.I.Denot)). Put meant lens items z s t old new) (sym (take_next items k x y within c.item-item.is e)) next in
          record {
            n = omega (arith, w.n-is, held.n, entries_next items k x y within c.item-item.is e);
            put = rw w.buffer-is all;
            labels = rw w.buffer-is (w.put_jump.ensures.labels ∙ held.labels);
          }
      | in-Bind w ↦
          let label = w.in-Bind.label in
          let y : Item g.row.I.Denot = item.Bind label in
          let e : x ≡ y = cc in
          let is : slice_get items k ≡ Some y = get_item items k x y within c.item-item.is e in
          let free = c.requires.free k label is in
          let t : State = buffer_state w.bind.new.self in
          let new : DeferredTarget → Option ℕ = places_of w.bind.new.self in
          let next : Put meant lens items (take k items ++ y ∷ []) s t old new = put_bind meant lens items (take k items) label s u t old mid new free.2 (given_ok w.bind.result _ w.unwrap.ensures w.bind.ensures.binds) w.bind.ensures.state w.bind.ensures.filled.laid held.put in
          let all : Put meant lens items (take (k + 1) items) s t old new = subst (λ (z : List (Item g.row.I.Denot)). Put meant lens items z s t old new) (sym (take_next items k x y within c.item-item.is e)) next in
          record {
            n = omega (arith, w.n-is, held.n, entries_next items k x y within c.item-item.is e);
            put = rw w.buffer-is all;
            labels = rw w.buffer-is (w.bind.ensures.labels ∙ held.labels);
          }
    ]

pub returns-clause-put : goal.returns-clause-put
returns-clause-put g c =
    let items : List (Item g.row.I.Denot) = c.args.items.now in
    let s : State = buffer_state c.args.buffer.now in
    let meant : g.row.I.Denot → Listed = λ i. listed (g.I.Encode.line_meant i) s.offsets in
    let all : take c.loop-item.item-index items ≡ items = take_all c.loop-item.item-index items (search arith) in
    subst (λ (z : List (Item g.row.I.Denot)). Put meant c.args.lens.now items z s (buffer_state c.loop-item.buffer) (places_of c.args.buffer.now) (places_of c.loop-item.buffer)) all c.loop-item.invariant.put
