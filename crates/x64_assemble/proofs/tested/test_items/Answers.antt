use Rattle.std.proofs.Common.{◌≡◌, ℕ, ◌+◌, ◌<◌, arith, refl, ap, sym, subst, Option, Some, None, List, [], ◌∷◌, ◌++◌, length, take, set, slice_get, below_more}
use Rattle.std.specs.Prelude.{option_map}
use Rattle.std.proofs.lemmas.List.{length-set, length-take-le}
use Rattle.cax64_encoder.specs.declared.fault.Fault.{Fault}
use Rattle.cax64_sink.specs.declared.DeferredTarget.{DeferredTarget}
use Rattle.x64_code_buffer.specs.Buffer.{buffer_state, label_count, places_of}
use Rattle.x64_assemble.specs.Listed.{listed}
use Rattle.x64_assemble.specs.Putting.{AreBinders}
use Rattle.x64_assemble.specs.Refused.{bind_refusal, refusal_at}
use Rattle.x64_assemble.specs.declared.binders.Binder.{Binder}
use Rattle.x64_assemble.specs.declared.errors.LayoutError.TheVariants as refusal
use Rattle.x64_assemble.specs.declared.item.Item.{Item}
use Rattle.x64_assemble.specs.declared.item.Item.TheVariants as item
use Rattle.x64_assemble.proofs.Items.{note, noted_at, noted_bind, noted_inst, noted_is}
use Rattle.x64_assemble.proofs.Entries.{all_tested, entries_few, entries_next, free_label, get_item, refused_at, take_next}
use Rattle.x64_assemble.proofs.tested.test_items.Goals as goal
use Rattle.x64_assemble.proofs.tested.test_items.Goals.{in-Inst+in_default, in-Jump, in-Bind+in_default-bind_refusal}

pub overflow_add-spot : goal.overflow_add-spot
overflow_add-spot g c =
    let within : c.loop-n.n < length c.args.items.now = c.loop-n-test.true in
    omega (arith, c.loop-n.invariant.spot, entries_few c.args.items.now c.loop-n.n (omega arith), c.requires.few)

pub overflow_add-spot-in-Jump : goal.overflow_add-spot-in-Jump
overflow_add-spot-in-Jump g c =
    let within : c.loop-n.n < length c.args.items.now = c.loop-n-test.true in
    omega (arith, c.loop-n.invariant.spot, entries_few c.args.items.now c.loop-n.n (omega arith), c.requires.few)

pub returns-in-Some-bind_refusal-clause-first : goal.returns-in-Some-bind_refusal-clause-first
returns-in-Some-bind_refusal-clause-first g c =
    let items : List (Item g.row.I.Denot) = c.args.items.now in
    let fault : g.row.I.Denot → Option Fault = λ i. (listed (g.I.Encode.line_meant i) (buffer_state c.args.buffer.now).offsets).fault in
    let given : ℕ = label_count c.args.buffer.now in
    let places : DeferredTarget → Option ℕ = places_of c.args.buffer.now in
    let n : ℕ = c.loop-n.n in
    let y : Item g.row.I.Denot = item.Bind c.in-Bind.label in
    let e : c.index-items-n.result ≡ y = cc in
    let is : slice_get items n ≡ Some y = get_item items n c.index-items-n.result y c.loop-n-test.true c.index-items-n.is e in
    let why : bind_refusal given places (take n items) c.in-Bind.label.0 ≡ Some c.in-Some-bind_refusal.error = sym c.in-Some-bind_refusal.ensures in
    (n, record { is = refused_at fault given places items n y (Some (refusal.Bind n c.in-Some-bind_refusal.error)) is (ap (option_map (refusal.Bind n)) why); first = c.loop-n.invariant.tested })

pub loop-n-preserved : goal.loop-n-preserved
loop-n-preserved g c =
    let items : List (Item g.row.I.Denot) = c.args.items.now in
    let fault : g.row.I.Denot → Option Fault = λ i. (listed (g.I.Encode.line_meant i) (buffer_state c.args.buffer.now).offsets).fault in
    let given : ℕ = label_count c.args.buffer.now in
    let places : DeferredTarget → Option ℕ = places_of c.args.buffer.now in
    let n : ℕ = c.loop-n.n in
    let x : Item g.row.I.Denot = c.index-items-n.result in
    let held = c.loop-n.invariant in
    let within : n < length items = c.loop-n-test.true in
    elim c.match-item.branch [
      | in-Inst+in_default w ↦
          let y : Item g.row.I.Denot = item.Inst w.in-Inst.inst in
          let e : x ≡ y = cc in
          let none : refusal_at fault given places items n ≡ None = refused_at fault given places items n y None (get_item items n x y within c.index-items-n.is e) (ap (option_map (refusal.Fault n)) (sym w.in_default.ensures)) in
          let noted : AreBinders (take n items ++ y ∷ []) c.loop-n.binders = noted_inst c.loop-n.binders (take n items) y refl held.binders in
          let next : AreBinders (take (n + 1) items) c.loop-n.binders = subst (λ (z : List (Item g.row.I.Denot)). AreBinders z c.loop-n.binders) (sym (take_next items n x y within c.index-items-n.is e)) noted in
          record {
            spot = omega (arith, w.spot-is, held.spot, entries_next items n x y within c.index-items-n.is e);
            binders = subst (λ (b : List Binder). AreBinders (take (n + 1) items) b) (sym w.binders-is) next;
            room = omega (arith, held.room, ap length w.binders-is);
            tested = below_more _ _ held.tested none;
          }
      | in-Jump w ↦
          let y : Item g.row.I.Denot = item.Jump w.in-Jump.field-0 w.in-Jump.field-1 in
          let e : x ≡ y = cc in
          let none : refusal_at fault given places items n ≡ None = refused_at fault given places items n y None (get_item items n x y within c.index-items-n.is e) refl in
          let noted : AreBinders (take n items ++ y ∷ []) c.loop-n.binders = noted_inst c.loop-n.binders (take n items) y refl held.binders in
          let next : AreBinders (take (n + 1) items) c.loop-n.binders = subst (λ (z : List (Item g.row.I.Denot)). AreBinders z c.loop-n.binders) (sym (take_next items n x y within c.index-items-n.is e)) noted in
          record {
            spot = omega (arith, w.spot-is, held.spot, entries_next items n x y within c.index-items-n.is e);
            binders = subst (λ (b : List Binder). AreBinders (take (n + 1) items) b) (sym w.binders-is) next;
            room = omega (arith, held.room, ap length w.binders-is);
            tested = below_more _ _ held.tested none;
          }
      | in-Bind+in_default-bind_refusal w ↦
          let label = w.in-Bind.label in
          let y : Item g.row.I.Denot = item.Bind label in
          let e : x ≡ y = cc in
          let why : bind_refusal given places (take n items) label.0 ≡ None = sym w.in_default-bind_refusal.ensures in
          let none : refusal_at fault given places items n ≡ None = refused_at fault given places items n y None (get_item items n x y within c.index-items-n.is e) (ap (option_map (refusal.Bind n)) why) in
          let free = free_label given places (take n items) label why in
          let in_room : label.0 < length c.loop-n.binders = omega (arith, free.0, held.room) in
          let noted : AreBinders (take n items ++ y ∷ []) (set c.loop-n.binders label.0 (noted_at (take n items))) = noted_bind c.loop-n.binders (take n items) label in_room free.2 held.binders in
          let as_is : noted_at (take n items) ≡ note n c.loop-n.spot = noted_is (take n items) n c.loop-n.spot (length-take-le n items (omega arith)) held.spot in
          let written : AreBinders (take n items ++ y ∷ []) (set c.loop-n.binders label.0 (note n c.loop-n.spot)) = subst (λ (b : Binder). AreBinders (take n items ++ y ∷ []) (set c.loop-n.binders label.0 b)) as_is noted in
          let next : AreBinders (take (n + 1) items) (set c.loop-n.binders label.0 (note n c.loop-n.spot)) = subst (λ (z : List (Item g.row.I.Denot)). AreBinders z (set c.loop-n.binders label.0 (note n c.loop-n.spot))) (sym (take_next items n x y within c.index-items-n.is e)) written in
          record {
            spot = omega (arith, w.spot-is, held.spot, entries_next items n x y within c.index-items-n.is e);
            binders = subst (λ (b : List Binder). AreBinders (take (n + 1) items) b) (sym w.binders-is) next;
            room = omega (arith, held.room, ap length w.binders-is, length-set c.loop-n.binders label.0 (note n c.loop-n.spot));
            tested = below_more _ _ held.tested none;
          }
    ]

pub returns-clause-tested : goal.returns-clause-tested
returns-clause-tested g c =
    let fault : g.row.I.Denot → Option Fault = λ i. (listed (g.I.Encode.line_meant i) (buffer_state c.args.buffer.now).offsets).fault in
    all_tested fault (label_count c.args.buffer.now) (places_of c.args.buffer.now) c.args.items.now c.loop-n.n c.loop-n.invariant.tested (search arith)
