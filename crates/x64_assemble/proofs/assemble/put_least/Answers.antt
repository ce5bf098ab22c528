use Rattle.std.proofs.Common.{◌≡◌, ℕ, ◌+◌, arith, ◌∙◌, sym, subst, Option, List, length, sum, ℤ}
use Rattle.std.specs.Prelude.{slice_index}
use Rattle.cax64_sink.specs.Room.{HasRoom}
use Rattle.cax64_sink.specs.Sink.{State}
use Rattle.cax64_sink.specs.declared.DeferredTarget.{DeferredTarget}
use Rattle.cax64_sink.specs.declared.DeferredTarget.TheVariants as target
use Rattle.x64_code_buffer.specs.Buffer.{buffer_state, places_of}
use Rattle.x64_layout.specs.Layout.{AreSpans, IsLayout, IsLeast, place_in}
use Rattle.x64_layout.specs.declared.span.Span.{Span}
use Rattle.x64_assemble.specs.Listed.{listed}
use Rattle.x64_assemble.specs.Assembled.{spans_of}
use Rattle.x64_assemble.specs.Putting.{Put}
use Rattle.x64_assemble.specs.declared.item.Item.{Item}
use Rattle.x64_assemble.proofs.Ends.{all_bytes, assembled, ok_given, puts_list}
use Rattle.x64_assemble.proofs.assemble.put_least.Goals as goal

pub put_items-requires-clause-free : goal.put_items-requires-clause-free
put_items-requires-clause-free g c = λ k label is.
    let free = c.requires.free k label is in
    (omega (arith, free.0, c.reserve.ensures.labels), c.reserve.ensures.places (target.Label label) ∙ free.1, free.2)

pub put_items-requires-clause-spans : goal.put_items-requires-clause-spans
put_items-requires-clause-spans g c =
    let items : List (Item g.row.I.Denot) = c.args.items.now in
    let s : State = buffer_state c.args.buffer.now in
    let u : State = buffer_state c.reserve.new.self in
    let offsets : u.offsets ≡ s.offsets = c.reserve.ensures.as_before.offsets in
    let before : AreSpans (spans_of (λ i. (listed (g.I.Encode.line_meant i) s.offsets).len) items items) = subst AreSpans c.requires.spans c.requires.are_spans in
    subst (λ (o : ℕ → Option ℤ). AreSpans (spans_of (λ i. (listed (g.I.Encode.line_meant i) o).len) items items)) (sym offsets) before

pub put_items-requires-clause-layout : goal.put_items-requires-clause-layout
put_items-requires-clause-layout g c =
    let items : List (Item g.row.I.Denot) = c.args.items.now in
    let lens : List ℕ = c.least_layout.new.lens in
    let s : State = buffer_state c.args.buffer.now in
    let u : State = buffer_state c.reserve.new.self in
    let offsets : u.offsets ≡ s.offsets = c.reserve.ensures.as_before.offsets in
    let before : IsLayout (spans_of (λ i. (listed (g.I.Encode.line_meant i) s.offsets).len) items items) lens = subst (λ (z : List Span). IsLayout z lens) c.requires.spans c.least_layout.ensures.least.layout in
    subst (λ (o : ℕ → Option ℤ). IsLayout (spans_of (λ i. (listed (g.I.Encode.line_meant i) o).len) items items) lens) (sym offsets) before

pub put_items-requires-clause-byte_room : goal.put_items-requires-clause-byte_room
put_items-requires-clause-byte_room g c =
    let lens : List ℕ = c.least_layout.new.lens in
    let n : ℕ = length c.args.spans.now in
    let u : State = buffer_state c.reserve.new.self in
    let as_many : length lens ≡ n = c.least_layout.ensures.least.layout.as_many in
    let end : slice_index c.least_layout.new.places n ≡ place_in lens n = c.least_layout.ensures.places n (omega arith) in
    let room : HasRoom u.byte_room (slice_index c.least_layout.new.places n + 13) = ok_given c.reserve.result c.if-is_err.ensures.negation c.reserve.ensures.room_for_bytes in
    let size : slice_index c.least_layout.new.places n + 13 ≡ 13 + sum lens = omega (arith, end, all_bytes lens n as_many) in
    subst (HasRoom u.byte_room) size room

pub returns-clause-assembled : goal.returns-clause-assembled
returns-clause-assembled g c = λ pieces h.
    let items : List (Item g.row.I.Denot) = c.args.items.now in
    let lens : List ℕ = c.least_layout.new.lens in
    let s : State = buffer_state c.args.buffer.now in
    let u : State = buffer_state c.reserve.new.self in
    let t : State = buffer_state c.put_items.new.buffer in
    let old : DeferredTarget → Option ℕ = places_of c.args.buffer.now in
    let mid : DeferredTarget → Option ℕ = places_of c.reserve.new.self in
    let new : DeferredTarget → Option ℕ = places_of c.put_items.new.buffer in
    let offsets : u.offsets ≡ s.offsets = c.reserve.ensures.as_before.offsets in
    let least : IsLeast (spans_of (λ i. (listed (g.I.Encode.line_meant i) s.offsets).len) items items) lens = subst (λ (z : List Span). IsLeast z lens) c.requires.spans c.least_layout.ensures.least in
    let put : Put (λ i. listed (g.I.Encode.line_meant i) s.offsets) lens items items u t mid new = subst (λ (o : ℕ → Option ℤ). Put (λ i. listed (g.I.Encode.line_meant i) o) lens items items u t mid new) offsets c.put_items.ensures.put in
    assembled (λ i. listed (g.I.Encode.line_meant i) s.offsets) items lens pieces s u t old mid new least c.reserve.ensures.as_before.bytes c.reserve.ensures.as_before.notices c.reserve.ensures.places (c.reserve.ensures.filled.laid pieces (length s.bytes) h) put

pub returns-clause-puts : goal.returns-clause-puts
returns-clause-puts g c =
    let items : List (Item g.row.I.Denot) = c.args.items.now in
    let lens : List ℕ = c.least_layout.new.lens in
    let s : State = buffer_state c.args.buffer.now in
    let u : State = buffer_state c.reserve.new.self in
    let t : State = buffer_state c.put_items.new.buffer in
    let old : DeferredTarget → Option ℕ = places_of c.args.buffer.now in
    let mid : DeferredTarget → Option ℕ = places_of c.reserve.new.self in
    let new : DeferredTarget → Option ℕ = places_of c.put_items.new.buffer in
    let offsets : u.offsets ≡ s.offsets = c.reserve.ensures.as_before.offsets in
    let least : IsLeast (spans_of (λ i. (listed (g.I.Encode.line_meant i) s.offsets).len) items items) lens = subst (λ (z : List Span). IsLeast z lens) c.requires.spans c.least_layout.ensures.least in
    let put : Put (λ i. listed (g.I.Encode.line_meant i) s.offsets) lens items items u t mid new = subst (λ (o : ℕ → Option ℤ). Put (λ i. listed (g.I.Encode.line_meant i) o) lens items items u t mid new) offsets c.put_items.ensures.put in
    puts_list (λ i. listed (g.I.Encode.line_meant i) s.offsets) items lens s u t old mid new least c.reserve.ensures.as_before.bytes c.reserve.ensures.as_before.notices c.reserve.ensures.places put
