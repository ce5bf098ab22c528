use Rattle.std.proofs.Common.{◌≡◌, ◌∙◌, ◌+◌, ◌-◌, ◌<◌, ◌≤◌, ◌⊎◌, All, inl, inr, ℕ, zero, suc, ℤ, pos, ◌-ℤ◌, refl, sym, ap, subst, arith, Bool, true, false, Option, Some, None, List, [], ◌∷◌, ◌++◌, drop, get_or, length, length-append, take, slice_get}
use Rattle.std.proofs.lemmas.Bool.{eq-eqb}
use Rattle.std.proofs.lemmas.List.{drop_at, drop_more, get_or-drop, length-drop, length-take-le, take-append-drop, take_more}
use Rattle.std.proofs.lemmas.List.Elements.{All-cons}
use Rattle.std.proofs.lemmas.Option.{same_Some}
use Rattle.std.proofs.lemmas.Bool.Decides.{nat_tests}
use Rattle.std.specs.Prelude.{◌==◌, ◌||◌, OnOk, Result, is_err, nat_lt, if◌then◌else◌, map, option_map, slice_index, unwrap_or}
use Rattle.cax64_address.specs.declared.amode.Amode.{Amode}
use Rattle.cax64_address.specs.declared.amode.Amode.TheVariants.{ImmReg, ImmRegRegShift, RipRelative}
use Rattle.cax64_encoder.specs.Notices.{trap_notice}
use Rattle.cax64_encoder.specs.Place.{displacement_in, memory_in, place_read}
use Rattle.cax64_encoder.specs.declared.role.PlaceOperand.{PlaceOperand}
use Rattle.cax64_encoder.specs.declared.role.PlaceOperand.TheVariants.{NoPlace, Register, Memory}
use Rattle.cax64_machine_code.specs.Line.{imm_bytes}
use Rattle.cax64_machine_code.specs.ReadLine.{LineReading}
use Rattle.cax64_machine_code.specs.Reading.{PartsOf}
use Rattle.cax64_machine_code.specs.Rows.{line_of}
use Rattle.cax64_machine_code.specs.declared.line.Line.{Line}
use Rattle.cax64_machine_code.specs.declared.reading.Place.{Place}
use Rattle.cax64_machine_code.specs.declared.reading.Place.TheVariants.{Reg, Mem, Rip}
use Rattle.cax64_machine_code.specs.declared.row.Row.{Row}
use Rattle.cax64_sink.specs.Sink.{State}
use Rattle.cax64_sink.specs.declared.DeferredTarget.{DeferredTarget}
use Rattle.cax64_sink.specs.declared.DeferredTarget.TheVariants as target
use Rattle.cax64_sink.specs.declared.Label.{Label}
use Rattle.cax64_sink.specs.declared.Notice.{Notice}
use Rattle.cax64_sink.specs.declared.Notice.TheVariants.{Trap, Target}
use Rattle.cax64_sink.specs.declared.TrapCode.{TrapCode}
use Rattle.x64_plain.specs.Plain.{plain}
use Rattle.x64_plain.specs.Told.{told}
use Rattle.x64_plain.specs.declared.told.HqUse.{HqUse}
use Rattle.huqmeris_c.proofs.Made.{finished, if_none, list_is, map_none}
use Rattle.huqmeris_c.specs.Data.{AreBound, items_of_code, data_from, data_of}
use Rattle.huqmeris_c.specs.Encodes.{no_offsets}
use Rattle.huqmeris_c.specs.Items.{Assembled, Counted, ItemsAre, LeadsTo, ReadAs, jump_named, lengths, list_spans, target_in}
use Rattle.huqmeris_c.specs.Each.{uses_told}
use Rattle.huqmeris_c.specs.Putting.{Behind, HasItems, MakesEach, core_becomes, core_fault, traps_in}
use Rattle.huqmeris_c.specs.Traps.{trap_told, traps_told}
use Rattle.huqmeris_c.specs.declared.item.HqItem.{HqItem}
use Rattle.huqmeris_c.specs.declared.progress.HqDone.{HqDone}
use Rattle.x64_assemble.proofs.Entries.{are_free, spans_few}
use Rattle.x64_assemble.specs.Assembled.{EachReads, JumpReads, all_told, distance_in, entries, jump_told, row_of_len, spot_of}
use Rattle.x64_assemble.specs.Listed.{inst_told}
use Rattle.x64_assemble.specs.Putting.{AreFree}
use Rattle.x64_assemble.specs.declared.item.Item.{Item}
use Rattle.x64_assemble.specs.declared.item.Item.TheVariants as item
use Rattle.x64_code_buffer.proofs.Settling.{FieldWithin, field_within, same_list}
use Rattle.x64_code_buffer.specs.Filled.{places_told, uses_behind}
use Rattle.x64_code_buffer.specs.Jump.{jump_parts, long_row, short_row}
use Rattle.x64_code_buffer.specs.Laid.{EachOpen, EachSettled, JumpSettledBy, JumpsTo, Laid, LaidOut, LineLeads, LineSettledAs, LinesRead, Piece, PieceSettled, open_jump, parts_in, piece_field, piece_fields, reading_in, readings_in, uses_after, whole}
use Rattle.x64_code_buffer.specs.Use.{IsOutside, Use, links, uses_of}
use Rattle.x64_code_buffer.specs.declared.jump.Jump.{Jump}
use Rattle.x64_core.specs.Core.{core_len, core_meant}
use Rattle.x64_lines.specs.Line.{core_line}
use Rattle.x64_core.specs.View.{CoreView, core_view}
use Rattle.x64_core.specs.declared.instruction.Core.{Core}
use Rattle.x64_layout.proofs.Places.{place_more}
use Rattle.x64_layout.specs.Layout.{IsLeast, place_in}

-- A list in a buffer that is finished, as items.

-- What is told.

uses_push : (ns ms : List Notice) → uses_of (ns ++ ms) ≡ uses_of ns ++ uses_of ms
uses_push [] ms = refl
uses_push (Trap at code ∷ ns) ms = uses_push ns ms
uses_push (Target at goes_to ∷ ns) ms = ap (λ (l : List Use). (at, goes_to) ∷ l) (uses_push ns ms)

no_use : (trap : Option TrapCode) (at : ℕ) → uses_of (trap_notice trap at) ≡ []
no_use None at = refl
no_use (Some code) at = refl

-- the use of what an instruction refers to
abbrev Heard : Option DeferredTarget → List Use → Type 0
Heard None heard = heard ≡ []
Heard (Some goes_to) heard = (place : ℕ) × (heard ≡ (place, goes_to) ∷ [])

heard_by : (disp : ℤ) (behind : ℕ) (place : PlaceOperand ℕ) (at : ℕ) (r : LineReading) → r.place ≡ place_read (λ (number : ℕ). number) disp behind place → Heard (target_in (memory_in place)) (uses_of (inst_told (memory_in place) at (whole r)))
heard_by disp behind NoPlace at r e = refl
heard_by disp behind (Register number) at r e = refl
heard_by disp behind (Memory (ImmReg base simm32 trap)) at r e = no_use trap at
heard_by disp behind (Memory (ImmRegRegShift base index scale simm32 trap)) at r e = no_use trap at
heard_by disp behind (Memory (RipRelative goes_to)) at r e = rw e (_, refl)

-- What pieces become.

record Settled (places : DeferredTarget → Option ℕ) (end : ℕ) (parts : PartsOf Line) (goes_to : Option DeferredTarget) (place : Option Place) (uses others : List Use) (old new : LineReading) : Type 0 where
  pub reads : ReadAs places end parts goes_to new
  pub same : new.length ≡ old.length
  pub left : uses_behind place uses ≡ others

settled_same : (places : DeferredTarget → Option ℕ) (end : ℕ) (parts : PartsOf Line) (r q : LineReading) → ◌≡◌ {A = PartsOf Line} (parts_in r) parts → q ≡ r → ◌≡◌ {A = PartsOf Line} (parts_in q) parts
settled_same places end parts r q e h = ap (λ (x : LineReading). parts_in x) h ∙ e

no_heard : (heard others : List Use) → heard ≡ [] → heard ++ others ≡ others
no_heard heard others h = ap (λ (l : List Use). l ++ others) h

leads_to : (places : DeferredTarget → Option ℕ) (goes_to : DeferredTarget) (end : ℕ) (parts : PartsOf Line) (r q : LineReading) → ◌≡◌ {A = PartsOf Line} (parts_in r) parts → LineLeads places goes_to end r q → LeadsTo places goes_to end parts q
leads_to places goes_to end parts r q e h = record {
  place = h.bound_to;
  bound = h.is_bound;
  same = ap (λ (x : LineReading). parts_in x) h.same ∙ ap (λ (p : PartsOf Line). record p { place = q.place }) e;
  leads = h.leads;
}

relative_settled : (places : DeferredTarget → Option ℕ) (end : ℕ) (parts : PartsOf Line) (goes_to : DeferredTarget) (disp : ℤ) (r q : LineReading) (field : ℕ) (others : List Use) → ◌≡◌ {A = PartsOf Line} (parts_in r) parts → LineSettledAs places end r (Some (Rip disp)) ((field, goes_to) ∷ others) q → ReadAs places end parts (Some goes_to) q × (q.length ≡ r.length)
relative_settled places end parts (target.Label label) disp r q field others e h = (leads_to places (target.Label label) end parts r q e h, ap (λ (x : LineReading). x.length) h.same)
relative_settled places end parts (target.Constant constant) disp r q field others e h = (leads_to places (target.Constant constant) end parts r q e h, ap (λ (x : LineReading). x.length) h.same)
relative_settled places end parts target.None disp r q field others e h = (settled_same places end parts r q e h, ap (λ (x : LineReading). x.length) h)

inst_settled : (places : DeferredTarget → Option ℕ) (end : ℕ) (parts : PartsOf Line) (disp : ℤ) (behind : ℕ) (place : PlaceOperand ℕ) (r q : LineReading) (heard others : List Use) → ◌≡◌ {A = PartsOf Line} (parts_in r) parts → Heard (target_in (memory_in place)) heard → LineSettledAs places end r (place_read (λ (number : ℕ). number) disp behind place) (heard ++ others) q → Settled places end parts (target_in (memory_in place)) (place_read (λ (number : ℕ). number) disp behind place) (heard ++ others) others r q
inst_settled places end parts disp behind NoPlace r q heard others e k h = record { reads = settled_same places end parts r q e h; same = ap (λ (x : LineReading). x.length) h; left = no_heard heard others k }
inst_settled places end parts disp behind (Register number) r q heard others e k h = record { reads = settled_same places end parts r q e h; same = ap (λ (x : LineReading). x.length) h; left = no_heard heard others k }
inst_settled places end parts disp behind (Memory (ImmReg base simm32 trap)) r q heard others e k h = record { reads = settled_same places end parts r q e h; same = ap (λ (x : LineReading). x.length) h; left = no_heard heard others k }
inst_settled places end parts disp behind (Memory (ImmRegRegShift base index scale simm32 trap)) r q heard others e k h = record { reads = settled_same places end parts r q e h; same = ap (λ (x : LineReading). x.length) h; left = no_heard heard others k }
inst_settled places end parts disp behind (Memory (RipRelative goes_to)) r q heard others e k h =
    let first : heard ++ others ≡ (k.0, goes_to) ∷ others = ap (λ (l : List Use). l ++ others) k.1 in
    let settled = relative_settled places end parts goes_to (pos 0 -ℤ pos behind) r q k.0 others e (subst (λ (l : List Use). LineSettledAs places end r (place_read (λ (number : ℕ). number) disp behind (Memory (RipRelative goes_to))) l q) first h) in
    record { reads = settled.0; same = settled.1; left = ap (λ (l : List Use). drop 1 l) first }

place_of_parts : (parts : PartsOf Line) (r : LineReading) → ◌≡◌ {A = PartsOf Line} (parts_in r) parts → r.place ≡ parts.place
place_of_parts parts r e = ap (λ (p : PartsOf Line). p.place) e

far_settled : (places : DeferredTarget → Option ℕ) (end : ℕ) (jump : Jump) (number : ℕ) (r q : LineReading) (d : ℤ) → ◌≡◌ {A = PartsOf Line} (parts_in r) (jump_parts (line_of (long_row jump)) (pos 0)) → q ≡ record r { imm = q.imm } → q.imm ≡ Some d → ◌≡◌ {A = PartsOf Line} (parts_in q) (jump_parts (line_of (long_row jump)) d)
far_settled places end jump number r q d e same imm =
    ap (λ (x : LineReading). parts_in x) same ∙ ap (λ (p : PartsOf Line). record p { imm = q.imm }) e ∙ ap (λ (o : Option ℤ). record (jump_parts {K = Line} (line_of (long_row jump)) (pos 0)) { imm = o }) imm

-- the first piece and what it has become
record FirstSettled (places : DeferredTarget → Option ℕ) (at : ℕ) (p : Piece) (rest : List Piece) (us : List Use) (readings : List LineReading) : Type 0 where
  pub now : LineReading
  pub later : List LineReading
  pub is : readings ≡ now ∷ later
  pub settled : PieceSettled places (at + (reading_in p).length) p us now
  pub left : EachSettled places (at + (reading_in p).length) rest (uses_after p us) later

first_of : (places : DeferredTarget → Option ℕ) (at : ℕ) (p : Piece) (rest : List Piece) (us : List Use) (readings : List LineReading) → EachSettled places at (p ∷ rest) us readings → FirstSettled places at p rest us readings
first_of places at p rest us [] h = absurd h
first_of places at p rest us (q ∷ later) h = record { now = q; later = later; is = refl; settled = h.0; left = h.1 }

-- Places of labels.

label_there : (b : Bool) (n : ℕ) (o : Option ℕ) → b ≡ true → (if b then Some 0 else o) ≡ Some 0
label_there true n o e = refl
label_there false n o e = cc

label_later : (b : Bool) (o : Option ℕ) (spot : ℕ) → b ≡ false → o ≡ Some spot → (if b then Some 0 else o) ≡ Some spot
label_later true o spot t e = cc
label_later false o spot t e = e

abbrev label_of : Item Core → Label → Label
label_of (item.Inst core) other = other
label_of (item.Jump jump to) other = other
label_of (item.Bind bound) other = bound

-- a label that nothing before it binds has its spot there
pub spot_there : (xs : List (Item Core)) (k : ℕ) (label : Label) → slice_get xs k ≡ Some (item.Bind label) → spot_of label.0 (take k xs) ≡ None → spot_of label.0 xs ≡ Some (entries (take k xs))
spot_there [] k label is none = cc
spot_there (item.Inst core ∷ xs) zero label is none = cc
spot_there (item.Inst core ∷ xs) (suc k) label is none = ap (option_map suc) (spot_there xs k label is (map_none suc (spot_of label.0 (take k xs)) none))
spot_there (item.Jump jump to ∷ xs) zero label is none = cc
spot_there (item.Jump jump to ∷ xs) (suc k) label is none = ap (option_map suc) (spot_there xs k label is (map_none suc (spot_of label.0 (take k xs)) none))
spot_there (item.Bind bound ∷ xs) zero label is none =
    let e : bound ≡ label = ap (λ (x : Item Core). label_of x bound) (same_Some (item.Bind bound) (item.Bind label) is) in
    label_there (bound.0 == label.0) 0 (spot_of label.0 xs) (eq-eqb bound.0 label.0 (ap (λ (l : Label). l.0) e))
spot_there (item.Bind bound ∷ xs) (suc k) label is none =
    let apart = if_none (bound.0 == label.0) (spot_of label.0 (take k xs)) none in
    label_later (bound.0 == label.0) (spot_of label.0 xs) (entries (take k xs)) apart.0 (spot_there xs k label is apart.1)

-- Each item.

abbrev Spots : List (Item Core) → ℕ → List (Item Core) → Type 0
Spots all n xs = (k : ℕ) (label : Label) → slice_get xs k ≡ Some (item.Bind label) → spot_of label.0 all ≡ Some (n + entries (take k xs))

abbrev Bound : (DeferredTarget → Option ℕ) → List ℕ → List (Item Core) → Type 0
Bound places lens all = (label spot : ℕ) → spot_of label all ≡ Some spot → places (target.Label (record { 0 = label })) ≡ Some (place_in lens spot)

-- what is said of the items behind a piece
abbrev Later : (DeferredTarget → Option ℕ) → List (Item Core) → List HqItem → List (Item Core) → ℕ → List Piece → Type 0
Later places all hs xs end ps = (us : List Use) (readings : List LineReading) → us ≡ uses_of (all_told core_becomes all end xs ps) → EachSettled places end ps us readings → ItemsAre places hs end readings

inst_are : (places : DeferredTarget → Option ℕ) (all : List (Item Core)) (at : ℕ) (h : HqItem) (hs : List HqItem) (core : Core) (xs : List (Item Core)) (r : LineReading) (ps : List Piece) (us : List Use) (readings : List LineReading) → h.kind ≡ 0 → plain (core_view core) ≡ h.inst → ◌≡◌ {A = PartsOf Line} (parts_in r) (core_becomes core).parts → us ≡ uses_of (all_told core_becomes all at (item.Inst core ∷ xs) (whole r ∷ ps)) → EachSettled places at (whole r ∷ ps) us readings → Later places all hs xs (at + r.length) ps → ItemsAre places (h ∷ hs) at readings
unfolding ItemsAre
inst_are places all at h hs core xs r ps us readings kind is reads uses settled more =
    let v : CoreView = core_view core in
    let parts : PartsOf Line = (core_meant v no_offsets).parts in
    let end : ℕ = at + r.length in
    let heard : List Use = uses_of (inst_told (memory_in v.place) at (whole r)) in
    let others : List Use = uses_of (all_told core_becomes all end xs ps) in
    let told : us ≡ heard ++ others = uses ∙ uses_push (inst_told (memory_in v.place) at (whole r)) (all_told core_becomes all end xs ps) in
    let f : FirstSettled places at (whole r) ps us readings = first_of places at (whole r) ps us readings settled in
    let place : r.place ≡ parts.place = place_of_parts parts r reads in
    let by : LineSettledAs places end r parts.place (heard ++ others) f.now = subst (λ (o : Option Place). LineSettledAs places end r o (heard ++ others) f.now) place (subst (λ (l : List Use). LineSettledAs places end r r.place l f.now) told f.settled) in
    let tells : Heard (target_in (memory_in v.place)) heard = heard_by (displacement_in no_offsets v.place) (imm_bytes (core_line v.op).imm) v.place at r place in
    let now = inst_settled places end parts (displacement_in no_offsets v.place) (imm_bytes (core_line v.op).imm) v.place r f.now heard others reads tells by in
    let behind : uses_behind r.place us ≡ others = ap (λ (o : Option Place). uses_behind o us) place ∙ ap (λ (l : List Use). uses_behind parts.place l) told ∙ now.left in
    let later : ItemsAre places hs end f.later = more (uses_behind r.place us) f.later behind f.left in
    inl (record {
      kind = kind;
      core = core;
      is = is;
      reading = f.now;
      rest = f.later;
      first = f.is;
      reads = subst (λ (n : ℕ). ReadAs places (at + n) parts (target_in (memory_in v.place)) f.now) (sym now.same) now.reads;
      later = subst (λ (n : ℕ). ItemsAre places hs (at + n) f.later) (sym now.same) later;
    })

row_form : (jump : Jump) (b : Bool) (o : Option Row) → o ≡ short_row jump → ((if b then unwrap_or o (long_row jump) else long_row jump) ≡ long_row jump) ⊎ (short_row jump ≡ Some (if b then unwrap_or o (long_row jump) else long_row jump))
row_form jump false o e = inl refl
row_form jump true None e = inl refl
row_form jump true (Some row) e = inr (sym e)

open_are : (places : DeferredTarget → Option ℕ) (all : List (Item Core)) (at : ℕ) (h : HqItem) (hs : List HqItem) (jump : Jump) (to : Label) (xs : List (Item Core)) (r : LineReading) (ps : List Piece) (us : List Use) (readings : List LineReading) → jump_named h.kind ≡ Some jump → to.0 ≡ h.number → ◌≡◌ {A = PartsOf Line} (parts_in r) (jump_parts (line_of (long_row jump)) (pos 0)) → us ≡ (at + r.length - 4, target.Label to) ∷ uses_of (all_told core_becomes all (at + r.length) xs ps) → EachSettled places at (open_jump r ∷ ps) us readings → Later places all hs xs (at + r.length) ps → ItemsAre places (h ∷ hs) at readings
unfolding ItemsAre
open_are places all at h hs jump to xs r ps us readings kind number reads uses settled more =
    let end : ℕ = at + r.length in
    let f : FirstSettled places at (open_jump r) ps us readings = first_of places at (open_jump r) ps us readings settled in
    let by : JumpsTo places (target.Label to) end r f.now = subst (λ (l : List Use). JumpSettledBy places end r l f.now) uses f.settled in
    let same : f.now.length ≡ r.length = ap (λ (x : LineReading). x.length) by.same in
    let now : ◌≡◌ {A = PartsOf Line} (parts_in f.now) (jump_parts (line_of (long_row jump)) (pos by.bound_to -ℤ pos end)) = far_settled places end jump h.number r f.now (pos by.bound_to -ℤ pos end) reads by.same by.distance in
    let later : ItemsAre places hs end f.later = more (drop 1 us) f.later (ap (λ (l : List Use). drop 1 l) uses) f.left in
    inr (inr (record {
      jump = jump;
      kind = kind;
      reading = f.now;
      rest = f.later;
      first = f.is;
      row = long_row jump;
      form = inl refl;
      place = by.bound_to;
      bound = subst (λ (n : ℕ). places (target.Label (record { 0 = n })) ≡ Some by.bound_to) number by.is_bound;
      reads = subst (λ (n : ℕ). ◌≡◌ {A = PartsOf Line} (parts_in f.now) (jump_parts (line_of (long_row jump)) (pos by.bound_to -ℤ pos (at + n)))) (sym same) now;
      later = subst (λ (n : ℕ). ItemsAre places hs (at + n) f.later) (sym same) later;
    }))

whole_are : (places : DeferredTarget → Option ℕ) (lens : List ℕ) (all : List (Item Core)) (n at spot : ℕ) (h : HqItem) (hs : List HqItem) (jump : Jump) (to : Label) (xs : List (Item Core)) (r : LineReading) (ps : List Piece) (us : List Use) (readings : List LineReading) → jump_named h.kind ≡ Some jump → to.0 ≡ h.number → ◌≡◌ {A = PartsOf Line} (parts_in r) (jump_parts (line_of (row_of_len jump (slice_index lens n))) (distance_in lens n spot)) → places (target.Label to) ≡ Some (place_in lens spot) → at + r.length ≡ place_in lens (n + 1) → us ≡ uses_of (all_told core_becomes all (at + r.length) xs ps) → EachSettled places at (whole r ∷ ps) us readings → Later places all hs xs (at + r.length) ps → ItemsAre places (h ∷ hs) at readings
unfolding ItemsAre
whole_are places lens all n at spot h hs jump to xs r ps us readings kind number reads bound next uses settled more =
    let end : ℕ = at + r.length in
    let row : Row = row_of_len jump (slice_index lens n) in
    let d : ℤ = distance_in lens n spot in
    let f : FirstSettled places at (whole r) ps us readings = first_of places at (whole r) ps us readings settled in
    let place : ◌≡◌ {A = Option Place} r.place None = place_of_parts (jump_parts (line_of row) d) r reads in
    let is : f.now ≡ r = subst (λ (o : Option Place). LineSettledAs places end r o us f.now) place f.settled in
    let same : f.now.length ≡ r.length = ap (λ (x : LineReading). x.length) is in
    let now : ◌≡◌ {A = PartsOf Line} (parts_in f.now) (jump_parts (line_of row) (pos (place_in lens spot) -ℤ pos end)) = ap (λ (x : LineReading). parts_in x) is ∙ reads ∙ ap (λ (m : ℕ). jump_parts {K = Line} (line_of row) (pos (place_in lens spot) -ℤ pos m)) (sym next) in
    let behind : uses_behind r.place us ≡ us = ap (λ (o : Option Place). uses_behind o us) place in
    let later : ItemsAre places hs end f.later = more (uses_behind r.place us) f.later (behind ∙ uses) f.left in
    inr (inr (record {
      jump = jump;
      kind = kind;
      reading = f.now;
      rest = f.later;
      first = f.is;
      row = row;
      form = row_form jump (slice_index lens n == 2) (short_row jump) refl;
      place = place_in lens spot;
      bound = subst (λ (m : ℕ). places (target.Label (record { 0 = m })) ≡ Some (place_in lens spot)) number bound;
      reads = subst (λ (m : ℕ). ◌≡◌ {A = PartsOf Line} (parts_in f.now) (jump_parts (line_of row) (pos (place_in lens spot) -ℤ pos (at + m)))) (sym same) now;
      later = subst (λ (m : ℕ). ItemsAre places hs (at + m) f.later) (sym same) later;
    }))

jump_are : (places : DeferredTarget → Option ℕ) (lens : List ℕ) (all : List (Item Core)) (n at : ℕ) (h : HqItem) (hs : List HqItem) (jump : Jump) (to : Label) (xs : List (Item Core)) (o : Option ℕ) (p : Piece) (ps : List Piece) (us : List Use) (readings : List LineReading) → spot_of to.0 all ≡ o → jump_named h.kind ≡ Some jump → to.0 ≡ h.number → JumpReads lens n jump o p → at + (reading_in p).length ≡ place_in lens (n + 1) → Bound places lens all → us ≡ uses_of (jump_told o to at p ++ all_told core_becomes all (at + (reading_in p).length) xs ps) → EachSettled places at (p ∷ ps) us readings → Later places all hs xs (at + (reading_in p).length) ps → ItemsAre places (h ∷ hs) at readings
jump_are places lens all n at h hs jump to xs None (whole r) ps us readings spot kind number reads next bound uses settled more = absurd reads
jump_are places lens all n at h hs jump to xs None (open_jump r) ps us readings spot kind number reads next bound uses settled more = open_are places all at h hs jump to xs r ps us readings kind number reads uses settled more
jump_are places lens all n at h hs jump to xs (Some there) (whole r) ps us readings spot kind number reads next bound uses settled more = whole_are places lens all n at there h hs jump to xs r ps us readings kind number reads (bound to.0 there spot) next uses settled more
jump_are places lens all n at h hs jump to xs (Some there) (open_jump r) ps us readings spot kind number reads next bound uses settled more = absurd reads

none_are : (places : DeferredTarget → Option ℕ) (at : ℕ) (ps : List Piece) (us : List Use) (readings : List LineReading) → ps ≡ [] → EachSettled places at ps us readings → ItemsAre places [] at readings
unfolding ItemsAre
none_are places at ps us readings e settled = subst (λ (l : List Piece). EachSettled places at l us readings) e settled

label_are : (places : DeferredTarget → Option ℕ) (lens : List ℕ) (all : List (Item Core)) (n at : ℕ) (h : HqItem) (hs : List HqItem) (bound : Label) (readings : List LineReading) → h.kind ≡ 1 → bound.0 ≡ h.number → at ≡ place_in lens n → spot_of bound.0 all ≡ Some (n + 0) → Bound places lens all → ItemsAre places hs at readings → ItemsAre places (h ∷ hs) at readings
unfolding ItemsAre
label_are places lens all n at h hs bound readings kind number here spot bounds later =
    let e : n + 0 ≡ n = omega arith in
    let there : places (target.Label (record { 0 = bound.0 })) ≡ Some at = bounds bound.0 (n + 0) spot ∙ ap (λ (m : ℕ). Some (place_in lens m)) e ∙ ap (λ (m : ℕ). Some m) (sym here) in
    inr (inl (record { kind = kind; bound = subst (λ (m : ℕ). places (target.Label (record { 0 = m })) ≡ Some at) number there; later = later }))

next_place : (lens : List ℕ) (n at size : ℕ) → at ≡ place_in lens n → size ≡ slice_index lens n → at + size ≡ place_in lens (n + 1)
next_place lens n at size here long = omega (arith, here, long, place_more lens n)

spots_next : (all : List (Item Core)) (n : ℕ) (x : Item Core) (xs : List (Item Core)) → ((k : ℕ) → entries (take (suc k) (x ∷ xs)) ≡ suc (entries (take k xs))) → Spots all n (x ∷ xs) → Spots all (n + 1) xs
spots_next all n x xs one spots = λ k label is.
    let e : n + entries (take (suc k) (x ∷ xs)) ≡ n + 1 + entries (take k xs) = omega (arith, one k) in
    spots (suc k) label is ∙ ap (λ (m : ℕ). Some m) e

pub items_are : (places : DeferredTarget → Option ℕ) (lens : List ℕ) (all : List (Item Core)) (n at : ℕ) (hs : List HqItem) (xs : List (Item Core)) (ps : List Piece) (us : List Use) (readings : List LineReading) → MakesEach hs xs → EachReads core_becomes lens all n xs ps → at ≡ place_in lens n → Spots all n xs → Bound places lens all → us ≡ uses_of (all_told core_becomes all at xs ps) → EachSettled places at ps us readings → ItemsAre places hs at readings
items_are places lens all n at [] [] ps us readings makes reads here spots bound uses settled = none_are places at ps us readings reads settled
items_are places lens all n at [] (x ∷ xs) ps us readings makes reads here spots bound uses settled = absurd makes
items_are places lens all n at (h ∷ hs) [] ps us readings makes reads here spots bound uses settled = absurd makes
items_are places lens all n at (h ∷ hs) (item.Inst core ∷ xs) [] us readings makes reads here spots bound uses settled = absurd reads
items_are places lens all n at (h ∷ hs) (item.Inst core ∷ xs) (open_jump r ∷ ps) us readings makes reads here spots bound uses settled = absurd reads.0
items_are places lens all n at (h ∷ hs) (item.Inst core ∷ xs) (whole r ∷ ps) us readings makes reads here spots bound uses settled =
    inst_are places all at h hs core xs r ps us readings makes.0.0 makes.0.1 reads.0 uses settled
    (λ later now told is. items_are places lens all (n + 1) (at + r.length) hs xs ps later now makes.1 reads.2 (next_place lens n at r.length here reads.1) (spots_next all n (item.Inst core) xs (λ k. refl) spots) bound told is)
items_are places lens all n at (h ∷ hs) (item.Jump jump to ∷ xs) [] us readings makes reads here spots bound uses settled = absurd reads
items_are places lens all n at (h ∷ hs) (item.Jump jump to ∷ xs) (p ∷ ps) us readings makes reads here spots bound uses settled =
    jump_are places lens all n at h hs jump to xs (spot_of to.0 all) p ps us readings refl makes.0.0 makes.0.1 reads.0 (next_place lens n at (reading_in p).length here reads.1) bound uses settled
    (λ later now told is. items_are places lens all (n + 1) (at + (reading_in p).length) hs xs ps later now makes.1 reads.2 (next_place lens n at (reading_in p).length here reads.1) (spots_next all n (item.Jump jump to) xs (λ k. refl) spots) bound told is)
items_are places lens all n at (h ∷ hs) (item.Bind label ∷ xs) ps us readings makes reads here spots bound uses settled =
    label_are places lens all n at h hs label readings makes.0.0 makes.0.1 here (spots 0 label refl) bound
    (items_are places lens all n at hs xs ps us readings makes.1 reads here (λ k other is. spots (suc k) other is) bound uses settled)

-- Lengths.

line_length : (places : DeferredTarget → Option ℕ) (end : ℕ) (r q : LineReading) (o : Option Place) (us : List Use) → LineSettledAs places end r o us q → q.length ≡ r.length
line_length places end r q None us h = ap (λ (x : LineReading). x.length) h
line_length places end r q (Some (Reg view)) us h = ap (λ (x : LineReading). x.length) h
line_length places end r q (Some (Mem base index disp)) us h = ap (λ (x : LineReading). x.length) h
line_length places end r q (Some (Rip disp)) [] h = absurd h
line_length places end r q (Some (Rip disp)) ((at, target.Label label) ∷ us) h = ap (λ (x : LineReading). x.length) h.same
line_length places end r q (Some (Rip disp)) ((at, target.Constant constant) ∷ us) h = ap (λ (x : LineReading). x.length) h.same
line_length places end r q (Some (Rip disp)) ((at, target.None) ∷ us) h = ap (λ (x : LineReading). x.length) h

piece_length : (places : DeferredTarget → Option ℕ) (end : ℕ) (p : Piece) (q : LineReading) (us : List Use) → PieceSettled places end p us q → q.length ≡ (reading_in p).length
piece_length places end (whole r) q us h = line_length places end r q r.place us h
piece_length places end (open_jump r) q [] h = absurd h
piece_length places end (open_jump r) q ((at, target.Label label) ∷ us) h = ap (λ (x : LineReading). x.length) h.same
piece_length places end (open_jump r) q ((at, target.Constant constant) ∷ us) h = ap (λ (x : LineReading). x.length) h.same
piece_length places end (open_jump r) q ((at, target.None) ∷ us) h = ap (λ (x : LineReading). x.length) h

one_length : (lens : List ℕ) (n count size : ℕ) (later : List ℕ) → length lens ≡ n + suc count → size ≡ slice_index lens n → later ≡ drop (n + 1) lens → size ∷ later ≡ drop n lens
one_length lens n count size later all long h = ap (λ (m : ℕ). m ∷ later) long ∙ ap (λ (l : List ℕ). get_or lens n 0 ∷ l) h ∙ sym (drop_more lens n 0 (omega arith))

none_left : (lens : List ℕ) (n : ℕ) → length lens ≡ n + 0 → drop n lens ≡ []
none_left [] zero h = refl
none_left [] (suc n) h = refl
none_left (x ∷ lens) zero h = absurd (omega arith)
none_left (x ∷ lens) (suc n) h = none_left lens n (omega arith)

pub are_lengths : (places : DeferredTarget → Option ℕ) (lens : List ℕ) (all : List (Item Core)) (n at : ℕ) (xs : List (Item Core)) (ps : List Piece) (us : List Use) (readings : List LineReading) → length lens ≡ n + entries xs → EachReads core_becomes lens all n xs ps → EachSettled places at ps us readings → lengths readings ≡ drop n lens
are_lengths places lens all n at [] ps us readings count reads settled =
    let none : readings ≡ [] = subst (λ (l : List Piece). EachSettled places at l us readings) reads settled in
    ap lengths none ∙ sym (none_left lens n count)
are_lengths places lens all n at (item.Bind label ∷ xs) ps us readings count reads settled = are_lengths places lens all n at xs ps us readings count reads settled
are_lengths places lens all n at (item.Inst core ∷ xs) [] us readings count reads settled = absurd reads
are_lengths places lens all n at (item.Inst core ∷ xs) (p ∷ ps) us [] count reads settled = absurd settled
are_lengths places lens all n at (item.Inst core ∷ xs) (p ∷ ps) us (q ∷ readings) count reads settled = one_length lens n (entries xs) q.length (lengths readings) count (piece_length places (at + (reading_in p).length) p q us settled.0 ∙ reads.1) (are_lengths places lens all (n + 1) (at + (reading_in p).length) xs ps (uses_after p us) readings (omega arith) reads.2 settled.1)
are_lengths places lens all n at (item.Jump jump to ∷ xs) [] us readings count reads settled = absurd reads
are_lengths places lens all n at (item.Jump jump to ∷ xs) (p ∷ ps) us [] count reads settled = absurd settled
are_lengths places lens all n at (item.Jump jump to ∷ xs) (p ∷ ps) us (q ∷ readings) count reads settled = one_length lens n (entries xs) q.length (lengths readings) count (piece_length places (at + (reading_in p).length) p q us settled.0 ∙ reads.1) (are_lengths places lens all (n + 1) (at + (reading_in p).length) xs ps (uses_after p us) readings (omega arith) reads.2 settled.1)

-- Traps.

pub traps_both : (a b : List Notice) → traps_in (a ++ b) ≡ traps_in a ++ traps_in b
traps_both [] b = refl
traps_both (Trap at code ∷ a) b = ap (λ (l : List HqUse). told (Some (Trap at code)) ∷ l) (traps_both a b)
traps_both (Target at goes_to ∷ a) b = traps_both a b

pub traps_more : (notices : List Notice) (d : Notice) (i : ℕ) (old new : List HqUse) → i < length notices → new ≡ old ++ traps_in (get_or notices i d ∷ []) → old ≡ traps_in (take i notices) → new ≡ traps_in (take (i + 1) notices)
traps_more notices d i old new within adds h =
    adds
    ∙ ap (λ (l : List HqUse). l ++ traps_in (get_or notices i d ∷ [])) h
    ∙ sym (traps_both (take i notices) (get_or notices i d ∷ []))
    ∙ ap traps_in (sym (take_more notices i d within))

one_trap : (trap : Option TrapCode) (at : ℕ) → traps_in (trap_notice trap at) ≡ uses_told (trap_notice trap at)
one_trap None at = refl
one_trap (Some code) at = refl

no_traps : (goes_to : DeferredTarget) (fields : List ℕ) → traps_in (map (λ field. Target field goes_to) fields) ≡ []
no_traps goes_to [] = refl
no_traps goes_to (field ∷ fields) = no_traps goes_to fields

inst_traps : (memory : Option (Amode ℕ)) (at : ℕ) (p : Piece) → traps_in (inst_told memory at p) ≡ trap_told memory at
inst_traps None at p = refl
inst_traps (Some (ImmReg base simm32 trap)) at p = one_trap trap at
inst_traps (Some (ImmRegRegShift base index scale simm32 trap)) at p = one_trap trap at
inst_traps (Some (RipRelative goes_to)) at p = no_traps goes_to (piece_field at p)

jump_traps : (o : Option ℕ) (to : Label) (at : ℕ) (p : Piece) → traps_in (jump_told o to at p) ≡ []
jump_traps None to at p = no_traps (target.Label to) (piece_field at p)
jump_traps (Some spot) to at p = refl

pub traps_are : (places : DeferredTarget → Option ℕ) (lens : List ℕ) (all : List (Item Core)) (n at : ℕ) (xs : List (Item Core)) (ps : List Piece) (us : List Use) (readings : List LineReading) → EachReads core_becomes lens all n xs ps → EachSettled places at ps us readings → traps_in (all_told core_becomes all at xs ps) ≡ traps_told xs at readings
traps_are places lens all n at [] ps us readings reads settled = refl
traps_are places lens all n at (item.Bind label ∷ xs) ps us readings reads settled = traps_are places lens all n at xs ps us readings reads settled
traps_are places lens all n at (item.Inst core ∷ xs) [] us readings reads settled = absurd reads
traps_are places lens all n at (item.Inst core ∷ xs) (p ∷ ps) us [] reads settled = absurd settled
traps_are places lens all n at (item.Inst core ∷ xs) (p ∷ ps) us (q ∷ readings) reads settled =
    let long : q.length ≡ (reading_in p).length = piece_length places (at + (reading_in p).length) p q us settled.0 in
    traps_both (inst_told (memory_in (core_view core).place) at p) (all_told core_becomes all (at + (reading_in p).length) xs ps)
    ∙ ap (λ (l : List HqUse). l ++ traps_in (all_told core_becomes all (at + (reading_in p).length) xs ps)) (inst_traps (memory_in (core_view core).place) at p)
    ∙ ap (λ (l : List HqUse). trap_told (memory_in (core_view core).place) at ++ l) (traps_are places lens all (n + 1) (at + (reading_in p).length) xs ps (uses_after p us) readings reads.2 settled.1)
    ∙ ap (λ (m : ℕ). trap_told (memory_in (core_view core).place) at ++ traps_told xs (at + m) readings) (sym long)
traps_are places lens all n at (item.Jump jump to ∷ xs) [] us readings reads settled = absurd reads
traps_are places lens all n at (item.Jump jump to ∷ xs) (p ∷ ps) us [] reads settled = absurd settled
traps_are places lens all n at (item.Jump jump to ∷ xs) (p ∷ ps) us (q ∷ readings) reads settled =
    let long : q.length ≡ (reading_in p).length = piece_length places (at + (reading_in p).length) p q us settled.0 in
    traps_both (jump_told (spot_of to.0 all) to at p) (all_told core_becomes all (at + (reading_in p).length) xs ps)
    ∙ ap (λ (l : List HqUse). l ++ traps_in (all_told core_becomes all (at + (reading_in p).length) xs ps)) (jump_traps (spot_of to.0 all) to at p)
    ∙ traps_are places lens all (n + 1) (at + (reading_in p).length) xs ps (uses_after p us) readings reads.2 settled.1
    ∙ ap (λ (m : ℕ). traps_told xs (at + m) readings) (sym long)

-- What stands behind the code.

-- each field ends up to a place
abbrev Below : ℕ → List ℕ → Type 0
Below end [] = Unit {0}
Below end (x ∷ xs) = (x + 4 ≤ end) × Below end xs

below_more : (low end : ℕ) (xs : List ℕ) → low ≤ end → Below low xs → Below end xs
below_more low end [] h k = tt
below_more low end (x ∷ xs) h k = let e : x + 4 ≤ low = k.0 in (omega (arith, h, e), below_more low end xs h k.1)

below_both : (at low end : ℕ) (xs ys : List ℕ) → low ≤ end → FieldWithin at low xs → Below end ys → Below end (xs ++ ys)
below_both at low end [] ys h w k = k
below_both at low end (x ∷ xs) ys h w k = let e : x + 4 ≤ low = w.1 in (omega (arith, h, e), subst (λ (z : List ℕ). Below end (z ++ ys)) (sym w.2) k)

fields_below : (at : ℕ) (ps : List Piece) (a : List ℕ) → LinesRead (readings_in ps) a → EachOpen ps → Below (at + length a) (piece_fields at ps)
fields_below at [] a h opened = tt
fields_below at (p ∷ ps) a h opened =
    let n : ℕ = (reading_in p).length in
    let within : n ≤ length a = h.2 in
    let rest : length (drop n a) ≡ length a - n = length-drop n a in
    below_both at (at + n) (at + length a) (piece_field at p) (piece_fields (at + n) ps) (omega (arith, within)) (field_within p at a h.0 h.1 h.2 opened.0)
    (below_more (at + n + length (drop n a)) (at + length a) (piece_fields (at + n) ps) (omega (arith, within, rest)) (fields_below (at + n) ps (drop n a) h.3 opened.1))

outside_above : (high i : ℕ) (us : List Use) → high ≤ i → Below high (places_told us) → All (IsOutside i) (links us)
outside_above high i [] h k = λ n d within. absurd (omega arith)
outside_above high i ((at, target.Label l) ∷ us) h k = let e : at + 4 ≤ high = k.0 in All-cons (IsOutside i) (at, target.Label l) (links us) (inr (omega (arith, h, e))) (outside_above high i us h k.1)
outside_above high i ((at, target.Constant c) ∷ us) h k = let e : at + 4 ≤ high = k.0 in All-cons (IsOutside i) (at, target.Constant c) (links us) (inr (omega (arith, h, e))) (outside_above high i us h k.1)
outside_above high i ((at, target.None) ∷ us) h k = outside_above high i us h k.1

-- what is behind all fields is outside of them
pub all_outside : (ps : List Piece) (n i : ℕ) (s : State) (places : DeferredTarget → Option ℕ) → Laid ps n s places → n ≤ i → All (IsOutside i) (links (uses_of s.notices))
all_outside ps n i s places h behind =
    let size : length (take n s.bytes) ≡ n = length-take-le n s.bytes h.within in
    let below : Below (0 + length (take n s.bytes)) (piece_fields 0 ps) = fields_below 0 ps (take n s.bytes) h.reads h.opened in
    outside_above (0 + length (take n s.bytes)) i (uses_of s.notices) (omega (arith, size, behind)) (subst (λ (l : List ℕ). Below (0 + length (take n s.bytes)) l) (sym h.told) below)

pub rest_stays : (n : ℕ) (old new : List ℕ) → length new ≡ length old → ((i : ℕ) → n ≤ i → get_or new i 0 ≡ get_or old i 0) → drop n new ≡ drop n old
rest_stays n old new size same =
    let a : length (drop n new) ≡ length new - n = length-drop n new in
    let b : length (drop n old) ≡ length old - n = length-drop n old in
    same_list (drop n new) (drop n old) (omega (arith, size, a, b)) (λ i within. get_or-drop n new i 0 ∙ same (n + i) (omega arith) ∙ sym (get_or-drop n old i 0))

-- All of them.

abbrev all_assembled : (given : ℕ) (items : List HqItem) (s : State) (places : DeferredTarget → Option ℕ) (new : List ℕ) → (h : Behind given (items_of_code items) (data_of items) s places) → LaidOut h.items.put.more (length h.before.bytes) s places new → length new ≡ length s.bytes → ((i : ℕ) → All (IsOutside i) (links (uses_of s.notices)) → get_or new i 0 ≡ get_or s.bytes i 0) → Assembled items new
all_assembled given items s places new h out size others =
    let front : HasItems given (items_of_code items) h.before h.old = h.items in
    let xs : List (Item Core) = front.list in
    let lens : List ℕ = front.put.lens in
    let n : ℕ = length h.before.bytes in
    let held : List ℕ = data_from n (data_of items) in
    let all : length s.bytes ≡ n + length held = ap (λ (l : List ℕ). length l) h.bytes ∙ length-append h.before.bytes held in
    let code : List ℕ = take n new in
    let count : length code ≡ n = length-take-le n new (omega (arith, size, all)) in
    let rest : drop n new ≡ drop n s.bytes = rest_stays n s.bytes new size (λ i behind. others i (all_outside front.put.more n i s places h.laid behind)) in
    let data_is : drop n s.bytes ≡ held = ap (λ (l : List ℕ). drop n l) h.bytes ∙ drop_at h.before.bytes held n refl in
    let start : length front.before.bytes ≡ 0 = ap (λ (l : List ℕ). length l) front.bytes in
    let told : uses_of s.notices ≡ uses_of (all_told core_becomes xs 0 xs front.put.more) = ap uses_of h.notices ∙ ap uses_of front.put.told ∙ ap (λ (l : List Notice). uses_of (l ++ all_told core_becomes xs (length front.before.bytes) xs front.put.more)) front.notices ∙ ap (λ (n : ℕ). uses_of (all_told core_becomes xs n xs front.put.more)) start in
    let free : AreFree given front.old xs = are_free core_fault given front.old xs front.tested in
    let spots : Spots xs 0 xs = λ k label is. let e : entries (take k xs) ≡ 0 + entries (take k xs) = omega arith in spot_there xs k label is (free k label is).2 ∙ ap (λ (n : ℕ). Some n) e in
    let bound : Bound places lens xs = λ label spot is. let e : length front.before.bytes + place_in lens spot ≡ place_in lens spot = omega (arith, start) in h.stays (target.Label (record { 0 = label })) (place_in lens spot) (front.put.bound label spot is ∙ ap (λ (n : ℕ). Some n) e) in
    let few : length lens ≡ entries xs = front.put.least.layout.as_many ∙ spans_few (λ core. core_len no_offsets (core_view core)) xs xs in
    let counted : length lens ≡ 0 + entries xs = omega (arith, few) in
    let long : lengths out.now ≡ lens = are_lengths places lens xs 0 0 xs front.put.more (uses_of s.notices) out.now counted front.put.reads out.settled in
    record {
      code = code;
      is = sym (take-append-drop n new) ∙ ap (λ (l : List ℕ). code ++ l) (rest ∙ data_is) ∙ ap (λ (m : ℕ). code ++ data_from m (data_of items)) (sym count);
      readings = out.now;
      reads = out.reads;
      places = places;
      are = items_are places lens xs 0 0 (items_of_code items) xs front.put.more (uses_of s.notices) out.now front.makes front.put.reads refl spots bound told out.settled;
      bound = subst (λ (m : ℕ). AreBound places m (data_of items)) (sym count) h.bound;
      list = xs;
      lists = list_is (items_of_code items) xs front.makes;
      least = subst (λ (l : List ℕ). IsLeast (list_spans xs) l) (sym long) front.put.least;
    }

abbrev all_counted : (given : ℕ) (items : List HqItem) (heard : List HqUse) (done : HqDone) (s : State) (places : DeferredTarget → Option ℕ) (bytes : List ℕ) → (h : Behind given (items_of_code items) (data_of items) s places) → LaidOut h.items.put.more (length h.before.bytes) s places bytes → length bytes ≡ length s.bytes → ((i : ℕ) → All (IsOutside i) (links (uses_of s.notices)) → get_or bytes i 0 ≡ get_or s.bytes i 0) → heard ≡ traps_in s.notices → done.items ≡ length items → done.bytes ≡ length bytes → done.uses ≡ length heard → Counted items done
all_counted given items heard done s places bytes h out size others traps number len count =
    let front : HasItems given (items_of_code items) h.before h.old = h.items in
    let xs : List (Item Core) = front.list in
    let start : length front.before.bytes ≡ 0 = ap (λ (l : List ℕ). length l) front.bytes in
    let notices : s.notices ≡ all_told core_becomes xs 0 xs front.put.more = h.notices ∙ front.put.told ∙ ap (λ (l : List Notice). l ++ all_told core_becomes xs (length front.before.bytes) xs front.put.more) front.notices ∙ ap (λ (n : ℕ). all_told core_becomes xs n xs front.put.more) start in
    record {
      added = bytes;
      assembled = all_assembled given items s places bytes h out size others;
      traps = heard;
      are = traps ∙ ap traps_in notices ∙ traps_are places front.put.lens xs 0 0 xs front.put.more (uses_of s.notices) out.now front.put.reads out.settled;
      number = number;
      len = len;
      count = count;
    }

abbrev pub finished_counted : {T E : Type 0} (r : Result T E) (given : ℕ) (items : List HqItem) (heard : List HqUse) (done : HqDone) (s : State) (places : DeferredTarget → Option ℕ) (new bytes : List ℕ) → is_err r ≡ false → Behind given (items_of_code items) (data_of items) s places → ((pieces : List Piece) (n : ℕ) → Laid pieces n s places → OnOk r (LaidOut pieces n s places new)) → length new ≡ length s.bytes → ((i : ℕ) → All (IsOutside i) (links (uses_of s.notices)) → OnOk r (get_or new i 0 ≡ get_or s.bytes i 0)) → bytes ≡ new → heard ≡ traps_in s.notices → done.items ≡ length items → done.bytes ≡ length bytes → done.uses ≡ length heard → Counted items done
finished_counted r given items heard done s places new bytes well h laid size others same traps number len count =
    all_counted given items heard done s places bytes h
    (subst (λ (l : List ℕ). LaidOut h.items.put.more (length h.before.bytes) s places l) (sym same) (finished r well (laid h.items.put.more (length h.before.bytes) h.laid)))
    (ap (λ (l : List ℕ). length l) same ∙ size)
    (λ i outside. ap (λ (l : List ℕ). get_or l i 0) same ∙ finished r well (others i outside))
    traps number len count

pub either_full : (a b c d : ℕ) → (nat_lt a b || nat_lt c d) ≡ true → (a < b) ⊎ (c < d)
either_full a b c d h = by_first (nat_lt a b) refl h
  where
    by_first : (t : Bool) → nat_lt a b ≡ t → (t || nat_lt c d) ≡ true → (a < b) ⊎ (c < d)
    by_first true e k = inl (grind (arith, nat_tests, e))
    by_first false e k = inr (grind (arith, nat_tests, k))
