use Rattle.std.proofs.Common.{◌≡◌, ℕ, ◌+◌, ◌-◌, arith, refl, ◌∙◌, ap, sym, ℤ, Bool, true, Option, Some, None, List, [], ◌∷◌, ◌++◌, map, length, drop, append_assoc, append-nil}
use Rattle.std.specs.Prelude.{if◌then◌else◌}
use Rattle.std.proofs.Math.Seq.{take-length}
use Rattle.std.proofs.lemmas.List.{length-drop}
use Rattle.cax64_address.specs.declared.amode.Amode.{Amode}
use Rattle.cax64_address.specs.declared.amode.Amode.TheVariants.{ImmReg, ImmRegRegShift, RipRelative}
use Rattle.cax64_encoder.specs.EncodesLine.{line_notices_of}
use Rattle.cax64_encoder.specs.Relative.{relative_in, unsettled}
use Rattle.cax64_machine_code.specs.ReadLine.{LineReading}
use Rattle.cax64_machine_code.specs.Reading.{PartsOf}
use Rattle.cax64_machine_code.specs.declared.line.ImmField.{ImmField}
use Rattle.cax64_machine_code.specs.declared.line.Line.{Line}
use Rattle.cax64_machine_code.specs.declared.reading.Place.{Place}
use Rattle.cax64_machine_code.specs.declared.reading.Place.TheVariants.{Reg, Mem, Rip}
use Rattle.cax64_sink.specs.Sink.{State}
use Rattle.cax64_sink.specs.declared.DeferredTarget.{DeferredTarget}
use Rattle.cax64_sink.specs.declared.Label.{Label}
use Rattle.cax64_sink.specs.declared.Notice.{Notice}
use Rattle.cax64_sink.specs.declared.Notice.TheVariants.{Target}
use Rattle.x64_code_buffer.specs.Laid.{Laid, LinesRead, Piece, line_field_at, line_field_place, line_imm_behind, open_jump, reading_in, readings_in, whole}
use Rattle.x64_encode.specs.Encode.{AddsMeant, LineMeant, ReadsRelativeBy}
use Rattle.x64_assemble.specs.Assembled.{EachReads, all_told, jump_told, spot_of}
use Rattle.x64_assemble.specs.Listed.{Listed, inst_told, use_told}
use Rattle.x64_assemble.specs.declared.item.Item.{Item}
use Rattle.x64_assemble.specs.declared.item.Item.TheVariants as item

-- What a list tells.

-- how many bytes some pieces have
abbrev pub pieces_length : List Piece → ℕ
pieces_length [] = 0
pieces_length (p ∷ ps) = (reading_in p).length + pieces_length ps

pub pieces_total : (ps : List Piece) (a : List ℕ) → LinesRead (readings_in ps) a → length a ≡ pieces_length ps
pieces_total [] a h = ap length h
pieces_total (q ∷ ps) a h = omega (arith, h.2, length-drop (reading_in q).length a, pieces_total ps (drop (reading_in q).length a) h.3)

pub laid_total : (ps : List Piece) (s : State) (places : DeferredTarget → Option ℕ) → Laid ps (length s.bytes) s places → length s.bytes ≡ pieces_length ps
laid_total ps s places h =
    let reads : LinesRead (readings_in ps) s.bytes = rw (take-length s.bytes) at h.reads in
    pieces_total ps s.bytes reads

-- One span.

-- a place that counts from its instruction's end has a field
field_there : (at x : ℕ) (r : LineReading) (o : Option Place) (z : ℤ) → relative_in o ≡ Some z → x ≡ at + line_field_place r → x ∷ [] ≡ line_field_at at r o
field_there at x r None z relative e = cc
field_there at x r (Some (Reg view)) z relative e = cc
field_there at x r (Some (Mem base index disp)) z relative e = cc
field_there at x r (Some (Rip disp)) z relative e = ap (λ (n : ℕ). n ∷ []) e

-- the use of a target is told at the field of the piece
pub told_use : (M : Type 0) (at : ℕ) (r : LineReading) (goes_to : DeferredTarget) (imm : ImmField) → relative_in r.place ≡ unsettled {M = M} (Some (RipRelative goes_to)) imm → Target (at + (r.length - r.tail - line_imm_behind r) + 1) goes_to ∷ [] ≡ use_told goes_to at (whole r)
told_use M at r goes_to imm relative =
    ap (λ (z : List ℕ). map (λ (field : ℕ). Target field goes_to) z) (field_there at (at + (r.length - r.tail - line_imm_behind r) + 1) r r.place _ relative (omega arith))

pub tells_nothing : (s t : State) → t.notices ≡ s.notices → t.notices ≡ s.notices ++ []
tells_nothing s t notices = notices ∙ sym (append-nil s.notices)

pub tells_jump : (goes_to : DeferredTarget) (s t : State) (r : LineReading) (added : List ℕ) → r.length ≡ length added → t.notices ≡ s.notices ++ Target (length s.bytes + length added - 4) goes_to ∷ [] → t.notices ≡ s.notices ++ use_told goes_to (length s.bytes) (open_jump r)
tells_jump goes_to s t r added len notices = notices ∙ ap (λ (n : ℕ). s.notices ++ Target (length s.bytes + n - 4) goes_to ∷ []) (sym len)

pub tells_inst : {M : Type 0} (m : LineMeant M) (s t : State) → s.records ≡ true → ReadsRelativeBy m → (adds : AddsMeant m s t) → t.notices ≡ s.notices ++ inst_told m.memory (length s.bytes) (whole adds.reads.reading)
tells_inst {M = M} m s t records relative adds =
    let place : r.place ≡ m.parts.place = ap (λ (p : PartsOf Line). p.place) adds.reads.same in
    by_memory m.memory (ap relative_in place ∙ relative) (adds.notices ∙ ap (λ (z : Bool). if z then s.notices ++ line_notices_of m.memory (length s.bytes) r else s.notices) records)
  where
    r : LineReading
    r = adds.reads.reading

    by_memory : (o : Option (Amode M)) → relative_in r.place ≡ unsettled o m.parts.row.imm → t.notices ≡ s.notices ++ line_notices_of o (length s.bytes) r → t.notices ≡ s.notices ++ inst_told o (length s.bytes) (whole r)
    by_memory None is e = e
    by_memory (Some (ImmReg base simm32 trap)) is e = e
    by_memory (Some (ImmRegRegShift base index scale simm32 trap)) is e = e
    by_memory (Some (RipRelative goes_to)) is e = e ∙ ap (λ (z : List Notice). s.notices ++ z) (told_use M (length s.bytes) r goes_to m.parts.row.imm is)

-- A list that is one item longer.

-- what an item tells, if it is a span
abbrev pub item_told : {I : Type 0} → (I → Listed) → List (Item I) → Item I → ℕ → Piece → List Notice
item_told meant all (item.Inst inst) at p = (meant inst).tells at p
item_told meant all (item.Jump jump to) at p = jump_told (spot_of to.0 all) to at p
item_told meant all (item.Bind bound) at p = []

told_one : {I : Type 0} (meant : I → Listed) (all : List (Item I)) (at : ℕ) (x : Item I) (p : Piece) → all_told meant all at (x ∷ []) (p ∷ []) ≡ item_told meant all x at p
told_one meant all at (item.Inst inst) p = append-nil ((meant inst).tells at p)
told_one meant all at (item.Jump jump to) p = append-nil (jump_told (spot_of to.0 all) to at p)
told_one meant all at (item.Bind bound) p = refl

told_behind : {I : Type 0} (meant : I → Listed) (all : List (Item I)) (at : ℕ) (first : List Notice) (later longer : List Notice) (q : Piece) (ps : List Piece) (x : Item I) (p : Piece) → longer ≡ later ++ item_told meant all x (at + (reading_in q).length + pieces_length ps) p → first ++ longer ≡ (first ++ later) ++ item_told meant all x (at + pieces_length (q ∷ ps)) p
told_behind meant all at first later longer q ps x p h =
    let e : at + (reading_in q).length + pieces_length ps ≡ at + ((reading_in q).length + pieces_length ps) = omega arith in
    ap (λ (z : List Notice). first ++ z) (h ∙ ap (λ (n : ℕ). later ++ item_told meant all x n p) e)
    ∙ sym (append_assoc first later (item_told meant all x (at + ((reading_in q).length + pieces_length ps)) p))

pub told_push : {I : Type 0} (meant : I → Listed) (lens : List ℕ) (all : List (Item I)) (n at : ℕ) (xs : List (Item I)) (ps : List Piece) (x : Item I) (p : Piece) → EachReads meant lens all n xs ps → all_told meant all at (xs ++ x ∷ []) (ps ++ p ∷ []) ≡ all_told meant all at xs ps ++ item_told meant all x (at + pieces_length ps) p
told_push meant lens all n at [] ps x p h =
    let e : at + 0 ≡ at = omega arith in
    rw (h, e) (told_one meant all at x p)
told_push meant lens all n at (item.Inst inst ∷ xs) [] x p h = absurd h
told_push meant lens all n at (item.Inst inst ∷ xs) (q ∷ ps) x p h = told_behind meant all at ((meant inst).tells at q) (all_told meant all (at + (reading_in q).length) xs ps) (all_told meant all (at + (reading_in q).length) (xs ++ x ∷ []) (ps ++ p ∷ [])) q ps x p (told_push meant lens all (n + 1) (at + (reading_in q).length) xs ps x p h.2)
told_push meant lens all n at (item.Jump jump to ∷ xs) [] x p h = absurd h
told_push meant lens all n at (item.Jump jump to ∷ xs) (q ∷ ps) x p h = told_behind meant all at (jump_told (spot_of to.0 all) to at q) (all_told meant all (at + (reading_in q).length) xs ps) (all_told meant all (at + (reading_in q).length) (xs ++ x ∷ []) (ps ++ p ∷ [])) q ps x p (told_push meant lens all (n + 1) (at + (reading_in q).length) xs ps x p h.2)
told_push meant lens all n at (item.Bind bound ∷ xs) ps x p h = told_push meant lens all n at xs ps x p h

pub told_bind : {I : Type 0} (meant : I → Listed) (lens : List ℕ) (all : List (Item I)) (n at : ℕ) (xs : List (Item I)) (ps : List Piece) (bound : Label) → EachReads meant lens all n xs ps → all_told meant all at (xs ++ item.Bind bound ∷ []) ps ≡ all_told meant all at xs ps
told_bind meant lens all n at [] ps bound h = refl
told_bind meant lens all n at (item.Inst inst ∷ xs) [] bound h = absurd h
told_bind meant lens all n at (item.Inst inst ∷ xs) (q ∷ ps) bound h = ap (λ (z : List Notice). (meant inst).tells at q ++ z) (told_bind meant lens all (n + 1) (at + (reading_in q).length) xs ps bound h.2)
told_bind meant lens all n at (item.Jump jump to ∷ xs) [] bound h = absurd h
told_bind meant lens all n at (item.Jump jump to ∷ xs) (q ∷ ps) bound h = ap (λ (z : List Notice). jump_told (spot_of to.0 all) to at q ++ z) (told_bind meant lens all (n + 1) (at + (reading_in q).length) xs ps bound h.2)
told_bind meant lens all n at (item.Bind other ∷ xs) ps bound h = told_bind meant lens all n at xs ps bound h
