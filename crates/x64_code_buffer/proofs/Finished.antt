use Rattle.std.proofs.Common.{◌≡◌, ◌⊎◌, inl, inr, ℕ, suc, ◌+◌, ◌-◌, ◌<◌, ◌≤◌, arith, refl, ◌∙◌, ap, sym, subst, ℤ, pos, ◌+ℤ◌, ◌-ℤ◌, List, [], ◌∷◌, ◌++◌, Bool, true, false, Option, Some, None, length, take, drop, get_or, All, append-nil}
use Rattle.std.specs.Prelude.{option_and_then, if◌then◌else◌}
use Rattle.std.proofs.Math.ListN.{get_or-append}
use Rattle.std.proofs.lemmas.Int.{ints}
use Rattle.std.proofs.lemmas.List.{get_or-take, get_or-drop, get_or-append-add, length-drop, length-take-le, drop-drop}
use Rattle.std.proofs.lemmas.List.Elements.{All-cons}
use Rattle.cax64_address.specs.Offset.{fits_i32}
use Rattle.cax64_machine_code.specs.Address.{modulo_64_bits}
use Rattle.cax64_machine_code.specs.Fields.{s32}
use Rattle.cax64_machine_code.specs.ReadLine.{LineReading, read_line}
use Rattle.cax64_machine_code.specs.declared.line.Line.{Line}
use Rattle.cax64_machine_code.specs.declared.reading.Place.{Place}
use Rattle.cax64_machine_code.specs.declared.reading.Place.TheVariants.{Reg, Mem, Rip}
use Rattle.cax64_machine_code.proofs.ReadLine.{line_more}
use Rattle.cax64_sink.specs.declared.DeferredTarget.{DeferredTarget}
use Rattle.cax64_sink.specs.declared.DeferredTarget.TheVariants as target
use Rattle.x64_code_buffer.specs.Field.{if_i32, patched, stored_at}
use Rattle.x64_code_buffer.specs.Filled.{Unpatched, places_told, uses_behind}
use Rattle.x64_code_buffer.specs.Laid.{Piece, whole, open_jump, reading_in, readings_in, line_imm_behind, line_field_place, LinesRead, Open, EachOpen, line_field_at, piece_fields, LineLeads, JumpsTo, LineSettledAs, PieceSettled, uses_after, EachSettled}
use Rattle.x64_code_buffer.specs.Use.{Use, patched_at, links, IsOutside, IsPatched}
use Rattle.x64_code_buffer.proofs.Fields.{stored_is, four_at}
use Rattle.x64_code_buffer.proofs.Filling.{one_read}
use Rattle.x64_code_buffer.proofs.Laying.{is_some_rip}
use Rattle.x64_code_buffer.proofs.Relocated.{four, Slot, slot_size, relocated, relocated_jump}
use Rattle.x64_code_buffer.proofs.Settling.{some_same, same_list, piece, front_length, piece_length, piece_at, same_piece, Above, fields_above, outside_below}

-- The bytes of an instruction whose field holds another number.

record Moved (n at len : ℕ) (line : Line) (f k : ℕ) (so : ℤ → LineReading) (old new : List ℕ) : Type 0 where
  old_within : n ≤ length old
  new_within : n ≤ length new
  within : at + len ≤ n
  slot : Slot (piece n at len old) line f k so
  size : f + 4 + k ≡ len
  same : (i : ℕ) → i < len → (i < f) ⊎ (f + 4 ≤ i) → get_or new (at + i) 0 ≡ get_or old (at + i) 0

front_is : (n at len : ℕ) (line : Line) (f k : ℕ) (so : ℤ → LineReading) (old new : List ℕ) (h : Moved n at len line f k so old new) → take f (piece n at len new) ≡ h.slot.front
front_is n at len line f k so old new h =
    let w = piece n at len old in
    let v = piece n at len new in
    let size : length v ≡ len = piece_length n at len new h.new_within h.within in
    let front : length (take f v) ≡ f = length-take-le f v (omega (arith, h.size)) in
    let tail : List ℕ = h.slot.one ∷ h.slot.two ∷ h.slot.three ∷ h.slot.last ∷ h.slot.behind in
    same_list (take f v) h.slot.front (front ∙ sym h.slot.field_is) (λ i below.
    let b : i < f = omega arith in
    let l : i < len = omega (arith, h.size) in
    let there : i < length h.slot.front = omega (arith, h.slot.field_is) in
    get_or-take f v i 0 b ∙ piece_at n at len new i h.within l ∙ h.same i l (inl b) ∙ sym (piece_at n at len old i h.within l)
    ∙ ap (λ (z : List ℕ). get_or z i 0) h.slot.bytes_are ∙ get_or-append h.slot.front tail 0 i there)

behind_is : (n at len : ℕ) (line : Line) (f k : ℕ) (so : ℤ → LineReading) (old new : List ℕ) (h : Moved n at len line f k so old new) → drop (f + 4) (piece n at len new) ≡ h.slot.behind
behind_is n at len line f k so old new h =
    let w = piece n at len old in
    let v = piece n at len new in
    let size : length v ≡ len = piece_length n at len new h.new_within h.within in
    let left : length (drop (f + 4) v) ≡ k = length-drop (f + 4) v ∙ omega (arith, h.size) in
    let tail : List ℕ = h.slot.one ∷ h.slot.two ∷ h.slot.three ∷ h.slot.last ∷ h.slot.behind in
    same_list (drop (f + 4) v) h.slot.behind (left ∙ sym h.slot.behind_is) (λ i below.
    let l : f + 4 + i < len = omega (arith, h.size) in
    let back : f + 4 ≤ f + 4 + i = omega arith in
    let place : f + 4 + i ≡ length h.slot.front + suc (suc (suc (suc i))) = omega (arith, h.slot.field_is) in
    get_or-drop (f + 4) v i 0 ∙ piece_at n at len new (f + 4 + i) h.within l ∙ h.same (f + 4 + i) l (inr back) ∙ sym (piece_at n at len old (f + 4 + i) h.within l)
    ∙ ap (λ (z : List ℕ). get_or z (f + 4 + i) 0) h.slot.bytes_are
    ∙ ap (λ (j : ℕ). get_or (h.slot.front ++ tail) j 0) place
    ∙ get_or-append-add h.slot.front tail (suc (suc (suc (suc i)))) 0)

moved_reads : (n at len : ℕ) (line : Line) (f k : ℕ) (so : ℤ → LineReading) (old new : List ℕ) (field : ℤ) → Moved n at len line f k so old new → stored_at new (at + f) ≡ Some field → read_line line (piece n at len new) ≡ Some (so field)
moved_reads n at len line f k so old new field h stored =
    let v = piece n at len new in
    let size : length v ≡ len = piece_length n at len new h.new_within h.within in
    let a = get_or v f 0 in
    let b = get_or v (f + 1) 0 in
    let c = get_or v (f + 2) 0 in
    let d = get_or v (f + 3) 0 in
    let back : drop f v ≡ a ∷ b ∷ c ∷ d ∷ h.slot.behind = four_at v f (omega (arith, h.size)) ∙ ap (λ (z : List ℕ). a ∷ b ∷ c ∷ d ∷ z) (behind_is n at len line f k so old new h) in
    let all : v ≡ h.slot.front ++ (a ∷ b ∷ c ∷ d ∷ h.slot.behind) =
    sym (one_read v f (omega (arith, h.size))) ∙ ap (λ (z : List ℕ). z ++ drop f v) (front_is n at len line f k so old new h) ∙ ap (λ (z : List ℕ). h.slot.front ++ z) back in
    let p = at + f in
    let ea : a ≡ get_or new p 0 = piece_at n at len new f h.within (omega (arith, h.size)) in
    let eb : b ≡ get_or new (p + 1) 0 = piece_at n at len new (f + 1) h.within (omega (arith, h.size)) ∙ ap (λ (j : ℕ). get_or new j 0) (omega arith) in
    let ec : c ≡ get_or new (p + 2) 0 = piece_at n at len new (f + 2) h.within (omega (arith, h.size)) ∙ ap (λ (j : ℕ). get_or new j 0) (omega arith) in
    let ed : d ≡ get_or new (p + 3) 0 = piece_at n at len new (f + 3) h.within (omega (arith, h.size)) ∙ ap (λ (j : ℕ). get_or new j 0) (omega arith) in
    let there : p + 4 ≤ length new = omega (arith, h.size, h.within, h.new_within) in
    let is : s32 (four (get_or new p 0) (get_or new (p + 1) 0) (get_or new (p + 2) 0) (get_or new (p + 3) 0)) ≡ field = some_same _ _ (sym (stored_is new p there) ∙ stored) in
    let number : four a b c d ≡ four (get_or new p 0) (get_or new (p + 1) 0) (get_or new (p + 2) 0) (get_or new (p + 3) 0) = cc in
    let value : s32 (four a b c d) ≡ field = ap (λ (z : ℕ). s32 z) number ∙ is in
    ap (read_line line) all ∙ h.slot.again a b c d ∙ ap (λ (z : ℤ). Some (so z)) value

-- What the field leads to.

if_is : (z field : ℤ) (t : Bool) → (if t then Some z else None) ≡ Some field → field ≡ z
if_is z field true h = sym (some_same z field h)
if_is z field false h = cc

field_is : (old : List ℕ) (p place : ℕ) (stored field : ℤ) → stored_at old p ≡ Some stored → patched_at old p place ≡ Some field → field ≡ stored +ℤ pos place -ℤ pos (p + 4)
field_is old p place stored field e h =
    let z : ℤ = stored +ℤ pos place -ℤ pos (p + 4) in
    let k : if_i32 z ≡ Some field = sym (ap (λ (o : Option ℤ). option_and_then (patched p place) o) e) ∙ h in
    if_is z field (fits_i32 z) k

sum_is : (end p place k : ℕ) (field stored : ℤ) → p + 4 + k ≡ end → stored ≡ pos 0 -ℤ pos k → field ≡ stored +ℤ pos place -ℤ pos (p + 4) → pos end +ℤ field ≡ pos place
sum_is end p place k field stored e s f = omega (arith, ints)

distance_is : (end place : ℕ) (field : ℤ) → pos end +ℤ field ≡ pos place → field ≡ pos place -ℤ pos end
distance_is end place field h = omega (arith, ints)

-- One piece and its bytes.

record Here (n at : ℕ) (r : LineReading) (old new : List ℕ) : Type 0 where
  old_within : n ≤ length old
  new_within : n ≤ length new
  within : at + r.length ≤ n
  least : 1 ≤ r.length
  reads : (rest : List ℕ) → read_line r.line (piece n at r.length old ++ rest) ≡ Some r

itself : (n at : ℕ) (r : LineReading) (old new : List ℕ) → Here n at r old new → read_line r.line (piece n at r.length old) ≡ Some r
itself n at r old new h = ap (read_line r.line) (sym (append-nil (piece n at r.length old))) ∙ h.reads []

own_length : (n at : ℕ) (r : LineReading) (old new : List ℕ) → Here n at r old new → r.length ≡ length (piece n at r.length old)
own_length n at r old new h = sym (piece_length n at r.length old h.old_within h.within)

-- its field, which is patched to hold a number that is so much more than what it held
record Held (n at : ℕ) (r : LineReading) (f k : ℕ) (so : ℤ → LineReading) (old : List ℕ) (p place : ℕ) (field : ℤ) : Type 0 where
  stored : ℤ
  same : r ≡ so stored
  leads : field ≡ stored +ℤ pos place -ℤ pos (p + 4)
  end : p + 4 + k ≡ at + r.length

held : (n at : ℕ) (r : LineReading) (f k : ℕ) (so : ℤ → LineReading) (old new : List ℕ) (p place : ℕ) (field : ℤ) → Here n at r old new → Slot (piece n at r.length old) r.line f k so → p ≡ at + f → patched_at old p place ≡ Some field → Held n at r f k so old p place field
held n at r f k so old new p place field h slot ep patched =
    let size : f + 4 + k ≡ r.length = sym (slot_size (piece n at r.length old) r.line f k so slot) ∙ sym (own_length n at r old new h) in
    let there : p + 4 ≤ length old = omega (arith, ep, size, h.within, h.old_within) in
    let z : ℤ = s32 (four (get_or old p 0) (get_or old (p + 1) 0) (get_or old (p + 2) 0) (get_or old (p + 3) 0)) in
    let stored : stored_at old p ≡ Some z = stored_is old p there in
    let unmoved : Moved n at r.length r.line f k so old old = record { old_within = h.old_within; new_within = h.old_within; within = h.within; slot = slot; size = size; same = λ i below out. refl } in
    let again : read_line r.line (piece n at r.length old) ≡ Some (so z) = moved_reads n at r.length r.line f k so old old z unmoved (ap (stored_at old) (sym ep) ∙ stored) in
    record {
      stored = z;
      same = some_same _ _ (sym (itself n at r old new h) ∙ again);
      leads = field_is old p place z field stored patched;
      end = omega (arith, ep, size);
    }

-- a relative place that leads to its target
led : (places : DeferredTarget → Option ℕ) (t : DeferredTarget) (n at p : ℕ) (r : LineReading) (old new : List ℕ) (disp : ℤ) → Here n at r old new → Slot (piece n at r.length old) r.line (line_field_place r) (line_imm_behind r) (λ z. record r { place = Some (Rip z) }) → r.place ≡ Some (Rip disp) → Unpatched (line_imm_behind r) (Some (Rip disp)) → p ≡ at + line_field_place r → (h : IsPatched places old new (p, t)) → LineLeads places t (at + r.length) r (record r { place = Some (Rip h.field) })
led places t n at p r old new disp here slot e unpatched ep h =
    let was = held n at r (line_field_place r) (line_imm_behind r) (λ z. record r { place = Some (Rip z) }) old new p h.place h.field here slot ep h.leads in
    let places_same : ◌≡◌ {A = Option Place} (Some (Rip disp)) (Some (Rip was.stored)) = sym e ∙ ap (λ (x : LineReading). x.place) was.same in
    let value : disp ≡ was.stored = cc in
    let sum : pos (at + r.length) +ℤ h.field ≡ pos h.place = sum_is (at + r.length) p h.place (line_imm_behind r) h.field was.stored was.end (sym value ∙ unpatched) was.leads in
    record { bound_to = h.place; is_bound = h.bound; same = refl; leads = λ regs. ap (λ (x : ℤ). Some (modulo_64_bits x)) sum }

-- and a jump
jumped : (places : DeferredTarget → Option ℕ) (t : DeferredTarget) (n at p : ℕ) (r : LineReading) (old new : List ℕ) → Here n at r old new → Slot (piece n at r.length old) r.line (r.length - 4) 0 (λ z. record r { imm = Some z }) → r.imm ≡ Some (pos 0) → p ≡ at + (r.length - 4) → (h : IsPatched places old new (p, t)) → JumpsTo places t (at + r.length) r (record r { imm = Some h.field })
jumped places t n at p r old new here slot e ep h =
    let was = held n at r (r.length - 4) 0 (λ z. record r { imm = Some z }) old new p h.place h.field here slot ep h.leads in
    let value : pos 0 ≡ was.stored = some_same _ _ (sym e ∙ ap (λ (x : LineReading). x.imm) was.same) in
    let sum : pos (at + r.length) +ℤ h.field ≡ pos h.place = sum_is (at + r.length) p h.place 0 h.field was.stored was.end (omega (arith, ints)) was.leads in
    record { bound_to = h.place; is_bound = h.bound; same = refl; distance = ap (λ (z : ℤ). Some z) (distance_is (at + r.length) h.place h.field sum); leads = ap (λ (z : ℤ). Some (modulo_64_bits z)) sum }

-- One piece and then the later ones.

-- what the bytes from a position on are read as, and that these pieces have become so
pub record Outcome (places : DeferredTarget → Option ℕ) (n at : ℕ) (ps : List Piece) (us : List Use) (new : List ℕ) : Type 0 where
  pub now : List LineReading
  pub reads : LinesRead now (drop at (take n new))
  pub settled : EachSettled places at ps us now

more : (places : DeferredTarget → Option ℕ) (n at : ℕ) (p : Piece) (q : LineReading) (ps : List Piece) (us : List Use) (old new : List ℕ) → Here n at (reading_in p) old new → q.length ≡ (reading_in p).length → ((rest : List ℕ) → read_line q.line (piece n at (reading_in p).length new ++ rest) ≡ Some q) → PieceSettled places (at + (reading_in p).length) p us q → Outcome places n (at + (reading_in p).length) ps (uses_after p us) new → Outcome places n at (p ∷ ps) us new
more places n at p q ps us old new here len reads became h =
    let r = reading_in p in
    let left : drop q.length (drop at (take n new)) ≡ drop (at + r.length) (take n new) = ap (λ (k : ℕ). drop k (drop at (take n new))) len ∙ drop-drop r.length at (take n new) in
    let next : LinesRead h.now (drop q.length (drop at (take n new))) = subst (LinesRead h.now) (sym left) h.reads in
    let first : (rest : List ℕ) → read_line q.line (take q.length (drop at (take n new)) ++ rest) ≡ Some q = λ rest. ap (λ (k : ℕ). read_line q.line (take k (drop at (take n new)) ++ rest)) len ∙ reads rest in
    record {
      now = q ∷ h.now;
      reads = (first, omega (arith, here.least), omega (arith, len, here.within, front_length n at new here.new_within), next);
      settled = (became, h.settled);
    }

no_length : (a : List ℕ) → length a ≡ 0 → a ≡ []
no_length [] h = refl
no_length (x ∷ a) h = absurd (omega arith)

own_outside : (at f i p : ℕ) → p ≡ at + f → (i < f) ⊎ (f + 4 ≤ i) → (at + i < p) ⊎ (p + 4 ≤ at + i)
own_outside at f i p e (inl h) = inl (omega arith)
own_outside at f i p e (inr h) = inr (omega arith)

-- from a position on, bytes outside of the fields of some uses are as before
abbrev Behind : List ℕ → List ℕ → ℕ → List Use → Type 0
Behind old new at us = (i : ℕ) → at ≤ i → All (IsOutside i) (links us) → get_or new i 0 ≡ get_or old i 0

-- what is known of the later pieces, which begin after so many bytes
record Later (places : DeferredTarget → Option ℕ) (n : ℕ) (old new : List ℕ) (at : ℕ) (ps : List Piece) : Type 0 where
  above : Above at (piece_fields at ps)
  settled : (us : List Use) → places_told us ≡ piece_fields at ps → Behind old new at us → All (IsPatched places old new) (links us) → Outcome places n at ps us new

-- a position before the later pieces is outside of their fields
before : (places : DeferredTarget → Option ℕ) (n : ℕ) (old new : List ℕ) (end : ℕ) (ps : List Piece) (us : List Use) (i : ℕ) → Later places n old new end ps → places_told us ≡ piece_fields end ps → i < end → All (IsOutside i) (links us)
before places n old new end ps us i later told low = outside_below end i us low (subst (Above end) (sym told) later.above)

-- a piece that stays as it was
as_before : (places : DeferredTarget → Option ℕ) (n at : ℕ) (p : Piece) (ps : List Piece) (us : List Use) (old new : List ℕ) → Here n at (reading_in p) old new → Later places n old new (at + (reading_in p).length) ps → links us ≡ links (uses_after p us) → PieceSettled places (at + (reading_in p).length) p us (reading_in p) → places_told (uses_after p us) ≡ piece_fields (at + (reading_in p).length) ps → Behind old new at us → All (IsPatched places old new) (links us) → Outcome places n at (p ∷ ps) us new
as_before places n at p ps us old new here later linked became told same fields =
    let r = reading_in p in
    let end = at + r.length in
    let out : (i : ℕ) → All (IsOutside i) (links (uses_after p us)) → All (IsOutside i) (links us) = λ i h. subst (λ (z : List Use). All (IsOutside i) z) (sym linked) h in
    let bytes : piece n at r.length new ≡ piece n at r.length old = same_piece n at r.length new old here.new_within here.old_within here.within
    (λ i l. same (at + i) (omega arith) (out (at + i) (before places n old new end ps (uses_after p us) (at + i) later told (omega (arith, l))))) in
    more places n at p r ps us old new here refl (λ rest. ap (λ (z : List ℕ). read_line r.line (z ++ rest)) bytes ∙ here.reads rest) became
    (later.settled (uses_after p us) told (λ i low h. same i (omega arith) (out i h)) (subst (λ (z : List Use). All (IsPatched places old new) z) linked fields))

-- a piece whose field is patched
settled_at : (places : DeferredTarget → Option ℕ) (n at : ℕ) (p : Piece) (ps : List Piece) (t : DeferredTarget) (x f k : ℕ) (so : ℤ → LineReading) (us : List Use) (old new : List ℕ) → Here n at (reading_in p) old new → Later places n old new (at + (reading_in p).length) ps → Slot (piece n at (reading_in p).length old) (reading_in p).line f k so → ((z : ℤ) → (so z).line ≡ (reading_in p).line) → ((z : ℤ) → (so z).length ≡ (reading_in p).length) → x ≡ at + f → uses_after p ((x, t) ∷ us) ≡ us → places_told us ≡ piece_fields (at + (reading_in p).length) ps → ((i : ℕ) → at ≤ i → All (IsOutside i) ((x, t) ∷ links us) → get_or new i 0 ≡ get_or old i 0) → All (IsPatched places old new) ((x, t) ∷ links us) → ((h : IsPatched places old new (x, t)) → PieceSettled places (at + (reading_in p).length) p ((x, t) ∷ us) (so h.field)) → Outcome places n at (p ∷ ps) ((x, t) ∷ us) new
settled_at places n at p ps t x f k so us old new here later slot line len ep after told same fields became =
    let r = reading_in p in
    let end = at + r.length in
    let size : f + 4 + k ≡ r.length = sym (slot_size (piece n at r.length old) r.line f k so slot) ∙ sym (own_length n at r old new here) in
    let head : IsPatched places old new (x, t) = fields 0 (x, t) (omega arith) in
    let moved : Moved n at r.length r.line f k so old new = record {
      old_within = here.old_within;
      new_within = here.new_within;
      within = here.within;
      slot = slot;
      size = size;
      same = λ i l out. same (at + i) (omega arith) (All-cons (IsOutside (at + i)) (x, t) (links us) (own_outside at f i x ep out) (before places n old new end ps us (at + i) later told (omega (arith, l))));
    } in
    let q : LineReading = so head.field in
    let reads : read_line r.line (piece n at r.length new) ≡ Some q = moved_reads n at r.length r.line f k so old new head.field moved (ap (stored_at new) (sym ep) ∙ head.stored) in
    let next : Outcome places n end ps us new = later.settled us told (λ i low out. same i (omega arith) (All-cons (IsOutside i) (x, t) (links us) (inr (omega (arith, size, ep, low))) out)) (λ j d l. fields (suc j) d (omega arith)) in
    more places n at p q ps ((x, t) ∷ us) old new here (len head.field)
    (λ rest. ap (λ (l : Line). read_line l (piece n at r.length new ++ rest)) (line head.field) ∙ line_more r.line (piece n at r.length new) rest q reads)
    (became head) (subst (λ (z : List Use). Outcome places n end ps z new) (sym after) next)

-- A whole piece, by its place.

relative : (places : DeferredTarget → Option ℕ) (n at : ℕ) (r : LineReading) (ps : List Piece) (disp : ℤ) (x : ℕ) (t : DeferredTarget) (us : List Use) (old new : List ℕ) → Here n at r old new → Later places n old new (at + r.length) ps → r.place ≡ Some (Rip disp) → Unpatched (line_imm_behind r) (Some (Rip disp)) → x ≡ at + line_field_place r → places_told us ≡ piece_fields (at + r.length) ps → Behind old new at ((x, t) ∷ us) → All (IsPatched places old new) (links ((x, t) ∷ us)) → Outcome places n at (whole r ∷ ps) ((x, t) ∷ us) new
relative places n at r ps disp x t us old new here later e unpatched ep told same fields = by_target t same fields
  where
    after : (u : Use) → uses_after (whole r) (u ∷ us) ≡ us
    after u = ap (λ (o : Option Place). uses_behind o (u ∷ us)) e

    became : (u : Use) (q : LineReading) → LineSettledAs places (at + r.length) r (Some (Rip disp)) (u ∷ us) q → PieceSettled places (at + r.length) (whole r) (u ∷ us) q
    became u q h = subst (λ (o : Option Place). LineSettledAs places (at + r.length) r o (u ∷ us) q) (sym e) h

    slot : Slot (piece n at r.length old) r.line (line_field_place r) (line_imm_behind r) (λ z. record r { place = Some (Rip z) })
    slot = relocated (piece n at r.length old) r (itself n at r old new here) (own_length n at r old new here) here.least (ap is_some_rip e)

    by_target : (t : DeferredTarget) → Behind old new at ((x, t) ∷ us) → All (IsPatched places old new) (links ((x, t) ∷ us)) → Outcome places n at (whole r ∷ ps) ((x, t) ∷ us) new
    by_target (target.Label l) s f = settled_at places n at (whole r) ps (target.Label l) x (line_field_place r) (line_imm_behind r) (λ z. record r { place = Some (Rip z) }) us old new here later slot (λ z. refl) (λ z. refl) ep (after (x, target.Label l)) told s f
        (λ h. became (x, target.Label l) (record r { place = Some (Rip h.field) }) (led places (target.Label l) n at x r old new disp here slot e unpatched ep h))
    by_target (target.Constant c) s f = settled_at places n at (whole r) ps (target.Constant c) x (line_field_place r) (line_imm_behind r) (λ z. record r { place = Some (Rip z) }) us old new here later slot (λ z. refl) (λ z. refl) ep (after (x, target.Constant c)) told s f
        (λ h. became (x, target.Constant c) (record r { place = Some (Rip h.field) }) (led places (target.Constant c) n at x r old new disp here slot e unpatched ep h))
    by_target target.None s f = as_before places n at (whole r) ps ((x, target.None) ∷ us) old new here later (ap links (sym (after (x, target.None)))) (became (x, target.None) r refl) (ap places_told (after (x, target.None)) ∙ told) s f

settled_whole : (places : DeferredTarget → Option ℕ) (n at : ℕ) (r : LineReading) (ps : List Piece) (old new : List ℕ) → Here n at r old new → Later places n old new (at + r.length) ps → (o : Option Place) → r.place ≡ o → Unpatched (line_imm_behind r) o → (us : List Use) → places_told us ≡ line_field_at at r o ++ piece_fields (at + r.length) ps → Behind old new at us → All (IsPatched places old new) (links us) → Outcome places n at (whole r ∷ ps) us new
settled_whole places n at r ps old new here later o e unpatched us told same fields = by_place o e unpatched us told same fields
  where
    unchanged : (o : Option Place) → r.place ≡ o → (us : List Use) → uses_behind o us ≡ us → LineSettledAs places (at + r.length) r o us r → places_told us ≡ piece_fields (at + r.length) ps → Behind old new at us → All (IsPatched places old new) (links us) → Outcome places n at (whole r ∷ ps) us new
    unchanged o e us behind became told same fields =
        let after : uses_after (whole r) us ≡ us = ap (λ (o : Option Place). uses_behind o us) e ∙ behind in
        as_before places n at (whole r) ps us old new here later (ap links (sym after)) (subst (λ (o : Option Place). LineSettledAs places (at + r.length) r o us r) (sym e) became) (ap places_told after ∙ told) same fields

    by_place : (o : Option Place) → r.place ≡ o → Unpatched (line_imm_behind r) o → (us : List Use) → places_told us ≡ line_field_at at r o ++ piece_fields (at + r.length) ps → Behind old new at us → All (IsPatched places old new) (links us) → Outcome places n at (whole r ∷ ps) us new
    by_place None e unpatched us told same fields = unchanged None e us refl refl told same fields
    by_place (Some (Reg view)) e unpatched us told same fields = unchanged (Some (Reg view)) e us refl refl told same fields
    by_place (Some (Mem base index disp)) e unpatched us told same fields = unchanged (Some (Mem base index disp)) e us refl refl told same fields
    by_place (Some (Rip disp)) e unpatched [] told same fields = cc
    by_place (Some (Rip disp)) e unpatched (u ∷ us) told same fields =
        let x : u.0 ≡ at + line_field_place r = cc in
        let rest : places_told us ≡ piece_fields (at + r.length) ps = cc in
        relative places n at r ps disp u.0 u.1 us old new here later e unpatched x rest same fields

-- An open jump.

settled_jump : (places : DeferredTarget → Option ℕ) (n at : ℕ) (r : LineReading) (ps : List Piece) (old new : List ℕ) → Here n at r old new → Later places n old new (at + r.length) ps → Open (open_jump r) → (us : List Use) → places_told us ≡ (at + r.length - 4) ∷ piece_fields (at + r.length) ps → Behind old new at us → All (IsPatched places old new) (links us) → Outcome places n at (open_jump r ∷ ps) us new
settled_jump places n at r ps old new here later opened [] told same fields = cc
settled_jump places n at r ps old new here later opened (u ∷ us) told same fields =
    let size = slot_size (piece n at r.length old) r.line (r.length - 4) 0 _ slot in
    let at_end : u.0 ≡ at + r.length - 4 = cc in
    let x : u.0 ≡ at + (r.length - 4) = omega (arith, size, own_length n at r old new here, at_end) in
    let rest : places_told us ≡ piece_fields (at + r.length) ps = cc in
    by_target u.0 u.1 x rest same fields
  where
    slot : Slot (piece n at r.length old) r.line (r.length - 4) 0 (λ z. record r { imm = Some z })
    slot = relocated_jump (piece n at r.length old) r (itself n at r old new here) (own_length n at r old new here) here.least opened.0 opened.1

    by_target : (x : ℕ) (t : DeferredTarget) → x ≡ at + (r.length - 4) → places_told us ≡ piece_fields (at + r.length) ps → Behind old new at ((x, t) ∷ us) → All (IsPatched places old new) (links ((x, t) ∷ us)) → Outcome places n at (open_jump r ∷ ps) ((x, t) ∷ us) new
    by_target x (target.Label l) ep told s f = settled_at places n at (open_jump r) ps (target.Label l) x (r.length - 4) 0 (λ z. record r { imm = Some z }) us old new here later slot (λ z. refl) (λ z. refl) ep refl told s f
        (λ h. jumped places (target.Label l) n at x r old new here slot opened.2 ep h)
    by_target x (target.Constant c) ep told s f = settled_at places n at (open_jump r) ps (target.Constant c) x (r.length - 4) 0 (λ z. record r { imm = Some z }) us old new here later slot (λ z. refl) (λ z. refl) ep refl told s f
        (λ h. jumped places (target.Constant c) n at x r old new here slot opened.2 ep h)
    by_target x target.None ep told s f = as_before places n at (open_jump r) ps ((x, target.None) ∷ us) old new here later refl refl told s f

settled_piece : (places : DeferredTarget → Option ℕ) (n at : ℕ) (p : Piece) (ps : List Piece) (us : List Use) (old new : List ℕ) → Here n at (reading_in p) old new → Later places n old new (at + (reading_in p).length) ps → Open p → places_told us ≡ piece_fields at (p ∷ ps) → Behind old new at us → All (IsPatched places old new) (links us) → Outcome places n at (p ∷ ps) us new
settled_piece places n at (whole r) ps us old new here later opened told same fields = settled_whole places n at r ps old new here later r.place refl opened us told same fields
settled_piece places n at (open_jump r) ps us old new here later opened told same fields = settled_jump places n at r ps old new here later opened us told same fields

pub settle : (places : DeferredTarget → Option ℕ) (n : ℕ) (old new : List ℕ) → n ≤ length old → n ≤ length new → (ps : List Piece) (at : ℕ) (us : List Use) → at ≤ n → LinesRead (readings_in ps) (drop at (take n old)) → EachOpen ps → places_told us ≡ piece_fields at ps → ((i : ℕ) → at ≤ i → All (IsOutside i) (links us) → get_or new i 0 ≡ get_or old i 0) → All (IsPatched places old new) (links us) → Outcome places n at ps us new
settle places n old new ho hn [] at us within h opened told same fields =
    let all : n - at ≡ 0 = sym (front_length n at old ho) ∙ ap length h in
    record { now = []; reads = no_length (drop at (take n new)) (front_length n at new hn ∙ all); settled = refl }
settle places n old new ho hn (p ∷ ps) at us within h opened told same fields =
    let r = reading_in p in
    let len : r.length ≤ n - at = omega (arith, h.2, front_length n at old ho) in
    let end : at + r.length ≤ n = omega arith in
    let next : LinesRead (readings_in ps) (drop (at + r.length) (take n old)) = subst (LinesRead (readings_in ps)) (drop-drop r.length at (take n old)) h.3 in
    settled_piece places n at p ps us old new
    (record { old_within = ho; new_within = hn; within = end; least = h.1; reads = h.0 })
    (record {
      above = fields_above (at + r.length) ps (drop (at + r.length) (take n old)) next opened.1;
      settled = λ us' t s f. settle places n old new ho hn ps (at + r.length) us' end next opened.1 t s f;
    })
    opened.0 told same fields
