use Rattle.std.proofs.Common.{◌≡◌, inl, ℕ, suc, ◌+◌, ◌-◌, ◌<◌, ◌≤◌, arith, refl, ◌∙◌, ap, sym, subst, List, [], ◌∷◌, ◌++◌, true, Option, Some, None, length, take, drop, get_or, All, append-nil}
use Rattle.std.proofs.lemmas.List.{get_or-take, get_or-drop, length-drop, length-take-le}
use Rattle.std.proofs.lemmas.List.Elements.{All-cons}
use Rattle.cax64_machine_code.specs.ReadLine.{LineReading, read_line}
use Rattle.cax64_machine_code.specs.declared.reading.Place.{Place}
use Rattle.cax64_machine_code.specs.declared.reading.Place.TheVariants.{Reg, Mem, Rip}
use Rattle.cax64_sink.specs.declared.DeferredTarget.{DeferredTarget}
use Rattle.cax64_sink.specs.declared.DeferredTarget.TheVariants as target
use Rattle.x64_code_buffer.specs.Filled.{places_told}
use Rattle.x64_code_buffer.specs.Laid.{Piece, whole, open_jump, reading_in, readings_in, line_imm_behind, line_field_place, LinesRead, Open, EachOpen, line_field_at, piece_field, piece_fields}
use Rattle.x64_code_buffer.specs.Use.{Use, links, IsOutside, AreApart, EachApart}
use Rattle.x64_code_buffer.proofs.Laying.{is_some_rip}
use Rattle.x64_code_buffer.proofs.Relocated.{slot_size, relocated, relocated_jump}

pub some_same : {A : Type 0} (a b : A) → ◌≡◌ {A = Option A} (Some a) (Some b) → a ≡ b
some_same a b e = cc

-- Lists with the same elements.

pub same_list : (a b : List ℕ) → length a ≡ length b → ((i : ℕ) → i < length a → get_or a i 0 ≡ get_or b i 0) → a ≡ b
same_list [] [] e h = refl
same_list [] (y ∷ b) e h = absurd (omega arith)
same_list (x ∷ a) [] e h = absurd (omega arith)
same_list (x ∷ a) (y ∷ b) e h =
    let first : x ≡ y = h 0 (omega arith) in
    let later : a ≡ b = same_list a b (omega arith) (λ i within. h (suc i) (omega arith)) in
    cc

-- the bytes of one reading, within the first n
abbrev pub piece : ℕ → ℕ → ℕ → List ℕ → List ℕ
piece n at len x = take len (drop at (take n x))

pub front_length : (n at : ℕ) (x : List ℕ) → n ≤ length x → length (drop at (take n x)) ≡ n - at
front_length n at x h = length-drop at (take n x) ∙ ap (λ (k : ℕ). k - at) (length-take-le n x h)

pub piece_length : (n at len : ℕ) (x : List ℕ) → n ≤ length x → at + len ≤ n → length (piece n at len x) ≡ len
piece_length n at len x h within = length-take-le len (drop at (take n x)) (omega (arith, front_length n at x h))

pub piece_at : (n at len : ℕ) (x : List ℕ) (i : ℕ) → at + len ≤ n → i < len → get_or (piece n at len x) i 0 ≡ get_or x (at + i) 0
piece_at n at len x i within below = get_or-take len (drop at (take n x)) i 0 below ∙ get_or-drop at (take n x) i 0 ∙ get_or-take n x (at + i) 0 (omega arith)

pub same_piece : (n at len : ℕ) (x y : List ℕ) → n ≤ length x → n ≤ length y → at + len ≤ n → ((i : ℕ) → i < len → get_or x (at + i) 0 ≡ get_or y (at + i) 0) → piece n at len x ≡ piece n at len y
same_piece n at len x y hx hy within same =
    let lx = piece_length n at len x hx within in
    same_list (piece n at len x) (piece n at len y) (lx ∙ sym (piece_length n at len y hy within))
    (λ i below. let l : i < len = omega arith in piece_at n at len x i within l ∙ same i l ∙ sym (piece_at n at len y i within l))

-- The field of a piece is within its bytes.

pub one_piece : (a : List ℕ) (r : LineReading) → ((rest : List ℕ) → read_line r.line (take r.length a ++ rest) ≡ Some r) → r.length ≤ length a → (read_line r.line (take r.length a) ≡ Some r) × (r.length ≡ length (take r.length a))
one_piece a r h within = (ap (read_line r.line) (sym (append-nil (take r.length a))) ∙ h [], sym (length-take-le r.length a within))

-- there is none, or one between a position and another
abbrev pub FieldWithin : ℕ → ℕ → List ℕ → Type 0
FieldWithin at end [] = Unit {0}
FieldWithin at end (x ∷ xs) = (at ≤ x) × (x + 4 ≤ end) × (xs ≡ [])

place_within : (at : ℕ) (r : LineReading) (o : Option Place) → (is_some_rip o ≡ true → line_field_place r + 4 ≤ r.length) → FieldWithin at (at + r.length) (line_field_at at r o)
place_within at r None fits = tt
place_within at r (Some (Reg view)) fits = tt
place_within at r (Some (Mem base index disp)) fits = tt
place_within at r (Some (Rip disp)) fits = let f : line_field_place r + 4 ≤ r.length = fits refl in (omega arith, omega arith, refl)

pub field_within : (p : Piece) (at : ℕ) (a : List ℕ) → ((rest : List ℕ) → read_line (reading_in p).line (take (reading_in p).length a ++ rest) ≡ Some (reading_in p)) → 1 ≤ (reading_in p).length → (reading_in p).length ≤ length a → Open p → FieldWithin at (at + (reading_in p).length) (piece_field at p)
field_within (whole r) at a reads least within opened =
    let one = one_piece a r reads within in
    let w = take r.length a in
    place_within at r r.place (λ rip. let size = slot_size w r.line (line_field_place r) (line_imm_behind r) _ (relocated w r one.0 one.1 least rip) in omega (arith, one.1))
field_within (open_jump r) at a reads least within opened =
    let one = one_piece a r reads within in
    let w = take r.length a in
    let size = slot_size w r.line (r.length - 4) 0 _ (relocated_jump w r one.0 one.1 least opened.0 opened.1) in
    (omega (arith, one.1), omega (arith, one.1), refl)

-- Fields of later pieces stand behind.

-- none stands before a position
abbrev pub Above : ℕ → List ℕ → Type 0
Above at [] = Unit {0}
Above at (x ∷ xs) = (at ≤ x) × Above at xs

above_less : (a b : ℕ) (xs : List ℕ) → a ≤ b → Above b xs → Above a xs
above_less a b [] h k = tt
above_less a b (x ∷ xs) h k = (omega arith, above_less a b xs h k.1)

above_both : (at end : ℕ) (xs ys : List ℕ) → FieldWithin at end xs → Above at ys → Above at (xs ++ ys)
above_both at end [] ys w h = h
above_both at end (x ∷ xs) ys w h = (w.0, subst (λ (z : List ℕ). Above at (z ++ ys)) (sym w.2) h)

pub fields_above : (at : ℕ) (ps : List Piece) (a : List ℕ) → LinesRead (readings_in ps) a → EachOpen ps → Above at (piece_fields at ps)
fields_above at [] a h opened = tt
fields_above at (p ∷ ps) a h opened =
    let n = (reading_in p).length in
    above_both at (at + n) (piece_field at p) (piece_fields (at + n) ps) (field_within p at a h.0 h.1 h.2 opened.0)
    (above_less at (at + n) (piece_fields (at + n) ps) (omega arith) (fields_above (at + n) ps (drop n a) h.3 opened.1))

pub outside_below : (low i : ℕ) (us : List Use) → i < low → Above low (places_told us) → All (IsOutside i) (links us)
outside_below low i [] below h = λ k d within. absurd (omega arith)
outside_below low i ((at, target.Label l) ∷ us) below h = All-cons (IsOutside i) (at, target.Label l) (links us) (inl (omega (arith, h.0))) (outside_below low i us below h.1)
outside_below low i ((at, target.Constant c) ∷ us) below h = All-cons (IsOutside i) (at, target.Constant c) (links us) (inl (omega (arith, h.0))) (outside_below low i us below h.1)
outside_below low i ((at, target.None) ∷ us) below h = outside_below low i us below h.1

apart_below : (low : ℕ) (u : Use) (us : List Use) → u.0 + 4 ≤ low → Above low (places_told us) → All (AreApart u) (links us)
apart_below low u [] below h = λ k d within. absurd (omega arith)
apart_below low u ((at, target.Label l) ∷ us) below h = All-cons (AreApart u) (at, target.Label l) (links us) (inl (omega (arith, h.0))) (apart_below low u us below h.1)
apart_below low u ((at, target.Constant c) ∷ us) below h = All-cons (AreApart u) (at, target.Constant c) (links us) (inl (omega (arith, h.0))) (apart_below low u us below h.1)
apart_below low u ((at, target.None) ∷ us) below h = apart_below low u us below h.1

linked_apart : (end p : ℕ) (t : DeferredTarget) (us : List Use) → p + 4 ≤ end → Above end (places_told us) → EachApart (links us) → EachApart (links ((p, t) ∷ us))
linked_apart end p (target.Label l) us fits above later = (apart_below end (p, target.Label l) us fits above, later)
linked_apart end p (target.Constant c) us fits above later = (apart_below end (p, target.Constant c) us fits above, later)
linked_apart end p target.None us fits above later = later

apart_both : (at end : ℕ) (xs ys : List ℕ) (us : List Use) → FieldWithin at end xs → Above end ys → ((us' : List Use) → places_told us' ≡ ys → EachApart (links us')) → places_told us ≡ xs ++ ys → EachApart (links us)
apart_both at end [] ys us w above later e = later us e
apart_both at end (x ∷ xs) ys [] w above later e = cc
apart_both at end (x ∷ xs) ys (u ∷ us) w above later e =
    let p : u.0 ≡ x = cc in
    let left : places_told us ≡ xs ++ ys = cc in
    let rest : places_told us ≡ ys = left ∙ ap (λ (z : List ℕ). z ++ ys) w.2 in
    linked_apart end u.0 u.1 us (omega (arith, w.1)) (subst (Above end) (sym rest) above) (later us rest)

pub each_apart : (ps : List Piece) (at : ℕ) (us : List Use) (a : List ℕ) → LinesRead (readings_in ps) a → EachOpen ps → places_told us ≡ piece_fields at ps → EachApart (links us)
each_apart [] at [] a h opened told = tt
each_apart [] at (u ∷ us) a h opened told = cc
each_apart (p ∷ ps) at us a h opened told =
    let n = (reading_in p).length in
    apart_both at (at + n) (piece_field at p) (piece_fields (at + n) ps) us (field_within p at a h.0 h.1 h.2 opened.0)
    (fields_above (at + n) ps (drop n a) h.3 opened.1)
    (λ us' e. each_apart ps (at + n) us' (drop n a) h.3 opened.1 e) told
