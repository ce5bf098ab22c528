use Rattle.std.proofs.Common.{◌≡◌, ◌⊎◌, inl, inr, ℕ, ◌+◌, ◌-◌, ◌≤◌, arith, refl, ◌∙◌, ap, sym, pos, List, [], ◌∷◌, ◌++◌, Bool, true, false, Option, Some, None, length, take, drop, append_assoc, append-nil}
use Rattle.std.proofs.Math.Seq.{take-length}
use Rattle.std.proofs.lemmas.List.{length-append, length-drop, take-append-le, drop-append-le}
use Rattle.cax64_machine_code.specs.ReadLine.{LineReading, ReadsLineAs, read_line}
use Rattle.cax64_machine_code.specs.Reading.{PartsOf}
use Rattle.cax64_machine_code.specs.declared.line.ImmField.TheVariants.{Simm}
use Rattle.cax64_machine_code.specs.declared.line.Line.{Line}
use Rattle.cax64_machine_code.specs.declared.line.TailField.TheVariants.{NoTail}
use Rattle.cax64_machine_code.specs.declared.reading.Place.{Place}
use Rattle.cax64_machine_code.specs.declared.reading.Place.TheVariants.{Reg, Mem, Rip}
use Rattle.cax64_sink.specs.Sink.{State}
use Rattle.cax64_sink.specs.declared.DeferredTarget.{DeferredTarget}
use Rattle.cax64_sink.specs.declared.Notice.{Notice}
use Rattle.cax64_sink.specs.declared.Notice.TheVariants.{Trap, Target}
use Rattle.x64_code_buffer.specs.Filled.{Unpatched, places_told}
use Rattle.x64_code_buffer.specs.Laid.{Piece, whole, open_jump, reading_in, readings_in, line_imm_behind, LinesRead, Open, EachOpen, line_field_at, piece_field, piece_fields, PieceBegins, Laid, LaidOn}
use Rattle.x64_code_buffer.specs.Use.{uses_of}

-- One piece more at the end of a buffer.

-- how many bytes some pieces have
abbrev pub pieces_length : List Piece → ℕ
pieces_length [] = 0
pieces_length (p ∷ ps) = (reading_in p).length + pieces_length ps

nothing_left : (b : List ℕ) → drop (length b) b ≡ []
nothing_left [] = refl
nothing_left (byte ∷ b) = nothing_left b

last_read : (a b : List ℕ) (r : LineReading) → a ≡ [] → ((rest : List ℕ) → read_line r.line (b ++ rest) ≡ Some r) → r.length ≡ length b → 1 ≤ r.length → LinesRead (r ∷ []) (a ++ b)
last_read a b r none reads len least =
    let all : take r.length b ≡ b = ap (λ (n : ℕ). take n b) len ∙ take-length b in
    let left : drop r.length b ≡ [] = ap (λ (n : ℕ). drop n b) len ∙ nothing_left b in
    rw (none, all) (reads, least, omega arith, left)

pub pieces_more : (ps : List Piece) (p : Piece) (a b : List ℕ) → LinesRead (readings_in ps) a → ((rest : List ℕ) → read_line (reading_in p).line (b ++ rest) ≡ Some (reading_in p)) → (reading_in p).length ≡ length b → 1 ≤ (reading_in p).length → LinesRead (readings_in (ps ++ p ∷ [])) (a ++ b)
pieces_more [] p a b h reads len least = last_read a b (reading_in p) h reads len least
pieces_more (q ∷ ps) p a b h reads len least =
    let n = (reading_in q).length in
    let within : n ≤ length a = h.2 in
    let more : LinesRead (readings_in (ps ++ p ∷ [])) (drop n a ++ b) = pieces_more ps p (drop n a) b h.3 reads len least in
    rw (take-append-le n a b within, drop-append-le n a b within) (h.0, h.1, omega (arith, length-append a b), more)

pieces_total : (ps : List Piece) (a : List ℕ) → LinesRead (readings_in ps) a → length a ≡ pieces_length ps
pieces_total [] a h = ap length h
pieces_total (q ∷ ps) a h = omega (arith, h.2, length-drop (reading_in q).length a, pieces_total ps (drop (reading_in q).length a) h.3)

opened_more : (ps : List Piece) (p : Piece) → EachOpen ps → Open p → EachOpen (ps ++ p ∷ [])
opened_more [] p h k = (k, tt)
opened_more (q ∷ ps) p h k = (h.0, opened_more ps p h.1 k)

fields_more : (at : ℕ) (ps : List Piece) (p : Piece) → piece_fields at (ps ++ p ∷ []) ≡ piece_fields at ps ++ piece_field (at + pieces_length ps) p
fields_more at [] p =
    let e : at + 0 ≡ at = omega arith in
    rw (e, append-nil (piece_field at p)) refl
fields_more at (q ∷ ps) p =
    let n = (reading_in q).length in
    let e : at + n + pieces_length ps ≡ at + (n + pieces_length ps) = omega arith in
    ap (λ (z : List ℕ). piece_field at q ++ z) (fields_more (at + n) ps p ∙ ap (λ (k : ℕ). piece_fields (at + n) ps ++ piece_field k p) e)
    ∙ sym (append_assoc (piece_field at q) (piece_fields (at + n) ps) (piece_field (at + (n + pieces_length ps)) p))

begins_more : (at : ℕ) (ps : List Piece) (p : Piece) (place : ℕ) → PieceBegins at ps place → PieceBegins at (ps ++ p ∷ []) place
begins_more at [] p place h = absurd h
begins_more at (q ∷ ps) p place (inl h) = inl h
begins_more at (q ∷ ps) p place (inr h) = inr (begins_more (at + (reading_in q).length) ps p place h)

begins_last : (at : ℕ) (ps : List Piece) (p : Piece) (place : ℕ) → place ≡ at + pieces_length ps → PieceBegins at (ps ++ p ∷ []) place
begins_last at [] p place h = inl (omega arith)
begins_last at (q ∷ ps) p place h = inr (begins_last (at + (reading_in q).length) ps p place (omega arith))

begun : (ps : List Piece) (p : Piece) (place n : ℕ) → n ≡ pieces_length ps → place ≤ n → PieceBegins 0 ps place ⊎ (n ≤ place) → PieceBegins 0 (ps ++ p ∷ []) place
begun ps p place n total low (inl h) = begins_more 0 ps p place h
begun ps p place n total low (inr h) = begins_last 0 ps p place (omega arith)

pub uses_more : (ns ms : List Notice) → places_told (uses_of (ns ++ ms)) ≡ places_told (uses_of ns) ++ places_told (uses_of ms)
uses_more [] ms = refl
uses_more (Trap at code ∷ ns) ms = uses_more ns ms
uses_more (Target at target ∷ ns) ms = ap (λ (z : List ℕ). at ∷ z) (uses_more ns ms)

-- with a piece whose bytes were put behind the others, and whose field was told
laid_more : (p : Piece) (ps : List Piece) (s t : State) (old new : DeferredTarget → Option ℕ) (added : List ℕ) (told : List Notice) → ((rest : List ℕ) → read_line (reading_in p).line (added ++ rest) ≡ Some (reading_in p)) → (reading_in p).length ≡ length added → 1 ≤ (reading_in p).length → Open p → t.bytes ≡ s.bytes ++ added → t.notices ≡ s.notices ++ told → places_told (uses_of told) ≡ piece_field (length s.bytes) p → ((target : DeferredTarget) → new target ≡ old target) → Laid ps (length s.bytes) s old → Laid (ps ++ p ∷ []) (length t.bytes) t new
laid_more p ps s t old new added told reads size least opened bytes notices field same h =
    let len : length t.bytes ≡ length s.bytes + length added = ap length bytes ∙ length-append s.bytes added in
    let before : LinesRead (readings_in ps) s.bytes = rw (take-length s.bytes) at h.reads in
    let total : length s.bytes ≡ pieces_length ps = pieces_total ps s.bytes before in
    let place : length s.bytes ≡ 0 + pieces_length ps = omega arith in
    let all : take (length t.bytes) t.bytes ≡ s.bytes ++ added = take-length t.bytes ∙ bytes in
    record {
      within = omega arith;
      reads = rw all (pieces_more ps p s.bytes added before reads size least);
      opened = opened_more ps p h.opened opened;
      told = ap (λ z. places_told (uses_of z)) notices ∙ uses_more s.notices told ∙ ap (λ z. z ++ places_told (uses_of told)) h.told ∙ ap (λ z. piece_fields 0 ps ++ z) (field ∙ ap (λ (n : ℕ). piece_field n p) place) ∙ sym (fields_more 0 ps p);
      bound = λ target q e. let b = h.bound target q (sym (same target) ∙ e) in (inl (begun ps p q (length s.bytes) total b.1 b.0), omega (arith, b.1));
    }

line_is : (meant : PartsOf Line) (added : List ℕ) (reads : ReadsLineAs meant added) → reads.reading.line ≡ meant.row
line_is meant added reads = ap (λ (p : PartsOf Line). p.row) reads.same

pub reads_itself : (meant : PartsOf Line) (added : List ℕ) (reads : ReadsLineAs meant added) (rest : List ℕ) → read_line reads.reading.line (added ++ rest) ≡ Some reads.reading
reads_itself meant added reads rest = ap (λ (l : Line). read_line l (added ++ rest)) (line_is meant added reads) ∙ reads.reads rest

-- An instruction that reads as it is meant, whose relative place is unpatched and told.
pub laid_whole : (meant : PartsOf Line) (ps : List Piece) (s t : State) (old new : DeferredTarget → Option ℕ) (added : List ℕ) (told : List Notice) (reads : ReadsLineAs meant added) → t.bytes ≡ s.bytes ++ added → t.notices ≡ s.notices ++ told → places_told (uses_of told) ≡ line_field_at (length s.bytes) reads.reading reads.reading.place → Unpatched (line_imm_behind reads.reading) reads.reading.place → ((target : DeferredTarget) → new target ≡ old target) → Laid ps (length s.bytes) s old → LaidOn whole meant ps t new
laid_whole meant ps s t old new added told reads bytes notices field unpatched same h = record {
  reading = reads.reading;
  same = reads.same;
  laid = laid_more (whole reads.reading) ps s t old new added told (reads_itself meant added reads) reads.length reads.least unpatched bytes notices field same h;
}

-- a place counts from the end of its instruction
abbrev pub is_rip : Place → Bool
is_rip (Reg view) = false
is_rip (Mem base index disp) = false
is_rip (Rip disp) = true

-- there is a place that does
abbrev pub is_some_rip : Option Place → Bool
is_some_rip None = false
is_some_rip (Some place) = is_rip place

no_field : (at : ℕ) (r : LineReading) (o : Option Place) → is_some_rip o ≡ false → line_field_at at r o ≡ []
no_field at r None h = refl
no_field at r (Some (Reg view)) h = refl
no_field at r (Some (Mem base index disp)) h = refl
no_field at r (Some (Rip disp)) h = cc

none_unpatched : (k : ℕ) (o : Option Place) → is_some_rip o ≡ false → Unpatched k o
none_unpatched k None h = tt
none_unpatched k (Some (Reg view)) h = tt
none_unpatched k (Some (Mem base index disp)) h = tt
none_unpatched k (Some (Rip disp)) h = cc

-- An instruction without a relative place, of which no use is told.
pub laid_plain : (meant : PartsOf Line) (ps : List Piece) (s t : State) (old new : DeferredTarget → Option ℕ) (added : List ℕ) (told : List Notice) → ReadsLineAs meant added → t.bytes ≡ s.bytes ++ added → t.notices ≡ s.notices ++ told → uses_of told ≡ [] → is_some_rip meant.place ≡ false → ((target : DeferredTarget) → new target ≡ old target) → Laid ps (length s.bytes) s old → LaidOn whole meant ps t new
laid_plain meant ps s t old new added told reads bytes notices none plain same h =
    let r = reads.reading in
    let no : is_some_rip r.place ≡ false = ap (λ (p : PartsOf Line). is_some_rip p.place) reads.same ∙ plain in
    laid_whole meant ps s t old new added told reads bytes notices (ap places_told none ∙ sym (no_field (length s.bytes) r r.place no)) (none_unpatched (line_imm_behind r) r.place no) same h

-- A jump whose distance isn't there yet: the use of its target is told at its last four bytes.
pub laid_jump : (meant : PartsOf Line) (ps : List Piece) (s t : State) (old new : DeferredTarget → Option ℕ) (added : List ℕ) (goes_to : DeferredTarget) → ReadsLineAs meant added → meant.row.tail ≡ NoTail → meant.row.imm ≡ Simm 4 → meant.imm ≡ Some (pos 0) → t.bytes ≡ s.bytes ++ added → t.notices ≡ s.notices ++ Target (length s.bytes + length added - 4) goes_to ∷ [] → ((target : DeferredTarget) → new target ≡ old target) → Laid ps (length s.bytes) s old → LaidOn open_jump meant ps t new
laid_jump meant ps s t old new added goes_to reads tail field zero bytes notices same h =
    let r = reads.reading in
    let line : r.line ≡ meant.row = line_is meant added reads in
    let opened : Open (open_jump r) = (ap (λ (l : Line). l.tail) line ∙ tail, ap (λ (l : Line). l.imm) line ∙ field, ap (λ (p : PartsOf Line). p.imm) reads.same ∙ zero) in
    let told : List Notice = Target (length s.bytes + length added - 4) goes_to ∷ [] in
    record {
      reading = r;
      same = reads.same;
      laid = laid_more (open_jump r) ps s t old new added told (reads_itself meant added reads) reads.length reads.least opened bytes notices (ap (λ (n : ℕ). (length s.bytes + n - 4) ∷ []) (sym reads.length)) same h;
    }
