use Rattle.std.proofs.Common.{◌≡◌, ◌⊎◌, inl, inr, ℕ, ◌+◌, refl, ◌∙◌, ap, sym, subst, List, [], ◌∷◌, ◌++◌, Option, Some, None, length, take, drop}
use Rattle.cax64_machine_code.proofs.ReadLine.{reads_line, row_reads}
use Rattle.cax64_machine_code.specs.ReadLine.{LineReading, ReadsLineAs, read_line, with_line, as_row, parts_as}
use Rattle.cax64_machine_code.specs.Reading.{Parts, PartsOf}
use Rattle.cax64_machine_code.specs.Rows.{line_of}
use Rattle.cax64_machine_code.specs.Sequence.{ReadsAs}
use Rattle.cax64_machine_code.specs.declared.line.Line.{Line}
use Rattle.cax64_machine_code.specs.declared.reading.Place.{Place}
use Rattle.cax64_machine_code.specs.declared.reading.Place.TheVariants.{Reg, Mem, Rip}
use Rattle.cax64_machine_code.specs.declared.reading.Reading.{Reading}
use Rattle.cax64_machine_code.specs.declared.row.Row.{Row}
use Rattle.cax64_sink.specs.Sink.{State}
use Rattle.cax64_sink.specs.declared.DeferredTarget.{DeferredTarget}
use Rattle.cax64_sink.specs.declared.DeferredTarget.TheVariants as target
use Rattle.x64_code_buffer.specs.Filled.{ReadsEach, EachUnpatched, field_at, fields_from, Begins, Filled, FilledOn, Leads, SettledAs, Settled, Finished}
use Rattle.x64_code_buffer.specs.Laid.{Piece, whole, readings_in, whole_pieces, LinesRead, EachOpen, line_field_at, piece_fields, PieceBegins, Laid, LaidOn, LineLeads, LineSettledAs, EachSettled, LaidOut}
use Rattle.x64_code_buffer.specs.Use.{Use, uses_of}

-- What is filled with readings by rows is laid out in them by their lines, and the other way.

lines_from_rows : (rs : List Reading) (b : List ℕ) → ReadsEach rs b → LinesRead (readings_in (whole_pieces rs)) b
lines_from_rows [] b h = h
lines_from_rows (r ∷ rs) b h = (λ rest. reads_line (take r.length b ++ rest) r (h.0 rest), h.1, h.2, lines_from_rows rs (drop r.length b) h.3)

rows_from_lines : (rs : List Reading) (b : List ℕ) → LinesRead (readings_in (whole_pieces rs)) b → ReadsEach rs b
rows_from_lines [] b h = h
rows_from_lines (r ∷ rs) b h = (λ rest. row_reads r.row (take r.length b ++ rest) (with_line r) (h.0 rest), h.1, h.2, rows_from_lines rs (drop r.length b) h.3)

opened_from : (rs : List Reading) → EachUnpatched rs → EachOpen (whole_pieces rs)
opened_from [] h = h
opened_from (r ∷ rs) h = (h.0, opened_from rs h.1)

unpatched_from : (rs : List Reading) → EachOpen (whole_pieces rs) → EachUnpatched rs
unpatched_from [] h = h
unpatched_from (r ∷ rs) h = (h.0, unpatched_from rs h.1)

pub same_field : (at : ℕ) (r : Reading) (o : Option Place) → field_at at r o ≡ line_field_at at (with_line r) o
same_field at r None = refl
same_field at r (Some (Reg view)) = refl
same_field at r (Some (Mem base index disp)) = refl
same_field at r (Some (Rip disp)) = refl

same_fields : (at : ℕ) (rs : List Reading) → fields_from at rs ≡ piece_fields at (whole_pieces rs)
same_fields at [] = refl
same_fields at (r ∷ rs) =
    ap (λ (z : List ℕ). z ++ fields_from (at + r.length) rs) (same_field at r r.place)
    ∙ ap (λ (z : List ℕ). line_field_at at (with_line r) r.place ++ z) (same_fields (at + r.length) rs)

begins_from : (at : ℕ) (rs : List Reading) (place : ℕ) → Begins at rs place → PieceBegins at (whole_pieces rs) place
begins_from at [] place h = h
begins_from at (r ∷ rs) place (inl h) = inl h
begins_from at (r ∷ rs) place (inr h) = inr (begins_from (at + r.length) rs place h)

begins_back : (at : ℕ) (rs : List Reading) (place : ℕ) → PieceBegins at (whole_pieces rs) place → Begins at rs place
begins_back at [] place h = h
begins_back at (r ∷ rs) place (inl h) = inl h
begins_back at (r ∷ rs) place (inr h) = inr (begins_back (at + r.length) rs place h)

in_left : {A B C : Type 0} → (A → B) → A ⊎ C → B ⊎ C
in_left f (inl h) = inl (f h)
in_left f (inr h) = inr h

pub filled_is_laid : (rs : List Reading) (n : ℕ) (s : State) (places : DeferredTarget → Option ℕ) → Filled rs n s places → Laid (whole_pieces rs) n s places
filled_is_laid rs n s places h = record {
  within = h.within;
  reads = lines_from_rows rs (take n s.bytes) h.reads;
  opened = opened_from rs h.unpatched;
  told = h.told ∙ same_fields 0 rs;
  bound = λ target place e. let b = h.bound target place e in (in_left (begins_from 0 rs place) b.0, b.1);
}

pub laid_is_filled : (rs : List Reading) (n : ℕ) (s : State) (places : DeferredTarget → Option ℕ) → Laid (whole_pieces rs) n s places → Filled rs n s places
laid_is_filled rs n s places h = record {
  within = h.within;
  reads = rows_from_lines rs (take n s.bytes) h.reads;
  unpatched = unpatched_from rs h.opened;
  told = h.told ∙ sym (same_fields 0 rs);
  bound = λ target place e. let b = h.bound target place e in (in_left (begins_back 0 rs place) b.0, b.1);
}

-- One more.

whole_more : (rs : List Reading) (r : Reading) → whole_pieces (rs ++ r ∷ []) ≡ whole_pieces rs ++ whole (with_line r) ∷ []
whole_more [] r = refl
whole_more (q ∷ rs) r = ap (λ (z : List Piece). whole (with_line q) ∷ z) (whole_more rs r)

pub laid_on_is_filled_on : (meant : Parts) (rs : List Reading) (s : State) (places : DeferredTarget → Option ℕ) → LaidOn whole (parts_as (line_of meant.row) meant) (whole_pieces rs) s places → FilledOn meant rs s places
laid_on_is_filled_on meant rs s places h =
    let q = h.reading in
    let r : Reading = as_row meant.row q in
    let line : line_of meant.row ≡ q.line = sym (ap (λ (z : PartsOf Line). z.row) h.same) in
    let is : with_line r ≡ q = ap (λ (l : Line). record { line = l; length = q.length; tail = q.tail; reg = q.reg; vvvv = q.vvvv; place = q.place; imm = q.imm }) line in
    let pieces : whole_pieces rs ++ whole q ∷ [] ≡ whole_pieces (rs ++ r ∷ []) = sym (whole_more rs r ∙ ap (λ (z : LineReading). whole_pieces rs ++ whole z ∷ []) is) in
    record {
      reading = r;
      same = ap (λ (z : PartsOf Line). parts_as meant.row z) h.same;
      filled = laid_is_filled (rs ++ r ∷ []) (length s.bytes) s places (subst (λ (z : List Piece). Laid z (length s.bytes) s places) pieces h.laid);
    }

-- bytes that read as a row read by its line
unfoldable pub reads_by_line : (meant : Parts) (b : List ℕ) → ReadsAs meant b → ReadsLineAs (parts_as (line_of meant.row) meant) b
reads_by_line meant b h =
    let row : h.reading.row ≡ meant.row = ap (λ (p : Parts). p.row) h.same in
    record {
      reading = with_line h.reading;
      reads = λ rest. ap (λ (z : Row). read_line (line_of z) (b ++ rest)) (sym row) ∙ reads_line (b ++ rest) h.reading (h.reads rest);
      same = ap (λ (z : Parts). parts_as (line_of z.row) z) h.same;
      length = h.length;
      least = h.least;
      most = h.most;
    }

-- What is laid out in whole pieces is finished.

-- readings by lines with the rows of others
abbrev as_rows : List Reading → List LineReading → List Reading
as_rows [] now = []
as_rows (r ∷ rs) [] = []
as_rows (r ∷ rs) (q ∷ now) = as_row r.row q ∷ as_rows rs now

pub line_stays : (places : DeferredTarget → Option ℕ) (end : ℕ) (r q : LineReading) (o : Option Place) (us : List Use) → LineSettledAs places end r o us q → q.line ≡ r.line
line_stays places end r q None us h = ap (λ (z : LineReading). z.line) h
line_stays places end r q (Some (Reg view)) us h = ap (λ (z : LineReading). z.line) h
line_stays places end r q (Some (Mem base index disp)) us h = ap (λ (z : LineReading). z.line) h
line_stays places end r q (Some (Rip disp)) [] h = absurd h
line_stays places end r q (Some (Rip disp)) ((at, target.Label label) ∷ us) h = ap (λ (z : LineReading). z.line) h.same
line_stays places end r q (Some (Rip disp)) ((at, target.Constant constant) ∷ us) h = ap (λ (z : LineReading). z.line) h.same
line_stays places end r q (Some (Rip disp)) ((at, target.None) ∷ us) h = ap (λ (z : LineReading). z.line) h

row_leads : (places : DeferredTarget → Option ℕ) (t : DeferredTarget) (end : ℕ) (r : Reading) (q : LineReading) → LineLeads places t end (with_line r) q → Leads places t end r (as_row r.row q)
row_leads places t end r q h = record { bound_to = h.bound_to; is_bound = h.is_bound; same = ap (λ (z : LineReading). as_row r.row z) h.same; leads = h.leads }

row_settled : (places : DeferredTarget → Option ℕ) (end : ℕ) (r : Reading) (q : LineReading) (o : Option Place) (us : List Use) → LineSettledAs places end (with_line r) o us q → SettledAs places end r o us (as_row r.row q)
row_settled places end r q None us h = ap (λ (z : LineReading). as_row r.row z) h
row_settled places end r q (Some (Reg view)) us h = ap (λ (z : LineReading). as_row r.row z) h
row_settled places end r q (Some (Mem base index disp)) us h = ap (λ (z : LineReading). as_row r.row z) h
row_settled places end r q (Some (Rip disp)) [] h = absurd h
row_settled places end r q (Some (Rip disp)) ((at, target.Label label) ∷ us) h = row_leads places (target.Label label) end r q h
row_settled places end r q (Some (Rip disp)) ((at, target.Constant constant) ∷ us) h = row_leads places (target.Constant constant) end r q h
row_settled places end r q (Some (Rip disp)) ((at, target.None) ∷ us) h = ap (λ (z : LineReading). as_row r.row z) h

rows_settled : (places : DeferredTarget → Option ℕ) (at : ℕ) (rs : List Reading) (us : List Use) (now : List LineReading) (b : List ℕ) → LinesRead now b → EachSettled places at (whole_pieces rs) us now → ReadsEach (as_rows rs now) b × Settled places at rs us (as_rows rs now)
rows_settled places at [] us now b reads settled = (subst (λ (z : List LineReading). LinesRead z b) settled reads, refl)
rows_settled places at (r ∷ rs) us [] b reads settled = absurd settled
rows_settled places at (r ∷ rs) us (q ∷ now) b reads settled =
    let line : q.line ≡ line_of r.row = line_stays places (at + r.length) (with_line r) q r.place us settled.0 in
    let later = rows_settled places (at + r.length) rs _ now (drop q.length b) reads.3 settled.1 in (
      (λ rest. row_reads r.row (take q.length b ++ rest) q (ap (λ (l : Line). read_line l (take q.length b ++ rest)) (sym line) ∙ reads.0 rest), reads.1, reads.2, later.0),
      (row_settled places (at + r.length) r q r.place us settled.0, later.1),
    )

pub laid_out_is_finished : (rs : List Reading) (n : ℕ) (s : State) (places : DeferredTarget → Option ℕ) (code : List ℕ) → LaidOut (whole_pieces rs) n s places code → Finished rs n s places code
laid_out_is_finished rs n s places code h =
    let both = rows_settled places 0 rs (uses_of s.notices) h.now (take n code) h.reads h.settled in
    record { now = as_rows rs h.now; reads = both.0; settled = both.1 }
