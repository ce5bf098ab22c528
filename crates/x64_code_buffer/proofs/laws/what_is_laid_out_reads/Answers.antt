use Rattle.std.proofs.Common.{◌≡◌, ℕ, suc, ◌+◌, refl, ◌∙◌, ap, sym, subst, List, [], ◌∷◌, true, Option, Some, All, length, take, drop}
use Rattle.std.specs.Prelude.{Contains}
use Rattle.std.proofs.lemmas.List.Elements.{All-head, All-tail}
use Rattle.cax64_machine_code.proofs.ReadLine.{contained, line_reads}
use Rattle.cax64_machine_code.specs.Apart.{each_two}
use Rattle.cax64_machine_code.specs.ReadLine.{LineReading, read_line, read_of}
use Rattle.cax64_machine_code.specs.declared.line.Line.{Line}
use Rattle.cax64_sink.specs.declared.DeferredTarget.{DeferredTarget}
use Rattle.cax64_sink.specs.declared.DeferredTarget.TheVariants as target
use Rattle.x64_code_buffer.specs.Laid.{Piece, whole, open_jump, reading_in, readings_in, LinesRead, JumpSettledBy, PieceSettled, EachSettled, uses_after, read_all_of}
use Rattle.x64_code_buffer.specs.Use.{Use, uses_of}
use Rattle.x64_code_buffer.proofs.Filling.{one_read}
use Rattle.x64_code_buffer.proofs.Pieces.{line_stays}
use Rattle.x64_code_buffer.proofs.laws.what_is_laid_out_reads.Goals as goal

-- each reading is by a line that is among some
abbrev EachAmong : List Line → List LineReading → Type 0
EachAmong lines [] = Unit {0}
EachAmong lines (r ∷ rs) = Contains lines r.line × EachAmong lines rs

among_pieces : (lines : List Line) (ps : List Piece) → All (λ p. Contains lines (reading_in p).line) ps → EachAmong lines (readings_in ps)
among_pieces lines [] h = tt
among_pieces lines (p ∷ ps) h = (All-head (λ p. Contains lines (reading_in p).line) p ps h, among_pieces lines ps (All-tail (λ p. Contains lines (reading_in p).line) p ps h))

jump_stays : (places : DeferredTarget → Option ℕ) (end : ℕ) (r q : LineReading) (us : List Use) → JumpSettledBy places end r us q → q.line ≡ r.line
jump_stays places end r q [] h = absurd h
jump_stays places end r q ((at, target.Label label) ∷ us) h = ap (λ (z : LineReading). z.line) h.same
jump_stays places end r q ((at, target.Constant constant) ∷ us) h = ap (λ (z : LineReading). z.line) h.same
jump_stays places end r q ((at, target.None) ∷ us) h = ap (λ (z : LineReading). z.line) h

piece_stays : (places : DeferredTarget → Option ℕ) (end : ℕ) (p : Piece) (q : LineReading) (us : List Use) → PieceSettled places end p us q → q.line ≡ (reading_in p).line
piece_stays places end (whole r) q us h = line_stays places end r q r.place us h
piece_stays places end (open_jump r) q us h = jump_stays places end r q us h

among_settled : (lines : List Line) (places : DeferredTarget → Option ℕ) (at : ℕ) (ps : List Piece) (us : List Use) (now : List LineReading) → EachSettled places at ps us now → EachAmong lines (readings_in ps) → EachAmong lines now × (length now ≡ length ps)
among_settled lines places at [] us now h among = (subst (EachAmong lines) (sym h) tt, ap length h)
among_settled lines places at (p ∷ ps) us [] h among = absurd h
among_settled lines places at (p ∷ ps) us (q ∷ now) h among =
    let n = (reading_in p).length in
    let later = among_settled lines places (at + n) ps (uses_after p us) now h.1 among.1 in
    ((subst (Contains lines) (sym (piece_stays places (at + n) p q us h.0)) among.0, later.0), ap (λ (k : ℕ). suc k) later.1)

all_lines_read : (lines : List Line) (rs : List LineReading) (b : List ℕ) → each_two lines ≡ true → EachAmong lines rs → LinesRead rs b → read_all_of lines b (length rs) ≡ Some (rs, [])
unfolding read_all_of
all_lines_read lines [] b apart among h = rw h refl
all_lines_read lines (r ∷ rs) b apart among h =
    let by_line : read_line r.line b ≡ Some r = ap (read_line r.line) (sym (one_read b r.length h.2)) ∙ h.0 (drop r.length b) in
    let first : read_of lines b ≡ Some r = line_reads lines r.line b r apart (contained lines r.line among.0) by_line in
    rw (first, all_lines_read lines rs (drop r.length b) apart among.1 h.3) refl

pieces_count : (ps : List Piece) → length (readings_in ps) ≡ length ps
pieces_count [] = refl
pieces_count (p ∷ ps) = ap (λ (k : ℕ). suc k) (pieces_count ps)

pub returns-clause-laid : goal.returns-clause-laid
returns-clause-laid c lines pieces n s places apart among h =
    ap (read_all_of lines (take n s.bytes)) (sym (pieces_count pieces)) ∙ all_lines_read lines (readings_in pieces) (take n s.bytes) apart (among_pieces lines pieces among) h.reads

pub returns-clause-laid_out : goal.returns-clause-laid_out
returns-clause-laid_out c lines pieces n s places code apart among h =
    let now = among_settled lines places 0 pieces (uses_of s.notices) h.now h.settled (among_pieces lines pieces among) in
    ap (read_all_of lines (take n code)) (sym now.1) ∙ all_lines_read lines h.now (take n code) apart now.0 h.reads
