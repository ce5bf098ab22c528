use Rattle.std.proofs.Common.{◌≡◌, ℕ, ◌+◌, ◌<◌, ◌≤◌, arith, refl, ◌∙◌, ap, sym, subst, Option, Some, None, List, [], ◌∷◌, ◌++◌, true, length, take, drop, append-nil, ◌^◌, ℤ, pos, ◌-ℤ◌, length-append, Result, Ok, Err, FitsSigned, to_z, of_z}
use Rattle.std.proofs.Math.Seq.{take-length}
use Rattle.std.proofs.lemmas.Int.{ints, to_z-of_z}
use Rattle.std.proofs.lemmas.List.{drop-drop}
use Rattle.std.specs.Int.{w8, w32, w64}
use Rattle.std.specs.Prelude.{IfSome, IsSome, IsTrue, OnOk, unwrap_or, slice_index}
use Rattle.cax64_encoder.proofs.Faults.{no_fault, none_is}
use Rattle.cax64_encoder.specs.Fault.{can_encode, first_fault}
use Rattle.cax64_machine_code.specs.Len.{len_of, line_len}
use Rattle.cax64_machine_code.specs.ReadLine.{LineReading, ReadsLineAs, read_line}
use Rattle.cax64_machine_code.specs.Reading.{PartsOf}
use Rattle.cax64_machine_code.specs.Rows.{line_of}
use Rattle.cax64_machine_code.specs.declared.line.Line.{Line}
use Rattle.cax64_machine_code.specs.declared.row.Row.{Row}
use Rattle.cax64_sink.specs.Keeps.{Keeps}
use Rattle.cax64_sink.specs.Room.{Room, FallsBy}
use Rattle.cax64_sink.specs.Sink.{State}
use Rattle.cax64_sink.specs.declared.DeferredTarget.{DeferredTarget}
use Rattle.cax64_sink.specs.declared.DeferredTarget.TheVariants as target
use Rattle.cax64_sink.specs.declared.Label.{Label}
use Rattle.cax64_sink.specs.declared.Notice.{Notice}
use Rattle.x64_code_buffer.proofs.Filling.{one_read}
use Rattle.x64_code_buffer.proofs.Jumped.{len_same, of_some}
use Rattle.x64_code_buffer.proofs.Jumping.{short_len}
use Rattle.x64_code_buffer.proofs.Laying.{reads_itself}
use Rattle.x64_code_buffer.proofs.Settling.{some_same}
use Rattle.x64_code_buffer.specs.Binding.{SamePlaces}
use Rattle.x64_encode.specs.Encode.{AddsMeant, LineMeant, ReadsRelativeBy}
use Rattle.x64_code_buffer.specs.Jump.{AddsAt, AddsJump, AddsNear, jump_parts, long_row, short_row}
use Rattle.x64_code_buffer.specs.Laid.{Laid, LaidOn, LinesRead, Piece, open_jump, parts_in, reading_in, readings_in, whole}
use Rattle.x64_code_buffer.specs.declared.jump.Condition.TheVariants as cond
use Rattle.x64_code_buffer.specs.declared.jump.Jump.{Jump}
use Rattle.x64_code_buffer.specs.declared.jump.Jump.TheVariants.{Always, Call, If}
use Rattle.x64_assemble.specs.Assembled.{JumpReads, WholeReads, distance_in, jump_told, long_len, row_of_len}
use Rattle.x64_assemble.specs.Listed.{GotEntry, IsPiece, inst_told}
use Rattle.x64_assemble.proofs.Pieces.{fewer}
use Rattle.x64_assemble.proofs.Told.{laid_total, pieces_length, tells_inst, tells_jump, tells_nothing}

-- The piece that a buffer is laid out with is the one that was put.

lines_last : (ps : List Piece) (p : Piece) (b : List ℕ) → LinesRead (readings_in (ps ++ p ∷ [])) b → LinesRead (reading_in p ∷ []) (drop (pieces_length ps) b)
lines_last [] p b h = h
lines_last (q ∷ ps) p b h = subst (LinesRead (reading_in p ∷ [])) (drop-drop (pieces_length ps) (reading_in q).length b) (lines_last ps p (drop (reading_in q).length b) h.3)

behind_front : (a b : List ℕ) → drop (length a) (a ++ b) ≡ b
behind_front [] b = refl
behind_front (x ∷ a) b = behind_front a b

last_read : (ps : List Piece) (p : Piece) (s t : State) (old new : DeferredTarget → Option ℕ) (added : List ℕ) → t.bytes ≡ s.bytes ++ added → Laid ps (length s.bytes) s old → Laid (ps ++ p ∷ []) (length t.bytes) t new → LinesRead (reading_in p ∷ []) added
last_read ps p s t old new added bytes h k =
    let all : take (length t.bytes) t.bytes ≡ s.bytes ++ added = take-length t.bytes ∙ bytes in
    let reads : LinesRead (readings_in (ps ++ p ∷ [])) (s.bytes ++ added) = subst (LinesRead (readings_in (ps ++ p ∷ []))) all k.reads in
    let left : drop (pieces_length ps) (s.bytes ++ added) ≡ added = ap (λ (n : ℕ). drop n (s.bytes ++ added)) (sym (laid_total ps s old h)) ∙ behind_front s.bytes added in
    subst (LinesRead (reading_in p ∷ [])) left (lines_last ps p (s.bytes ++ added) reads)

same_reading : (p r : LineReading) (added : List ℕ) → LinesRead (p ∷ []) added → p.line ≡ r.line → ((rest : List ℕ) → read_line r.line (added ++ rest) ≡ Some r) → p ≡ r
same_reading p r added h line reads =
    let all : take p.length added ++ [] ≡ added = ap (λ (z : List ℕ). take p.length added ++ z) (sym h.3) ∙ one_read added p.length h.2 in
    let first : read_line p.line added ≡ Some p = ap (read_line p.line) (sym all) ∙ h.0 [] in
    let second : read_line p.line added ≡ Some r = ap (λ (l : Line). read_line l added) line ∙ ap (read_line r.line) (sym (append-nil added)) ∙ reads [] in
    some_same p r (sym first ∙ second)

laid_itself : (kind : LineReading → Piece) (meant : PartsOf Line) (ps : List Piece) (s t : State) (old new : DeferredTarget → Option ℕ) (added : List ℕ) (read : ReadsLineAs meant added) → ((r : LineReading) → reading_in (kind r) ≡ r) → t.bytes ≡ s.bytes ++ added → Laid ps (length s.bytes) s old → LaidOn kind meant ps t new → Laid (ps ++ kind read.reading ∷ []) (length t.bytes) t new
laid_itself kind meant ps s t old new added read kind_is bytes h on =
    let last : LinesRead (on.reading ∷ []) added = subst (λ (z : LineReading). LinesRead (z ∷ []) added) (kind_is on.reading) (last_read ps (kind on.reading) s t old new added bytes h on.laid) in
    let line : on.reading.line ≡ read.reading.line = ap (λ (p : PartsOf Line). p.row) on.same ∙ sym (ap (λ (p : PartsOf Line). p.row) read.same) in
    let same : on.reading ≡ read.reading = same_reading on.reading read.reading added last line (reads_itself meant added read) in
    subst (λ (z : LineReading). Laid (ps ++ kind z ∷ []) (length t.bytes) t new) same on.laid

is_piece : (p : Piece) (meant : PartsOf Line) (added : List ℕ) (read : ReadsLineAs meant added) → reading_in p ≡ read.reading → IsPiece p added
is_piece p meant added read e = record {
  reads = λ rest. rw e (reads_itself meant added read rest);
  length = ap (λ (z : LineReading). z.length) e ∙ read.length;
  least = rw e read.least;
}

-- One span that is put.

pub given_ok : {E P : Type 0} (r : Result (Unit {0}) E) (v : Unit {0}) → r ≡ Ok v → OnOk r P → P
given_ok (Ok tt) v is h = h
given_ok (Err e) v is h = cc

falls_more : (s t : Room) (n m : ℕ) → n ≤ m → FallsBy s t n → FallsBy s t m
falls_more s t n m le h = λ k room. h k (fewer s (k + n) (k + m) (omega arith) room)

pub got_from : (kind : LineReading → Piece) (meant : PartsOf Line) (reads : Piece → Type 0) (tells : ℕ → Piece → List Notice) (size told : ℕ) (s t : State) (old new : DeferredTarget → Option ℕ) (added : List ℕ) (read : ReadsLineAs meant added) → ((r : LineReading) → reading_in (kind r) ≡ r) → ((r : LineReading) → ◌≡◌ {A = PartsOf Line} (parts_in r) meant → reads (kind r)) → t.bytes ≡ s.bytes ++ added → length added ≡ size → SamePlaces old new → Keeps s t → FallsBy s.byte_room t.byte_room size → FallsBy s.notice_room t.notice_room told → told ≤ 1 → ((pieces : List Piece) → Laid pieces (length s.bytes) s old → LaidOn kind meant pieces t new) → t.notices ≡ s.notices ++ tells (length s.bytes) (kind read.reading) → GotEntry reads tells size s t old new
got_from kind meant reads tells size told s t old new added read kind_is as_meant bytes len places keeps room notices one laid are_told = record {
  piece = kind read.reading;
  added = added;
  piece_reads = as_meant read.reading read.same;
  is = is_piece (kind read.reading) meant added read (kind_is read.reading);
  bytes = bytes;
  told = are_told;
  laid = λ pieces h. laid_itself kind meant pieces s t old new added read kind_is bytes h (laid pieces h);
  more = ap length bytes ∙ length-append s.bytes added ∙ ap (λ (n : ℕ). length s.bytes + n) len;
  places = places;
  keeps = keeps;
  byte_room = room;
  notice_room = falls_more s.notice_room t.notice_room told 1 one notices;
}

pub got_inst : {M : Type 0} (m : LineMeant M) (told : ℕ) (s t : State) (old new : DeferredTarget → Option ℕ) → s.records ≡ true → ReadsRelativeBy m → AddsMeant m s t → SamePlaces old new → Keeps s t → FallsBy s.byte_room t.byte_room m.len → FallsBy s.notice_room t.notice_room told → told ≤ 1 → ((pieces : List Piece) → Laid pieces (length s.bytes) s old → LaidOn whole m.parts pieces t new) → GotEntry (WholeReads m.parts) (inst_told m.memory) m.len s t old new
got_inst m told s t old new records relative adds places keeps room notices one laid =
    got_from whole m.parts (WholeReads m.parts) (inst_told m.memory) m.len told s t old new adds.added adds.reads (λ r. refl) (λ r e. e) adds.bytes adds.length places keeps room notices one laid (tells_inst m s t records relative adds)

-- an instruction without a fault can be encoded
pub line_fits : {M : Type 0} (offsets : ℕ → Option ℤ) (m : LineMeant M) → first_fault offsets m.visited m.memory ≡ None → IsTrue (can_encode offsets m.visited m.memory)
line_fits offsets m h = (none_is (first_fault offsets m.visited m.memory) _ (no_fault offsets m.visited m.memory)).0 h

-- how many bytes a longer form has
long_line_len : (jump : Jump) (z : ℤ) → line_len (line_of (long_row jump)) (jump_parts (line_of (long_row jump)) z) ≡ long_len jump
unfolding line_of
long_line_len Call z = refl
long_line_len Always z = refl
long_line_len (If cond.O) z = refl
long_line_len (If cond.No) z = refl
long_line_len (If cond.B) z = refl
long_line_len (If cond.Ae) z = refl
long_line_len (If cond.E) z = refl
long_line_len (If cond.Ne) z = refl
long_line_len (If cond.Be) z = refl
long_line_len (If cond.A) z = refl
long_line_len (If cond.S) z = refl
long_line_len (If cond.Ns) z = refl
long_line_len (If cond.P) z = refl
long_line_len (If cond.Np) z = refl
long_line_len (If cond.L) z = refl
long_line_len (If cond.Ge) z = refl
long_line_len (If cond.Le) z = refl
long_line_len (If cond.G) z = refl

long_is : (jump : Jump) (z : ℤ) → len_of (jump_parts (long_row jump) z) ≡ long_len jump
long_is jump z = sym (len_same (long_row jump) z) ∙ long_line_len jump z

far_row : (jump : Jump) → row_of_len jump (long_len jump) ≡ long_row jump
far_row Call = refl
far_row Always = refl
far_row (If condition) = refl

meant_is : (row other : Row) (z d : ℤ) → row ≡ other → z ≡ d → ◌≡◌ {A = PartsOf Line} (jump_parts (line_of row) z) (jump_parts (line_of other) d)
meant_is row other z d rows same = ap (λ (w : Row). jump_parts {K = Line} (line_of w) z) rows ∙ ap (λ (y : ℤ). jump_parts {K = Line} (line_of other) y) same

pub got_far : (jump : Jump) (label : Label) (lens : List ℕ) (n spot : ℕ) (z : ℤ) (s t : State) (old new : DeferredTarget → Option ℕ) → slice_index lens n ≡ long_len jump → z ≡ distance_in lens n spot → AddsAt (long_row jump) z s t → SamePlaces old new → Keeps s t → FallsBy s.byte_room t.byte_room (len_of (jump_parts (long_row jump) z)) → FallsBy s.notice_room t.notice_room 0 → ((pieces : List Piece) → Laid pieces (length s.bytes) s old → LaidOn whole (jump_parts (line_of (long_row jump)) z) pieces t new) → GotEntry (JumpReads lens n jump (Some spot)) (jump_told (Some spot) label) (slice_index lens n) s t old new
got_far jump label lens n spot z s t old new size same adds places keeps room notices laid =
    let all : len_of (jump_parts (long_row jump) z) ≡ slice_index lens n = long_is jump z ∙ sym size in
    let row : row_of_len jump (slice_index lens n) ≡ long_row jump = ap (row_of_len jump) size ∙ far_row jump in
    let meant : ◌≡◌ {A = PartsOf Line} (jump_parts (line_of (long_row jump)) z) (jump_parts (line_of (row_of_len jump (slice_index lens n))) (distance_in lens n spot)) = meant_is (long_row jump) (row_of_len jump (slice_index lens n)) z (distance_in lens n spot) (sym row) same in
    got_from whole (jump_parts (line_of (long_row jump)) z) (JumpReads lens n jump (Some spot)) (jump_told (Some spot) label) (slice_index lens n) 0 s t old new adds.added adds.reads (λ r. refl) (λ r e. e ∙ meant) adds.bytes (adds.length ∙ all) places keeps (subst (FallsBy s.byte_room t.byte_room) all room) notices (omega arith) laid (tells_nothing s t adds.notices)

pub got_open : (jump : Jump) (label : Label) (lens : List ℕ) (n : ℕ) (s t : State) (old new : DeferredTarget → Option ℕ) → slice_index lens n ≡ long_len jump → AddsJump jump (target.Label label) s t → SamePlaces old new → Keeps s t → FallsBy s.byte_room t.byte_room (len_of (jump_parts (long_row jump) (pos 0))) → FallsBy s.notice_room t.notice_room 1 → ((pieces : List Piece) → Laid pieces (length s.bytes) s old → LaidOn open_jump (jump_parts (line_of (long_row jump)) (pos 0)) pieces t new) → GotEntry (JumpReads lens n jump None) (jump_told None label) (slice_index lens n) s t old new
got_open jump label lens n s t old new size adds places keeps room notices laid =
    let all : len_of (jump_parts (long_row jump) (pos 0)) ≡ slice_index lens n = long_is jump (pos 0) ∙ sym size in
    got_from open_jump (jump_parts (line_of (long_row jump)) (pos 0)) (JumpReads lens n jump None) (jump_told None label) (slice_index lens n) 1 s t old new adds.added adds.reads (λ r. refl) (λ r e. e) adds.bytes (adds.length ∙ all) places keeps (subst (FallsBy s.byte_room t.byte_room) all room) notices (omega arith) laid (tells_jump (target.Label label) s t adds.reads.reading adds.added adds.reads.length adds.notices)

some_row : (o : Option Row) → IsSome o → (row : Row) × (o ≡ Some row)
some_row None h = cc
some_row (Some row) h = (row, refl)

pub got_near : (jump : Jump) (label : Label) (lens : List ℕ) (n spot : ℕ) (z : ℤ) (s t : State) (old new : DeferredTarget → Option ℕ) → IsSome (short_row jump) → slice_index lens n ≡ 2 → z ≡ distance_in lens n spot → AddsNear jump z s t → SamePlaces old new → Keeps s t → FallsBy s.byte_room t.byte_room 2 → FallsBy s.notice_room t.notice_room 0 → ((pieces : List Piece) → Laid pieces (length s.bytes) s old → IfSome (short_row jump) (λ row. LaidOn whole (jump_parts (line_of row) z) pieces t new)) → GotEntry (JumpReads lens n jump (Some spot)) (jump_told (Some spot) label) (slice_index lens n) s t old new
got_near jump label lens n spot z s t old new there size same near places keeps room notices laid =
    let found : (row : Row) × (short_row jump ≡ Some row) = some_row (short_row jump) there in
    let row : Row = found.0 in
    let is : short_row jump ≡ Some row = found.1 in
    let adds : AddsAt row z s t = of_some (λ (w : Row). AddsAt w z s t) (short_row jump) row is near in
    let two : line_len (line_of row) (jump_parts (line_of row) z) ≡ 2 = of_some (λ (w : Row). line_len (line_of w) (jump_parts (line_of w) z) ≡ 2) (short_row jump) row is (short_len jump z) in
    let all : length adds.added ≡ slice_index lens n = adds.length ∙ sym (len_same row z) ∙ two ∙ sym size in
    let rows : row_of_len jump (slice_index lens n) ≡ row = ap (row_of_len jump) size ∙ ap (λ (o : Option Row). unwrap_or o (long_row jump)) is in
    let meant : ◌≡◌ {A = PartsOf Line} (jump_parts (line_of row) z) (jump_parts (line_of (row_of_len jump (slice_index lens n))) (distance_in lens n spot)) = meant_is row (row_of_len jump (slice_index lens n)) z (distance_in lens n spot) (sym rows) same in
    got_from whole (jump_parts (line_of row) z) (JumpReads lens n jump (Some spot)) (jump_told (Some spot) label) (slice_index lens n) 0 s t old new adds.added adds.reads (λ r. refl) (λ r e. e ∙ meant) adds.bytes all places keeps (subst (FallsBy s.byte_room t.byte_room) (sym size) room) notices (omega arith)
    (λ pieces h. of_some (λ (w : Row). LaidOn whole (jump_parts (line_of w) z) pieces t new) (short_row jump) row is (laid pieces h)) (tells_nothing s t adds.notices)

-- What is computed of two positions is their distance.

cast_is : (p q : ℕ) (a b : ℤ) → a ≡ pos p → b ≡ pos q → p < 2 ^ 31 → q < 2 ^ 31 → to_z w64 (of_z w64 (to_z w64 (of_z w64 a) -ℤ to_z w64 (of_z w64 b))) ≡ pos p -ℤ pos q
cast_is p q a b ea eb p_small q_small =
    let fits_p : FitsSigned w64 (pos p) = omega (arith, ints) in
    let fits_q : FitsSigned w64 (pos q) = omega (arith, ints) in
    let fits : FitsSigned w64 (pos p -ℤ pos q) = omega (arith, ints) in
    let x : to_z w64 (of_z w64 a) ≡ pos p = ap (λ (z : ℤ). to_z w64 (of_z w64 z)) ea ∙ to_z-of_z w64 (pos p) fits_p in
    let y : to_z w64 (of_z w64 b) ≡ pos q = ap (λ (z : ℤ). to_z w64 (of_z w64 z)) eb ∙ to_z-of_z w64 (pos q) fits_q in
    let d : to_z w64 (of_z w64 a) -ℤ to_z w64 (of_z w64 b) ≡ pos p -ℤ pos q = ap (λ (z : ℤ). z -ℤ to_z w64 (of_z w64 b)) x ∙ ap (λ (z : ℤ). pos p -ℤ z) y in
    ap (λ (z : ℤ). to_z w64 (of_z w64 z)) d ∙ to_z-of_z w64 (pos p -ℤ pos q) fits

pub near_is : (p q : ℕ) (a b : ℤ) → a ≡ pos p → b ≡ pos q → p < 2 ^ 31 → q < 2 ^ 31 → FitsSigned w8 (pos p -ℤ pos q) → to_z w8 (of_z w8 (to_z w64 (of_z w64 (to_z w64 (of_z w64 a) -ℤ to_z w64 (of_z w64 b))))) ≡ pos p -ℤ pos q
near_is p q a b ea eb p_small q_small fits = ap (λ (z : ℤ). to_z w8 (of_z w8 z)) (cast_is p q a b ea eb p_small q_small) ∙ to_z-of_z w8 (pos p -ℤ pos q) fits

pub far_is : (p q : ℕ) (a b : ℤ) → a ≡ pos p → b ≡ pos q → p < 2 ^ 31 → q < 2 ^ 31 → to_z w32 (of_z w32 (to_z w64 (of_z w64 (to_z w64 (of_z w64 a) -ℤ to_z w64 (of_z w64 b))))) ≡ pos p -ℤ pos q
far_is p q a b ea eb p_small q_small =
    let fits : FitsSigned w32 (pos p -ℤ pos q) = omega (arith, ints) in
    ap (λ (z : ℤ). to_z w32 (of_z w32 z)) (cast_is p q a b ea eb p_small q_small) ∙ to_z-of_z w32 (pos p -ℤ pos q) fits
