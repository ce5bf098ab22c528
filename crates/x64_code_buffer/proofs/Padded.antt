use Rattle.std.proofs.Common.{◌≡◌, ◌≢◌, ℕ, zero, suc, ◌+◌, ◌-◌, ◌*◌, ◌%◌, ◌^◌, ◌≤◌, ◌<◌, arith, refl, ◌∙◌, ap, sym, subst, List, [], ◌∷◌, ◌++◌, append_assoc, append-nil, length-append, Bool, true, false, Option, Some, None, Result, Ok, Err, length}
use Rattle.std.specs.Prelude.{◌==◌, if◌then◌else◌, IsOk, replicate}
use Rattle.std.proofs.Math.Nat.{mod-add-mod, add-mod_left, zero-mod}
use Rattle.std.proofs.lemmas.Bool.Decides.{nat_tests}
use Rattle.std.proofs.lemmas.List.{replicate_more}
use Rattle.std.proofs.lemmas.Nat.{mod_below, one_shl, pow_pos}
use Rattle.cax64_encoder.proofs.Nops.{nop_encodes}
use Rattle.cax64_encoder.specs.Encodes.{EncodesAs}
use Rattle.cax64_encoder.specs.Meant.{nop_meant}
use Rattle.cax64_encoder.specs.Nop.{nop_bytes, nop_parts, nop_place}
use Rattle.cax64_encoder.specs.NopActions.{nop_actions}
use Rattle.cax64_machine_code.specs.ReadLine.{parts_as}
use Rattle.cax64_machine_code.specs.Reading.{PartsOf}
use Rattle.cax64_machine_code.specs.Rows.{line_of}
use Rattle.cax64_machine_code.specs.Sequence.{ReadsAs}
use Rattle.cax64_machine_code.specs.declared.line.Line.{Line}
use Rattle.cax64_machine_code.specs.declared.reading.Reading.{Reading}
use Rattle.cax64_operand.specs.NopRow.{nop_row}
use Rattle.cax64_operand.specs.declared.nop.Nop.{Nop}
use Rattle.cax64_operand.specs.declared.nop.Nop.TheVariants.{One, Two, Three, Four, Five, Six, Seven, Eight, Nine}
use Rattle.cax64_sink.proofs.Ends.{ran_keeps}
use Rattle.cax64_sink.proofs.Rooms.{notes_is_length, ran_byte_room, ran_notice_room, ran_succeeds, size_is_length}
use Rattle.cax64_sink.proofs.Runs.{ran_bytes, ran_notices}
use Rattle.cax64_sink.specs.Keeps.{Keeps}
use Rattle.cax64_sink.specs.Room.{FallsBy, HasRoom}
use Rattle.cax64_sink.specs.Run.{Ran, all_bytes, all_notices, byte_total, notice_total}
use Rattle.cax64_sink.specs.Sink.{State}
use Rattle.cax64_sink.specs.declared.DeferredTarget.{DeferredTarget}
use Rattle.cax64_sink.specs.declared.Notice.{Notice}
use Rattle.cax64_sink.specs.declared.SinkError.{SinkError}
use Rattle.x64_code_buffer.proofs.Filling.{stays_as}
use Rattle.x64_code_buffer.proofs.Putting.{puts_after}
use Rattle.x64_code_buffer.specs.Buffer.{AsBefore}
use Rattle.x64_code_buffer.proofs.Laying.{is_some_rip, laid_plain}
use Rattle.x64_code_buffer.proofs.Pieces.{filled_is_laid, laid_is_filled, laid_on_is_filled_on, reads_by_line}
use Rattle.x64_code_buffer.specs.Filled.{Filled, FilledOn}
use Rattle.x64_code_buffer.specs.Laid.{Laid, LaidOn, Piece, whole, whole_pieces}
use Rattle.x64_code_buffer.specs.Padding.{AddsPadding, FilledUp, LaidUp, PutsPadding, missing_to, nops_bytes, padding}
use Rattle.x64_code_buffer.specs.Put.{PutsBytes}

-- The next multiple.

zero_is : (n : ℕ) → (n == 0) ≡ true → n ≡ 0
zero_is n h = grind (arith, nat_tests)

not_zero : (n : ℕ) → (n == 0) ≡ false → n ≢ 0
not_zero n h = grind (arith, nat_tests)

itself_none : (size : ℕ) → 1 ≤ size → size % size ≡ 0
itself_none size h =
    let e : size + 0 ≡ size = omega arith in
    let f : size % size ≡ 0 % size = rw e at (add-mod_left size 0) in
    f ∙ zero-mod size

aligned_by : (a size : ℕ) (b : Bool) → 1 ≤ size → (a % size == 0) ≡ b → (a + (if b then 0 else size - a % size)) % size ≡ 0
aligned_by a size true h e = let none : a + 0 ≡ a = omega arith in rw none (zero_is (a % size) e)
aligned_by a size false h e =
    let below : a % size < size = mod_below a size (omega arith) in
    let whole : a % size + (size - a % size) ≡ size = omega arith in
    sym (mod-add-mod a size (size - a % size)) ∙ ap (λ (n : ℕ). n % size) whole ∙ itself_none size h

pub aligned : (a size : ℕ) → 1 ≤ size → (a + missing_to a size) % size ≡ 0
aligned a size h = aligned_by a size (a % size == 0) h refl

missing_by : (a size : ℕ) (b : Bool) → 1 ≤ size → (a % size == 0) ≡ b → (if b then 0 else size - a % size) < size
missing_by a size true h e = omega arith
missing_by a size false h e = let some : a % size ≢ 0 = not_zero (a % size) e in omega arith

pub missing_below : (a size : ℕ) → 1 ≤ size → missing_to a size < size
missing_below a size h = missing_by a size (a % size == 0) h refl

pub least_power : (n : ℕ) → 1 ≤ 2 ^ n
least_power n = omega (arith, pow_pos n)

pub shifted : (k n : ℕ) → k ≡ n → n < 64 → (1 * 2 ^ k) % 18446744073709551616 ≡ 2 ^ n
shifted k n e h = rw e (one_shl n 64 h)

-- A no-operation that is put where there is room.

nop_written : (nop : Nop) → EncodesAs {M = ℕ} (nop_meant (nop_row nop) nop) (nop_actions nop)
nop_written nop = nop_encodes ℕ (nop_row nop) nop refl

nop_reads_as : (nop : Nop) → ReadsAs (nop_parts (nop_row nop) nop) (nop_bytes nop)
nop_reads_as nop = subst (λ (z : List ℕ). ReadsAs (nop_parts (nop_row nop) nop) z) (nop_written nop).exact (nop_written nop).written.reads

is_ok_is : (r : Result (Unit {0}) SinkError) → IsOk r → r ≡ Ok tt
is_ok_is (Ok tt) h = refl
is_ok_is (Err e) h = cc

no_more : (b : Bool) (x y : List Notice) → y ≡ [] → (if b then x ++ y else x) ≡ x
no_more true x y e = rw e (append-nil x)
no_more false x y e = refl

pub record NopPut (nop : Nop) (s t : State) (r : Result (Unit {0}) SinkError) : Type 0 where
  pub ok : IsOk r
  pub puts : PutsBytes (nop_bytes nop) s t

pub nop_put : (nop : Nop) (s t : State) (r : Result (Unit {0}) SinkError) → HasRoom s.byte_room (length (nop_bytes nop)) → HasRoom s.notice_room 0 → Ran (nop_actions nop) s t r → NopPut nop s t r
nop_put nop s t r bytes told run =
    let acts = nop_actions nop in
    let exact : all_bytes acts ≡ nop_bytes nop = (nop_written nop).exact in
    let size : byte_total acts ≡ length (nop_bytes nop) = size_is_length acts ∙ ap length exact in
    let quiet : (at : ℕ) → all_notices acts at ≡ [] = (nop_written nop).written.notices in
    let none : notice_total acts ≡ 0 = notes_is_length acts 0 ∙ ap length (quiet 0) in
    let ok : IsOk r = ran_succeeds run (rw size bytes) (rw none told) in
    let is : r ≡ Ok tt = is_ok_is r ok in
    record {
      ok = ok;
      puts = record {
        bytes = ran_bytes run is ∙ ap (λ (z : List ℕ). s.bytes ++ z) exact;
        notices = ran_notices run is ∙ no_more s.records s.notices _ (quiet (length s.bytes));
        byte_room = subst (λ (n : ℕ). FallsBy s.byte_room t.byte_room n) size (ran_byte_room run);
        notice_room = subst (λ (n : ℕ). FallsBy s.notice_room t.notice_room n) none (ran_notice_room run);
        keeps = ran_keeps run;
      };
    }

-- No-operations, one behind the other.

pub nops_more : (nops : List Nop) (nop : Nop) → nops_bytes (nops ++ nop ∷ []) ≡ nops_bytes nops ++ nop_bytes nop
nops_more [] nop = append-nil (nop_bytes nop)
nops_more (first ∷ nops) nop = ap (λ (z : List ℕ). nop_bytes first ++ z) (nops_more nops nop) ∙ sym (append_assoc (nop_bytes first) (nops_bytes nops) (nop_bytes nop))

pub nine_more : (n : ℕ) → nops_bytes (replicate (n + 1) Nine) ≡ nops_bytes (replicate n Nine) ++ nop_bytes Nine
nine_more n = ap nops_bytes (sym (replicate_more n Nine)) ∙ nops_more (replicate n Nine) Nine

pub nines_length : (n : ℕ) → length (nops_bytes (replicate n Nine)) ≡ 9 * n
nines_length zero = refl
nines_length (suc n) = omega (arith, nines_length n)

pub padding_one : (nines : ℕ) (nop : Nop) → nops_bytes (padding nines (Some nop)) ≡ nops_bytes (replicate nines Nine) ++ nop_bytes nop
padding_one nines nop = nops_more (replicate nines Nine) nop

pub padding_none : (nines : ℕ) → nops_bytes (padding nines None) ≡ nops_bytes (replicate nines Nine)
padding_none nines = ap nops_bytes (append-nil (replicate nines Nine))

-- A buffer that was laid out is laid out with them.

nop_plain : (nop : Nop) → is_some_rip (nop_place nop) ≡ false
nop_plain One = refl
nop_plain Two = refl
nop_plain Three = refl
nop_plain Four = refl
nop_plain Five = refl
nop_plain Six = refl
nop_plain Seven = refl
nop_plain Eight = refl
nop_plain Nine = refl

abbrev with_nop : Nop → State → State
with_nop nop s = record s { bytes = s.bytes ++ nop_bytes nop }

abbrev nop_line_parts : Nop → PartsOf Line
nop_line_parts nop = parts_as (line_of (nop_row nop)) (nop_parts (nop_row nop) nop)

one_laid : (nop : Nop) (pieces : List Piece) (s : State) (places : DeferredTarget → Option ℕ) → Laid pieces (length s.bytes) s places → LaidOn whole (nop_line_parts nop) pieces (with_nop nop s) places
one_laid nop pieces s places h =
    laid_plain (nop_line_parts nop) pieces s (with_nop nop s) places places (nop_bytes nop) [] (reads_by_line (nop_parts (nop_row nop) nop) (nop_bytes nop) (nop_reads_as nop)) refl (sym (append-nil s.notices)) refl (nop_plain nop) (λ target. refl) h

one_filled : (nop : Nop) (readings : List Reading) (s : State) (places : DeferredTarget → Option ℕ) → Filled readings (length s.bytes) s places → FilledOn (nop_parts (nop_row nop) nop) readings (with_nop nop s) places
one_filled nop readings s places h =
    laid_on_is_filled_on (nop_parts (nop_row nop) nop) readings (with_nop nop s) places (one_laid nop (whole_pieces readings) s places (filled_is_laid readings (length s.bytes) s places h))

pub laid_up : (nops : List Nop) (pieces : List Piece) (s t : State) (places : DeferredTarget → Option ℕ) → t.bytes ≡ s.bytes ++ nops_bytes nops → t.notices ≡ s.notices → Laid pieces (length s.bytes) s places → LaidUp pieces t places
laid_up [] pieces s t places bytes notices h =
    let same : t.bytes ≡ s.bytes = bytes ∙ append-nil s.bytes in
    let laid : Laid pieces (length s.bytes) t places = stays_as pieces (length s.bytes) s t places places same notices (λ target. refl) h in
    record {
      more = [];
      nops = tt;
      laid = subst (λ (n : ℕ). Laid (pieces ++ []) n t places) (ap length (sym same)) (rw (append-nil pieces) laid);
    }
laid_up (nop ∷ nops) pieces s t places bytes notices h =
    let on = one_laid nop pieces s places h in
    let later : LaidUp (pieces ++ whole on.reading ∷ []) t places = laid_up nops (pieces ++ whole on.reading ∷ []) (with_nop nop s) t places (bytes ∙ sym (append_assoc s.bytes (nop_bytes nop) (nops_bytes nops))) notices on.laid in
    let joined : (pieces ++ whole on.reading ∷ []) ++ later.more ≡ pieces ++ (whole on.reading ∷ later.more) = append_assoc pieces (whole on.reading ∷ []) later.more in
    record {
      more = whole on.reading ∷ later.more;
      nops = ((nop, on.reading, refl, on.same), later.nops);
      laid = subst (λ (z : List Piece). Laid z (length t.bytes) t places) joined later.laid;
    }

pub filled_up : (nops : List Nop) (readings : List Reading) (s t : State) (places : DeferredTarget → Option ℕ) → t.bytes ≡ s.bytes ++ nops_bytes nops → t.notices ≡ s.notices → Filled readings (length s.bytes) s places → FilledUp readings t places
filled_up [] readings s t places bytes notices h =
    let same : t.bytes ≡ s.bytes = bytes ∙ append-nil s.bytes in
    let laid : Laid (whole_pieces readings) (length s.bytes) t places = stays_as (whole_pieces readings) (length s.bytes) s t places places same notices (λ target. refl) (filled_is_laid readings (length s.bytes) s places h) in
    record {
      more = [];
      nops = tt;
      filled = subst (λ (n : ℕ). Filled (readings ++ []) n t places) (ap length (sym same)) (rw (append-nil readings) (laid_is_filled readings (length s.bytes) t places laid));
    }
filled_up (nop ∷ nops) readings s t places bytes notices h =
    let on = one_filled nop readings s places h in
    let later : FilledUp (readings ++ on.reading ∷ []) t places = filled_up nops (readings ++ on.reading ∷ []) (with_nop nop s) t places (bytes ∙ sym (append_assoc s.bytes (nop_bytes nop) (nops_bytes nops))) notices on.filled in
    let joined : (readings ++ on.reading ∷ []) ++ later.more ≡ readings ++ (on.reading ∷ later.more) = append_assoc readings (on.reading ∷ []) later.more in
    record {
      more = on.reading ∷ later.more;
      nops = ((nop, on.same), later.nops);
      filled = subst (λ (z : List Reading). Filled z (length t.bytes) t places) joined later.filled;
    }

-- Filled up to the next multiple.

pub record Aligned (size : ℕ) (s t : State) : Type 0 where
  pub multiple : length t.bytes % size ≡ 0
  pub nearest : length t.bytes < length s.bytes + size
  pub adds : AddsPadding s t
  pub nops : List Nop
  pub puts : PutsBytes (nops_bytes nops) s t
  pub byte_room : FallsBy s.byte_room t.byte_room (missing_to (length s.bytes) size)

pub aligned_by_padding : (size len : ℕ) (s u t : State) → AsBefore s u → Keeps s u → PutsPadding len u t → len ≡ missing_to (length s.bytes) size → 1 ≤ size → Aligned size s t
aligned_by_padding size len s u t before keeps h is least =
    let nops : List Nop = padding h.nines h.rest in
    let puts : PutsBytes (nops_bytes nops) s t = puts_after (nops_bytes nops) s u t before keeps h.puts in
    let all : length (nops_bytes nops) ≡ missing_to (length s.bytes) size = h.len_is ∙ is in
    let sum : length t.bytes ≡ length s.bytes + missing_to (length s.bytes) size = ap length puts.bytes ∙ length-append s.bytes (nops_bytes nops) ∙ ap (λ (n : ℕ). length s.bytes + n) all in
    let few : missing_to (length s.bytes) size < size = missing_below (length s.bytes) size least in
    record {
      multiple = ap (λ (n : ℕ). n % size) sum ∙ aligned (length s.bytes) size least;
      nearest = omega (arith, sum, few);
      adds = record { nines = h.nines; rest = h.rest; short = h.short; bytes = puts.bytes; notices = puts.notices };
      nops = nops;
      puts = puts;
      byte_room = subst (λ (n : ℕ). FallsBy s.byte_room t.byte_room n) all puts.byte_room;
    }
