use Rattle.std.proofs.Common.{◌≡◌, ◌≢◌, ◌⊎◌, inl, inr, ℕ, suc, zero, ◌+◌, ◌-◌, ◌≤◌, arith, refl, ◌∙◌, ap, sym, List, [], ◌∷◌, ◌++◌, Option, Some, None, Result, Ok, Err, Bool, true, false, length, take, drop, append-nil, subst}
use Rattle.std.specs.Prelude.{if◌then◌else◌, is_ok, OnOk, OnErr}
use Rattle.std.proofs.lemmas.Bool.{cases_lt}
use Rattle.std.proofs.lemmas.List.{length-append, take-append-le}
use Rattle.cax64_address.specs.declared.amode.Amode.{Amode}
use Rattle.cax64_address.specs.declared.amode.Amode.TheVariants.{ImmReg, ImmRegRegShift, RipRelative}
use Rattle.cax64_encoder.specs.EncodesLine.{line_notices_of}
use Rattle.cax64_encoder.specs.Notices.{memory_notices, trap_notice}
use Rattle.cax64_encoder.specs.Relative.{relative_in, unsettled}
use Rattle.cax64_machine_code.specs.Line.{imm_bytes}
use Rattle.cax64_machine_code.specs.Reading.{PartsOf, read}
use Rattle.cax64_machine_code.specs.ReadLine.{LineReading}
use Rattle.cax64_machine_code.specs.Sequence.{read_all}
use Rattle.cax64_machine_code.specs.declared.line.ImmField.{ImmField}
use Rattle.cax64_machine_code.specs.declared.line.Line.{Line}
use Rattle.cax64_machine_code.specs.declared.reading.Place.{Place}
use Rattle.cax64_machine_code.specs.declared.reading.Place.TheVariants.{Reg, Mem, Rip}
use Rattle.cax64_machine_code.specs.declared.reading.Reading.{Reading}
use Rattle.cax64_sink.proofs.RecordedPuts.{OnlyPuts, only_puts}
use Rattle.cax64_sink.specs.Call.{Action, Step, bytes_of, notice_of, put}
use Rattle.cax64_sink.specs.Call as call
use Rattle.cax64_sink.proofs.Rooms.{less_room}
use Rattle.cax64_sink.specs.Rest.{RanRoomier}
use Rattle.cax64_sink.specs.Room.{Room, FallsBy}
use Rattle.cax64_sink.specs.Puts.{puts}
use Rattle.cax64_sink.specs.Run.{Went, Ran}
use Rattle.cax64_sink.specs.Sink.{State}
use Rattle.cax64_sink.specs.declared.Constant.{Constant}
use Rattle.cax64_sink.specs.declared.DeferredTarget.{DeferredTarget}
use Rattle.cax64_sink.specs.declared.DeferredTarget.TheVariants as target
use Rattle.cax64_sink.specs.declared.Label.{Label}
use Rattle.cax64_sink.specs.declared.Notice.{Notice}
use Rattle.cax64_sink.specs.declared.Notice.TheVariants.{Target}
use Rattle.cax64_sink.specs.declared.SinkError.{SinkError}
use Rattle.cax64_sink.specs.declared.TrapCode.{TrapCode}
use Rattle.x64_code_buffer.specs.Binding.{AddsBinding}
use Rattle.x64_code_buffer.specs.Buffer.{StaysBefore, StaysFilled, buffer_state, places_of}
use Rattle.x64_code_buffer.specs.Filled.{Unpatched, ReadsEach, places_told}
use Rattle.x64_code_buffer.specs.Laid.{Piece, whole, whole_pieces, line_field_at, line_field_place, line_imm_behind, PieceBegins, Laid, LaidOn}
use Rattle.x64_code_buffer.specs.Use.{Use, uses_of}
use Rattle.x64_code_buffer.specs.declared.buffer.CodeBuffer.{CodeBuffer}
use Rattle.x64_code_buffer.proofs.Laying.{uses_more, laid_whole}
use Rattle.x64_code_buffer.proofs.Pieces.{filled_is_laid, laid_is_filled}
use Rattle.x64_encode.specs.Encode.{AddsMeant, LineMeant, ReadsRelativeBy}

-- Unpatched places.

unpatched_by : {M : Type 0} (memory : Option (Amode M)) (imm : ImmField) (place : Option Place) → relative_in place ≡ unsettled memory imm → Unpatched (imm_bytes imm) place
unpatched_by memory imm None h = tt
unpatched_by memory imm (Some (Reg view)) h = tt
unpatched_by memory imm (Some (Mem base index disp)) h = tt
unpatched_by None imm (Some (Rip disp)) h = cc
unpatched_by (Some (ImmReg base simm32 trap)) imm (Some (Rip disp)) h = cc
unpatched_by (Some (ImmRegRegShift base index scale simm32 trap)) imm (Some (Rip disp)) h = cc
unpatched_by (Some (RipRelative target)) imm (Some (Rip disp)) h = cc

no_use : (trap : Option TrapCode) (at : ℕ) → uses_of (trap_notice trap at) ≡ []
no_use None at = refl
no_use (Some code) at = refl

told_by : {M : Type 0} (memory : Option (Amode M)) (imm : ImmField) (place : Option Place) (at : ℕ) (r : LineReading) → relative_in place ≡ unsettled memory imm → places_told (uses_of (line_notices_of memory at r)) ≡ line_field_at at r place
told_by None imm None at r h = refl
told_by None imm (Some (Reg view)) at r h = refl
told_by None imm (Some (Mem base index disp)) at r h = refl
told_by None imm (Some (Rip disp)) at r h = cc
told_by (Some (ImmReg base simm32 trap)) imm None at r h = ap places_told (no_use trap at)
told_by (Some (ImmReg base simm32 trap)) imm (Some (Reg view)) at r h = ap places_told (no_use trap at)
told_by (Some (ImmReg base simm32 trap)) imm (Some (Mem b i disp)) at r h = ap places_told (no_use trap at)
told_by (Some (ImmReg base simm32 trap)) imm (Some (Rip disp)) at r h = cc
told_by (Some (ImmRegRegShift base index scale simm32 trap)) imm None at r h = ap places_told (no_use trap at)
told_by (Some (ImmRegRegShift base index scale simm32 trap)) imm (Some (Reg view)) at r h = ap places_told (no_use trap at)
told_by (Some (ImmRegRegShift base index scale simm32 trap)) imm (Some (Mem b i disp)) at r h = ap places_told (no_use trap at)
told_by (Some (ImmRegRegShift base index scale simm32 trap)) imm (Some (Rip disp)) at r h = cc
told_by (Some (RipRelative target)) imm None at r h = cc
told_by (Some (RipRelative target)) imm (Some (Reg view)) at r h = cc
told_by (Some (RipRelative target)) imm (Some (Mem b i disp)) at r h = cc
told_by (Some (RipRelative target)) imm (Some (Rip disp)) at r h =
    let e : at + (r.length - r.tail - line_imm_behind r) + 1 ≡ at + line_field_place r = omega arith in
    ap (λ (n : ℕ). n ∷ []) e

-- A buffer that stays laid out.

pub stays : (pieces : List Piece) (n : ℕ) (s t : State) (old new : DeferredTarget → Option ℕ) (more : List ℕ) → t.bytes ≡ s.bytes ++ more → places_told (uses_of t.notices) ≡ places_told (uses_of s.notices) → ((target : DeferredTarget) → new target ≡ old target) → Laid pieces n s old → Laid pieces n t new
stays pieces n s t old new more bytes told same h =
    let within : n ≤ length s.bytes = h.within in
    let len : length t.bytes ≡ length s.bytes + length more = ap length bytes ∙ length-append s.bytes more in
    let front : take n t.bytes ≡ take n s.bytes = ap (take n) bytes ∙ take-append-le n s.bytes more within in
    record {
      within = omega arith;
      reads = rw front h.reads;
      opened = h.opened;
      told = told ∙ h.told;
      bound = λ target place e. let b = h.bound target place (sym (same target) ∙ e) in (b.0, omega (arith, b.1));
    }

-- and so it stays filled
pub stays_both : {A : Type 0} (old new : CodeBuffer A) → ((pieces : List Piece) (n : ℕ) → Laid pieces n (buffer_state old) (places_of old) → Laid pieces n (buffer_state new) (places_of new)) → StaysFilled old new
stays_both old new h = record {
  filled = λ readings n f. laid_is_filled readings n (buffer_state new) (places_of new) (h (whole_pieces readings) n (filled_is_laid readings n (buffer_state old) (places_of old) f));
  laid = h;
}

-- What is filled reads, and nothing is left.

pub one_read : (b : List ℕ) (n : ℕ) → n ≤ length b → take n b ++ drop n b ≡ b
one_read b zero h = refl
one_read [] (suc n) h = refl
one_read (byte ∷ b) (suc n) h = ap (λ (z : List ℕ). byte ∷ z) (one_read b n (omega arith))

pub all_read : (rs : List Reading) (b : List ℕ) → ReadsEach rs b → read_all b (length rs) ≡ Some (rs, [])
unfolding read_all
all_read [] b h = rw h refl
all_read (r ∷ rs) b h =
    let first : read b ≡ Some r = ap read (sym (one_read b r.length h.2)) ∙ h.0 (drop r.length b) in
    rw (first, all_read rs (drop r.length b) h.3) refl

-- A binding more.

same_number : (n m : ℕ) → (n ≡ m) ⊎ (n ≢ m)
same_number n m = elim (cases_lt n m) as (λ _. (n ≡ m) ⊎ (n ≢ m)) [
  | inl h ↦ inr (λ e. omega arith)
  | inr h ↦ elim (cases_lt m n) as (λ _. (n ≡ m) ⊎ (n ≢ m)) [ inl k ↦ inr (λ e. omega arith) | inr k ↦ inl (omega arith) ]
]

same_label : (a b : Label) → (a.0 ≡ b.0) ⊎ (a.0 ≢ b.0) → ◌≡◌ {A = DeferredTarget} (target.Label a) (target.Label b) ⊎ (◌≡◌ {A = DeferredTarget} (target.Label a) (target.Label b) → ⊥)
same_label a b (inl h) = let e : a ≡ b = ap (λ (n : ℕ). record { 0 = n }) h in inl (ap target.Label e)
same_label a b (inr h) = inr (λ e. let f : a ≡ b = cc in h (ap (λ (z : Label). z.0) f))

same_constant : (a b : Constant) → (a.0 ≡ b.0) ⊎ (a.0 ≢ b.0) → ◌≡◌ {A = DeferredTarget} (target.Constant a) (target.Constant b) ⊎ (◌≡◌ {A = DeferredTarget} (target.Constant a) (target.Constant b) → ⊥)
same_constant a b (inl h) = let e : a ≡ b = ap (λ (n : ℕ). record { 0 = n }) h in inl (ap target.Constant e)
same_constant a b (inr h) = inr (λ e. let f : a ≡ b = cc in h (ap (λ (z : Constant). z.0) f))

same_target : (a b : DeferredTarget) → (a ≡ b) ⊎ (a ≢ b)
same_target (target.Label a) (target.Label b) = same_label a b (same_number a.0 b.0)
same_target (target.Label a) (target.Constant b) = inr (λ e. cc)
same_target (target.Label a) target.None = inr (λ e. cc)
same_target (target.Constant a) (target.Label b) = inr (λ e. cc)
same_target (target.Constant a) (target.Constant b) = same_constant a b (same_number a.0 b.0)
same_target (target.Constant a) target.None = inr (λ e. cc)
same_target target.None (target.Label b) = inr (λ e. cc)
same_target target.None (target.Constant b) = inr (λ e. cc)
same_target target.None target.None = inl refl

some_same : (a b : ℕ) → ◌≡◌ {A = Option ℕ} (Some a) (Some b) → a ≡ b
some_same a b e = cc

pub bound_more : (pieces : List Piece) (n : ℕ) (s : State) (old new : DeferredTarget → Option ℕ) (t : DeferredTarget) → AddsBinding t (length s.bytes) old new → Laid pieces n s old → Laid pieces n s new
bound_more pieces n s old new t adds h = record {
  within = h.within;
  reads = h.reads;
  opened = h.opened;
  told = h.told;
  bound = λ other place e. by_target other place e (same_target other t);
}
  where
    by_target : (other : DeferredTarget) (place : ℕ) → new other ≡ Some place → (other ≡ t) ⊎ (other ≢ t) → (PieceBegins 0 pieces place ⊎ (n ≤ place)) × (place ≤ length s.bytes)
    by_target other place e (inl k) =
        let p : length s.bytes ≡ place = some_same _ _ (sym adds.bound ∙ ap new (sym k) ∙ e) in
        let within : n ≤ length s.bytes = h.within in
        (inr (omega arith), omega arith)
    by_target other place e (inr k) = h.bound other place (sym (adds.others other k) ∙ e)

pub bound_if : {E : Type 0} (pieces : List Piece) (n : ℕ) (s : State) (old new : DeferredTarget → Option ℕ) (t : DeferredTarget) (r : Result (Unit {0}) E) → OnOk r (AddsBinding t (length s.bytes) old new) → OnErr r ((other : DeferredTarget) → new other ≡ old other) → Laid pieces n s old → Laid pieces n s new
bound_if pieces n s old new t (Ok tt) adds same h = bound_more pieces n s old new t adds h
bound_if pieces n s old new t (Err e) adds same h = stays pieces n s s old new [] (sym (append-nil s.bytes)) refl same h

-- after a put, or a trap that is told
put_bytes : {E : Type 0} (r : Result (Unit {0}) E) (a b : List ℕ) → (if is_ok r then a ++ b else a) ≡ a ++ (if is_ok r then b else [])
put_bytes (Ok tt) a b = refl
put_bytes (Err e) a b = sym (append-nil a)

told_same : {E : Type 0} (r : Result (Unit {0}) E) (records : Bool) (a b : List Notice) → uses_of b ≡ [] → places_told (uses_of (if is_ok r then (if records then a ++ b else a) else a)) ≡ places_told (uses_of a)
told_same (Ok tt) true a b e = uses_more a b ∙ ap (λ (z : List Use). places_told (uses_of a) ++ places_told z) e ∙ append-nil (places_told (uses_of a))
told_same (Ok tt) false a b e = refl
told_same (Err x) records a b e = refl

pub stepped : (act : Action) (pieces : List Piece) (n : ℕ) (s t : State) (r : Result (Unit {0}) SinkError) (old new : DeferredTarget → Option ℕ) → ((at : ℕ) → uses_of (notice_of act at) ≡ []) → Step act s t r → ((target : DeferredTarget) → new target ≡ old target) → Laid pieces n s old → Laid pieces n t new
stepped act pieces n s t r old new none step same h =
    stays pieces n s t old new (if is_ok r then bytes_of act else []) (step.bytes ∙ put_bytes r s.bytes (bytes_of act))
    (ap (λ z. places_told (uses_of z)) step.notices ∙ told_same r s.records s.notices (notice_of act (length s.bytes)) (none (length s.bytes))) same h

-- after bytes that are put
went_put : (acts : List Action) (pieces : List Piece) (n : ℕ) (s t : State) (r : Result (Unit {0}) SinkError) (places : DeferredTarget → Option ℕ) → OnlyPuts acts → Went acts s t r → Laid pieces n s places → Laid pieces n t places
unfolding Went
went_put [] pieces n s t r places only (_, same) h = subst (λ (x : State). Laid pieces n x places) same h
went_put (put bytes ∷ acts) pieces n s t r places only (inl (u, step, rest)) h = went_put acts pieces n u t r places only rest (stepped (put bytes) pieces n s u (Ok tt) places places (λ at. refl) step (λ target. refl) h)
went_put (put bytes ∷ acts) pieces n s t r places only (inr (e, is, step)) h = stepped (put bytes) pieces n s t (Err e) places places (λ at. refl) step (λ target. refl) h
went_put (call.trap code ∷ acts) pieces n s t r places only run h = absurd only
went_put (call.target place ∷ acts) pieces n s t r places only run h = absurd only

pub put_in_turn : (bytes : List ℕ) (pieces : List Piece) (n : ℕ) (s t : State) (r : Result (Unit {0}) SinkError) (places : DeferredTarget → Option ℕ) → Ran (puts bytes) s t r → Laid pieces n s places → Laid pieces n t places
put_in_turn bytes pieces n s t r places run h = went_put (puts bytes) pieces n s t r places (only_puts bytes) run.went h

pub stays_as : (pieces : List Piece) (n : ℕ) (s t : State) (old new : DeferredTarget → Option ℕ) → t.bytes ≡ s.bytes → t.notices ≡ s.notices → ((target : DeferredTarget) → new target ≡ old target) → Laid pieces n s old → Laid pieces n t new
stays_as pieces n s t old new bytes notices same h = stays pieces n s t old new [] (bytes ∙ sym (append-nil s.bytes)) (ap (λ z. places_told (uses_of z)) notices) same h

-- after bytes that are put, and room for others
pub put_roomier : (acts : List Action) (pieces : List Piece) (n : ℕ) (s t : State) (r : Result (Unit {0}) SinkError) (places : DeferredTarget → Option ℕ) → OnlyPuts acts → RanRoomier acts s t r → Laid pieces n s places → Laid pieces n t places
put_roomier acts pieces n s t r places only run h =
    stays_as pieces n run.between t places places run.roomier.bytes run.roomier.notices (λ target. refl) (went_put acts pieces n s run.between r places only run.ran.went h)

-- An instruction that is put once there is room.

-- a room that is no smaller, and then falls by so many
pub falls_after_none : (r q p : Room) (n : ℕ) → FallsBy r q 0 → FallsBy q p n → FallsBy r p n
falls_after_none r q p n first second k h = second k (first (k + n) (less_room r (k + n) (k + n + 0) (omega arith) h))

pub if_ok : {E P Q : Type 0} (r : Result (Unit {0}) E) → (P → Q) → OnOk r P → OnOk r Q
if_ok (Ok tt) f h = f h
if_ok (Err e) f h = tt

pub meant_laid : {M : Type 0} (m : LineMeant M) (pieces : List Piece) (s t : State) (old new : DeferredTarget → Option ℕ) → s.records ≡ true → ((target : DeferredTarget) → new target ≡ old target) → ReadsRelativeBy m → Laid pieces (length s.bytes) s old → AddsMeant m s t → LaidOn whole m.parts pieces t new
meant_laid m pieces s t old new records same relative h adds =
    let reads = adds.reads in
    let r : LineReading = reads.reading in
    let told : List Notice = line_notices_of m.memory (length s.bytes) r in
    let notices : t.notices ≡ s.notices ++ told = adds.notices ∙ ap (λ (z : Bool). if z then s.notices ++ told else s.notices) records in
    let line : r.line ≡ m.parts.row = ap (λ (p : PartsOf Line). p.row) reads.same in
    let place : r.place ≡ m.parts.place = ap (λ (p : PartsOf Line). p.place) reads.same in
    let is : relative_in r.place ≡ unsettled m.memory r.line.imm = ap relative_in place ∙ relative ∙ ap (λ (l : Line). unsettled m.memory l.imm) (sym line) in
    laid_whole m.parts pieces s t old new adds.added told reads adds.bytes notices
    (told_by m.memory r.line.imm r.place (length s.bytes) r is)
    (unpatched_by m.memory r.line.imm r.place is) same h

-- it has a notice at most
pub few_notices : {M : Type 0} (memory : Option (Amode M)) → memory_notices memory ≤ 1
few_notices None = omega arith
few_notices (Some (ImmReg base simm32 None)) = omega arith
few_notices (Some (ImmReg base simm32 (Some code))) = omega arith
few_notices (Some (ImmRegRegShift base index scale simm32 None)) = omega arith
few_notices (Some (ImmRegRegShift base index scale simm32 (Some code))) = omega arith
few_notices (Some (RipRelative target)) = omega arith

-- and thirteen bytes
pub few_bytes : {M : Type 0} (m : LineMeant M) (s t : State) → AddsMeant m s t → m.len ≤ 13
few_bytes m s t adds = omega (arith, adds.length, adds.reads.length, adds.reads.most)

pub on_err : {E P : Type 0} (r : Result (Unit {0}) E) → P → OnErr r P
on_err (Ok tt) h = tt
on_err (Err e) h = h

-- A use that is told behind the others, where nothing is put.

told_last : (records : Bool) (s t : State) (at : ℕ) (goes_to : DeferredTarget) → records ≡ true → t.notices ≡ (if records then s.notices ++ Target at goes_to ∷ [] else s.notices) → places_told (uses_of t.notices) ≡ places_told (uses_of s.notices) ++ at ∷ []
told_last true s t at goes_to is h = ap (λ (z : List Notice). places_told (uses_of z)) h ∙ uses_more s.notices (Target at goes_to ∷ [])
told_last false s t at goes_to is h = cc

pub stays_before : {A : Type 0} (old new : CodeBuffer A) (at : ℕ) (goes_to : DeferredTarget) → (buffer_state old).records ≡ true → (buffer_state new).bytes ≡ (buffer_state old).bytes → (buffer_state new).notices ≡ (if (buffer_state old).records then (buffer_state old).notices ++ Target at goes_to ∷ [] else (buffer_state old).notices) → ((target : DeferredTarget) → places_of new target ≡ places_of old target) → StaysBefore (at ∷ []) old new
stays_before old new at goes_to records bytes notices same =
    let s : State = buffer_state old in
    let t : State = buffer_state new in
    let told : places_told (uses_of t.notices) ≡ places_told (uses_of s.notices) ++ at ∷ [] = told_last s.records s t at goes_to records notices in
    record {
      filled = λ readings n h. record {
        within = rw bytes h.within;
        reads = rw bytes h.reads;
        unpatched = h.unpatched;
        told = told ∙ ap (λ (z : List ℕ). z ++ at ∷ []) h.told;
        bound = λ target place e. rw bytes (h.bound target place (sym (same target) ∙ e));
      };
      laid = λ pieces n h. record {
        within = rw bytes h.within;
        reads = rw bytes h.reads;
        opened = h.opened;
        told = told ∙ ap (λ (z : List ℕ). z ++ at ∷ []) h.told;
        bound = λ target place e. rw bytes (h.bound target place (sym (same target) ∙ e));
      };
    }
