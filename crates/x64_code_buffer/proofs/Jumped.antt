use Rattle.std.proofs.Common.{◌≡◌, ℕ, ◌+◌, ◌-◌, ◌≤◌, arith, refl, ◌∙◌, ap, sym, List, [], ◌++◌, append-nil, Bool, true, Option, Some, None, Result, Ok, Err, ℤ, pos, length}
use Rattle.std.specs.Prelude.{if◌then◌else◌, IfErr, IfSome, IsOk, IsSome, OnErr, OnOk}
use Rattle.cax64_encoder.specs.Code.{code_actions}
use Rattle.cax64_encoder.specs.declared.code.Code.{Code}
use Rattle.cax64_machine_code.specs.Fields.{IsBytes}
use Rattle.cax64_machine_code.specs.Len.{len_of, line_len, opcode_len, prefix_len}
use Rattle.cax64_machine_code.specs.Line.{imm_bytes}
use Rattle.cax64_machine_code.specs.ReadLine.{ReadsLineAs}
use Rattle.cax64_machine_code.specs.Rows.{line_of}
use Rattle.cax64_machine_code.specs.declared.line.Line.{Line}
use Rattle.cax64_machine_code.specs.declared.line.PrefixField.{PrefixField}
use Rattle.cax64_machine_code.specs.declared.line.PrefixField.TheVariants.{LegacyField, VexField}
use Rattle.cax64_machine_code.specs.declared.reading.Reading.{Reading}
use Rattle.cax64_machine_code.specs.declared.row.Row.{Row}
use Rattle.cax64_sink.proofs.Ends.{ran_keeps}
use Rattle.cax64_sink.proofs.Rooms.{less_room, notes_is_length, ran_byte_room, ran_notice_room, ran_succeeds, size_is_length}
use Rattle.cax64_sink.proofs.Runs.{ran_bytes, ran_notices}
use Rattle.cax64_sink.specs.Keeps.{Keeps}
use Rattle.cax64_sink.specs.Room.{FallsBy, HasRoom}
use Rattle.cax64_sink.specs.Run.{Ran, all_bytes, byte_total, notice_total}
use Rattle.cax64_sink.specs.Sink.{State}
use Rattle.cax64_sink.specs.declared.DeferredTarget.{DeferredTarget}
use Rattle.cax64_sink.specs.declared.Notice.{Notice}
use Rattle.cax64_sink.specs.declared.SinkError.{SinkError}
use Rattle.x64_code_buffer.proofs.Filling.{falls_after_none}
use Rattle.x64_code_buffer.proofs.Jumping.{jump_line, long_is}
use Rattle.x64_code_buffer.proofs.Laying.{laid_jump, laid_plain}
use Rattle.x64_code_buffer.proofs.Pieces.{filled_is_laid, laid_on_is_filled_on}
use Rattle.x64_code_buffer.specs.Buffer.{AsBefore}
use Rattle.x64_code_buffer.specs.Filled.{Filled, FilledOn}
use Rattle.x64_code_buffer.specs.Laid.{Laid, LaidOn, Piece, open_jump, whole, whole_pieces}
use Rattle.x64_code_buffer.specs.Jump.{AddsAt, AddsJump, WritesJump, jump_parts, long_row, told_at}
use Rattle.x64_code_buffer.specs.declared.jump.Jump.{Jump}

-- The code of a jump that is put once there is room.

pub record JumpPut (line : Line) (z : ℤ) (target : Option DeferredTarget) (s t : State) (r : Result (Unit {0}) SinkError) : Type 0 where
  pub ok : r ≡ Ok tt
  pub added : List ℕ
  pub bytes : t.bytes ≡ s.bytes ++ added
  pub are_bytes : IsBytes added
  pub reads : ReadsLineAs (jump_parts line z) added
  pub notices : t.notices ≡ s.notices ++ told_at target (length s.bytes + length added - 4)
  pub byte_room : FallsBy s.byte_room t.byte_room (line_len line (jump_parts line z))
  pub notice_room : FallsBy s.notice_room t.notice_room (length (told_at target 0))
  pub keeps : Keeps s t
  pub length : length added ≡ line_len line (jump_parts line z)

is_ok_is : (r : Result (Unit {0}) SinkError) → IsOk r → r ≡ Ok tt
is_ok_is (Ok tt) h = refl
is_ok_is (Err e) h = cc

few_told : (target : Option DeferredTarget) (at : ℕ) → length (told_at target at) ≤ 1
few_told None at = omega arith
few_told (Some target) at = omega arith

told_alike : (target : Option DeferredTarget) (at other : ℕ) → length (told_at target at) ≡ length (told_at target other)
told_alike None at other = refl
told_alike (Some target) at other = refl

if_true : (b : Bool) (x y : List Notice) → b ≡ true → (if b then x else y) ≡ x
if_true b x y e = rw e refl

pub jump_put : (line : Line) (z : ℤ) (target : Option DeferredTarget) (code : Code) (s u t : State) (r : Result (Unit {0}) SinkError) → WritesJump line z target code → AsBefore s u → u.records ≡ true → u.records ≡ s.records → u.answers ≡ s.answers → HasRoom u.byte_room 13 → HasRoom u.notice_room 1 → Ran (code_actions code) u t r → JumpPut line z target s t r
jump_put line z target code s u t r h before records same_records same_answers bytes told run =
    let acts = code_actions code in
    let added : List ℕ = all_bytes acts in
    let few_bytes : byte_total acts ≤ 13 = omega (arith, size_is_length acts, h.reads.length, h.reads.most) in
    let notes : notice_total acts ≡ length (told_at target 0) = notes_is_length acts 0 ∙ ap length (h.notices 0) ∙ told_alike target _ 0 in
    let few_notes : notice_total acts ≤ 1 = omega (arith, notes, few_told target 0) in
    let ok : r ≡ Ok tt = is_ok_is r (ran_succeeds run (less_room u.byte_room 13 (byte_total acts) few_bytes bytes) (less_room u.notice_room 1 (notice_total acts) few_notes told)) in
    let size : byte_total acts ≡ line_len line (jump_parts line z) = size_is_length acts ∙ h.length in
    let byte_fall : FallsBy u.byte_room t.byte_room (line_len line (jump_parts line z)) = rw size at (ran_byte_room run) in
    let notice_fall : FallsBy u.notice_room t.notice_room (length (told_at target 0)) = rw notes at (ran_notice_room run) in
    let keeps = ran_keeps run in
    let told_all : t.notices ≡ s.notices ++ told_at target (length s.bytes + length added - 4) =
    ran_notices run ok ∙ if_true u.records _ _ records ∙ ap (λ (x : List Notice). u.notices ++ x) (h.notices (length u.bytes))
    ∙ ap (λ (x : List ℕ). u.notices ++ told_at target (length x + length added - 4)) before.bytes
    ∙ ap (λ (x : List Notice). x ++ told_at target (length s.bytes + length added - 4)) before.notices in
    record {
      ok = ok;
      added = added;
      bytes = ran_bytes run ok ∙ ap (λ (x : List ℕ). x ++ added) before.bytes;
      are_bytes = h.are_bytes;
      reads = h.reads;
      length = h.length;
      notices = told_all;
      byte_room = falls_after_none s.byte_room u.byte_room t.byte_room (line_len line (jump_parts line z)) before.byte_room byte_fall;
      notice_room = falls_after_none s.notice_room u.notice_room t.notice_room (length (told_at target 0)) before.notice_room notice_fall;
      keeps = record { offsets = keeps.offsets ∙ before.offsets; records = keeps.records ∙ same_records; answers = keeps.answers ∙ same_answers };
    }

pub on_ok : {E P : Type 0} (r : Result (Unit {0}) E) → P → OnOk r P
on_ok (Ok tt) h = h
on_ok (Err e) h = tt

pub no_err : {E : Type 0} (P : Type 0) (r : Result (Unit {0}) E) → r ≡ Ok tt → OnErr r P
no_err P (Ok v) h = tt
no_err P (Err e) h = cc

pub no_error : {E : Type 0} (P : E → Type 0) (r : Result (Unit {0}) E) → r ≡ Ok tt → IfErr r P
no_error P (Ok v) h = tt
no_error P (Err e) h = cc

prefix_same : (prefix : PrefixField) (line : Line) (row : Row) (z : ℤ) → prefix_len prefix line (jump_parts line z) ≡ prefix_len prefix line (jump_parts row z)
prefix_same (LegacyField set rexed) line row z = refl
prefix_same (VexField pp map l field) line row z = refl

-- as many bytes by a row as by its line
pub len_same : (row : Row) (z : ℤ) → line_len (line_of row) (jump_parts (line_of row) z) ≡ len_of (jump_parts row z)
len_same row z = ap (λ (n : ℕ). n + (opcode_len (line_of row).opcode + (0 + imm_bytes (line_of row).imm))) (prefix_same (line_of row).prefix (line_of row) row z)

pub adds_at : (row : Row) (z : ℤ) (s t : State) (r : Result (Unit {0}) SinkError) → JumpPut (line_of row) z None s t r → AddsAt row z s t
adds_at row z s t r h = record {
  added = h.added;
  bytes = h.bytes;
  are_bytes = h.are_bytes;
  reads = h.reads;
  length = h.length ∙ len_same row z;
  notices = h.notices ∙ append-nil s.notices;
}

pub adds_jump : (jump : Jump) (target : DeferredTarget) (s t : State) (r : Result (Unit {0}) SinkError) → JumpPut (line_of (long_row jump)) (pos 0) (Some target) s t r → AddsJump jump target s t
adds_jump jump target s t r h = record {
  added = h.added;
  bytes = h.bytes;
  are_bytes = h.are_bytes;
  reads = h.reads;
  length = h.length ∙ len_same (long_row jump) (pos 0);
  notices = h.notices;
}

-- A buffer that was laid out is laid out with a jump more.

pub laid_at : (row : Row) (z : ℤ) (pieces : List Piece) (s t : State) (places : DeferredTarget → Option ℕ) → AddsAt row z s t → Laid pieces (length s.bytes) s places → LaidOn whole (jump_parts (line_of row) z) pieces t places
laid_at row z pieces s t places adds h =
    laid_plain (jump_parts (line_of row) z) pieces s t places places adds.added [] adds.reads adds.bytes (adds.notices ∙ sym (append-nil s.notices)) refl refl (λ target. refl) h

pub filled_at : (row : Row) (z : ℤ) (readings : List Reading) (s t : State) (places : DeferredTarget → Option ℕ) → AddsAt row z s t → Filled readings (length s.bytes) s places → FilledOn (jump_parts row z) readings t places
filled_at row z readings s t places adds h =
    laid_on_is_filled_on (jump_parts row z) readings t places (laid_at row z (whole_pieces readings) s t places adds (filled_is_laid readings (length s.bytes) s places h))

pub laid_open : (jump : Jump) (target : DeferredTarget) (pieces : List Piece) (s t : State) (places : DeferredTarget → Option ℕ) → AddsJump jump target s t → Laid pieces (length s.bytes) s places → LaidOn open_jump (jump_parts (line_of (long_row jump)) (pos 0)) pieces t places
laid_open jump target pieces s t places adds h =
    let line : line_of (long_row jump) ≡ jump_line (line_of (long_row jump)).opcode 4 = (long_is jump).is in
    laid_jump (jump_parts (line_of (long_row jump)) (pos 0)) pieces s t places places adds.added target adds.reads (ap (λ (l : Line). l.tail) line) (ap (λ (l : Line). l.imm) line) refl adds.bytes adds.notices (λ target. refl) h

-- The short form, where there is one.

pub record NearPut (o : Option Row) (z : ℤ) (s t : State) (r : Result (Unit {0}) SinkError) : Type 0 where
  pub row : Row
  pub is : o ≡ Some row
  pub put : JumpPut (line_of row) z None s t r

pub near_put : (o : Option Row) (z : ℤ) (code : Code) (s u t : State) (r : Result (Unit {0}) SinkError) → IsSome o → IfSome o (λ row. WritesJump (line_of row) z None code) → AsBefore s u → u.records ≡ true → u.records ≡ s.records → u.answers ≡ s.answers → HasRoom u.byte_room 13 → HasRoom u.notice_room 1 → Ran (code_actions code) u t r → NearPut o z s t r
near_put None z code s u t r some h before records same_records same_answers bytes told run = cc
near_put (Some row) z code s u t r some h before records same_records same_answers bytes told run = record {
  row = row;
  is = refl;
  put = jump_put (line_of row) z None code s u t r h before records same_records same_answers bytes told run;
}

pub at_some : (P : Row → Type 0) (o : Option Row) (row : Row) → o ≡ Some row → P row → IfSome o P
at_some P o row is h = rw is h

pub of_some : (P : Row → Type 0) (o : Option Row) (row : Row) → o ≡ Some row → IfSome o P → P row
of_some P o row is h = rw is at h
