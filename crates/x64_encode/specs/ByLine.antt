-- Steps of the proofs: what is put of a row, said of its line.
use Rattle.std.proofs.Common.{◌≡◌, ℕ, refl, ◌∙◌, ap, sym, subst, ℤ, Option, Some, None, List, ◌++◌, Bool, length}
use Rattle.std.specs.Prelude.{if◌then◌else◌}
use Rattle.cax64_address.specs.declared.amode.Amode.{Amode}
use Rattle.cax64_address.specs.declared.amode.Amode.TheVariants.{ImmReg, ImmRegRegShift, RipRelative}
use Rattle.cax64_encoder.specs.EncodesLine.{line_notices_of}
use Rattle.cax64_encoder.specs.Instruction.{Adds, AddsInstruction, Leaves, LeavesInstruction, Meaning}
use Rattle.cax64_encoder.specs.Meant.{Meant}
use Rattle.cax64_encoder.specs.Notices.{notices_of}
use Rattle.cax64_machine_code.proofs.ReadLine.{reads_line}
use Rattle.cax64_machine_code.specs.ReadLine.{ReadsLineAs, parts_as, read_line, with_line}
use Rattle.cax64_machine_code.specs.Reading.{Parts}
use Rattle.cax64_machine_code.specs.Rows.{line_of}
use Rattle.cax64_machine_code.specs.Sequence.{ReadsAs}
use Rattle.cax64_machine_code.specs.declared.reading.Reading.{Reading}
use Rattle.cax64_machine_code.specs.declared.row.Row.{Row}
use Rattle.cax64_sink.specs.Sink.{State}
use Rattle.cax64_sink.specs.declared.Notice.{Notice}
use Rattle.x64_encode.specs.Encode.{AddsMeant, LeavesMeant, SamePut, by_line}

pub reads_by_line : (meant : Parts) (b : List ℕ) → ReadsAs meant b → ReadsLineAs (parts_as (line_of meant.row) meant) b
reads_by_line meant b h =
    let row : h.reading.row ≡ meant.row = ap (λ (p : Parts). p.row) h.same in
    record {
      reading = with_line h.reading;
      reads = λ rest. ap (λ (z : Row). read_line (line_of z) (b ++ rest)) (sym row) ∙ reads_line (b ++ rest) h.reading (h.reads rest);
      same = ap (λ (z : Parts). parts_as (line_of z.row) z) h.same;
      length = h.length;
      least = h.least;
      most = h.most;
    }

same_notices : {M : Type 0} (memory : Option (Amode M)) (at : ℕ) (r : Reading) → notices_of memory at r ≡ line_notices_of memory at (with_line r)
same_notices None at r = refl
same_notices (Some (ImmReg base simm32 trap)) at r = refl
same_notices (Some (ImmRegRegShift base index scale simm32 trap)) at r = refl
same_notices (Some (RipRelative target)) at r = refl

pub row_adds : {M : Type 0} (m : Meant M) (s t : State) → AddsInstruction m s t → AddsMeant (by_line m) s t
unfolding reads_by_line
row_adds m s t h = record {
  added = h.added;
  bytes = h.bytes;
  are_bytes = h.are_bytes;
  reads = reads_by_line m.parts h.added h.reads;
  notices = h.notices ∙ ap (λ (z : List Notice). if s.records then s.notices ++ z else s.notices) (same_notices m.memory (length s.bytes) h.reads.reading);
  length = h.length;
}

pub row_leaves : {M : Type 0} (m : Meant M) (s t : State) → LeavesInstruction m s t → LeavesMeant (by_line m) s t
unfolding reads_by_line
row_leaves m s t h = record {
  left = h.left;
  whole = h.whole;
  bytes = h.bytes;
  are_bytes = h.are_bytes;
  reads = reads_by_line m.parts h.whole h.reads;
  front = h.front;
  told_left = h.told_left;
  told_later = h.told_later;
  notices = h.notices;
  notices_front = h.notices_front ∙ same_notices m.memory (length s.bytes) h.reads.reading;
  length = h.length;
}

told_from : {M : Type 0} (memory : Option (Amode M)) (s u : State) (r : Reading) → SamePut s u → (if u.records then u.notices ++ notices_of memory (length u.bytes) r else u.notices) ≡ (if s.records then s.notices ++ notices_of memory (length s.bytes) r else s.notices)
told_from memory s u r same =
    ap (λ (z : List ℕ). if u.records then u.notices ++ notices_of memory (length z) r else u.notices) same.bytes
    ∙ ap (λ (z : List Notice). if u.records then z ++ notices_of memory (length s.bytes) r else z) same.notices
    ∙ ap (λ (z : Bool). if z then s.notices ++ notices_of memory (length s.bytes) r else s.notices) same.records

at_start : {M : Type 0} (m : Meant M) (s u t : State) → SamePut s u → AddsInstruction m u t → AddsInstruction m s t
at_start m s u t same h = record {
  added = h.added;
  bytes = h.bytes ∙ ap (λ (z : List ℕ). z ++ h.added) same.bytes;
  are_bytes = h.are_bytes;
  reads = h.reads;
  notices = h.notices ∙ told_from m.memory s u h.reads.reading same;
  shortest = h.shortest;
  length = h.length;
  exact = h.exact;
}

pub adds_from : {M : Type 0} (meaning : Meaning M) (s u t : State) → SamePut s u → Adds meaning u t → Adds meaning s t
adds_from meaning s u t same h = subst (λ (o : ℕ → Option ℤ). AddsInstruction (meaning o) s t) same.offsets (at_start (meaning u.offsets) s u t same h)

told_left_from : (s u : State) (told : List Notice) → SamePut s u → (if u.records then u.notices ++ told else u.notices) ≡ (if s.records then s.notices ++ told else s.notices)
told_left_from s u told same =
    ap (λ (z : List Notice). if u.records then z ++ told else z) same.notices
    ∙ ap (λ (z : Bool). if z then s.notices ++ told else s.notices) same.records

left_at_start : {M : Type 0} (m : Meant M) (s u t : State) → SamePut s u → LeavesInstruction m u t → LeavesInstruction m s t
left_at_start m s u t same h = record {
  left = h.left;
  whole = h.whole;
  bytes = h.bytes ∙ ap (λ (z : List ℕ). z ++ h.left) same.bytes;
  are_bytes = h.are_bytes;
  reads = h.reads;
  shortest = h.shortest;
  exact = h.exact;
  front = h.front;
  told_left = h.told_left;
  told_later = h.told_later;
  notices = h.notices ∙ told_left_from s u h.told_left same;
  notices_front = h.notices_front ∙ ap (λ (z : List ℕ). notices_of m.memory (length z) h.reads.reading) same.bytes;
  length = h.length;
}

pub leaves_from : {M : Type 0} (meaning : Meaning M) (s u t : State) → SamePut s u → Leaves meaning u t → Leaves meaning s t
leaves_from meaning s u t same h = subst (λ (o : ℕ → Option ℤ). LeavesInstruction (meaning o) s t) same.offsets (left_at_start (meaning u.offsets) s u t same h)
