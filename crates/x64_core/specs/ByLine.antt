-- Steps of the proofs: what is put of an instruction of the core, said of its line.
use Rattle.std.proofs.Common.{◌≡◌, ℕ, refl, ◌∙◌, ap, subst, ℤ, Option, Some, List, ◌++◌, Bool, length}
use Rattle.std.specs.Prelude.{◌≤◌, if◌then◌else◌}
use Rattle.cax64_address.specs.declared.amode.Amode.{Amode}
use Rattle.cax64_address.specs.declared.amode.Amode.TheVariants.{ImmReg, ImmRegRegShift, RipRelative}
use Rattle.cax64_encoder.specs.AddsLine.{AddsLine, LeavesLine}
use Rattle.cax64_encoder.specs.EncodesLine.{line_notices_of}
use Rattle.cax64_encoder.specs.Place.{memory_in, place_read}
use Rattle.cax64_encoder.specs.Relative.{relative_in, unsettled}
use Rattle.cax64_encoder.specs.declared.role.PlaceOperand.{PlaceOperand}
use Rattle.cax64_encoder.specs.declared.role.PlaceOperand.TheVariants.{NoPlace, Register, Memory}
use Rattle.cax64_machine_code.specs.Fields.{IsBytes}
use Rattle.cax64_machine_code.specs.Line.{imm_bytes}
use Rattle.cax64_machine_code.specs.ReadLine.{LineReading, read_line, read_of}
use Rattle.cax64_machine_code.specs.declared.line.ImmField.{ImmField}
use Rattle.cax64_shortest.specs.LineParts.{line_parts}
use Rattle.cax64_sink.specs.Sink.{State}
use Rattle.cax64_sink.specs.declared.Notice.{Notice}
use Rattle.x64_core.specs.Adds.{AddsCore, LeavesCore}
use Rattle.x64_core.specs.Core.{core_meant}
use Rattle.x64_lines.specs.Lines.{core_lines}
use Rattle.x64_core.specs.View.{CoreView}
use Rattle.x64_encode.specs.Encode.{AddsMeant, LeavesMeant, LineMeant, SamePut}

pub core_adds_meant : (v : CoreView) (s t : State) → AddsCore v s t → AddsMeant (core_meant v s.offsets) s t
core_adds_meant v s t h = record {
  added = h.line.added;
  bytes = h.line.bytes;
  are_bytes = h.line.are_bytes;
  reads = h.line.reads;
  notices = h.line.notices;
  length = h.line.length;
}

pub core_leaves_meant : (v : CoreView) (s t : State) → LeavesCore v s t → LeavesMeant (core_meant v s.offsets) s t
core_leaves_meant v s t h = record {
  left = h.left;
  whole = h.whole;
  bytes = h.bytes;
  are_bytes = h.are_bytes;
  reads = h.reads;
  front = h.front;
  told_left = h.told_left;
  told_later = h.told_later;
  notices = h.notices;
  notices_front = h.notices_front;
  length = h.length;
}

-- It doesn't depend on the sink's rooms.

-- what a sink has got of an instruction, for some offsets
record CoreAt (v : CoreView) (offsets : ℕ → Option ℤ) (old new : State) : Type 0 where
  pub line : AddsLine (core_meant v offsets).parts (core_meant v offsets).memory old new
  pub alone : (rest : List ℕ) → read_of core_lines (line.added ++ rest) ≡ Some line.reads.reading
  pub shortest : (bytes : List ℕ) (reading : LineReading)
      → IsBytes bytes → read_line (core_meant v offsets).parts.row bytes ≡ Some reading
      → line_parts reading ≡ (core_meant v offsets).parts
      → length line.added ≤ length bytes

told_from : {M : Type 0} (memory : Option (Amode M)) (s u : State) (r : LineReading) → SamePut s u → (if u.records then u.notices ++ line_notices_of memory (length u.bytes) r else u.notices) ≡ (if s.records then s.notices ++ line_notices_of memory (length s.bytes) r else s.notices)
told_from memory s u r same =
    ap (λ (z : List ℕ). if u.records then u.notices ++ line_notices_of memory (length z) r else u.notices) same.bytes
    ∙ ap (λ (z : List Notice). if u.records then z ++ line_notices_of memory (length s.bytes) r else z) same.notices
    ∙ ap (λ (z : Bool). if z then s.notices ++ line_notices_of memory (length s.bytes) r else s.notices) same.records

at_start : (v : CoreView) (s u t : State) → SamePut s u → AddsCore v u t → CoreAt v u.offsets s t
at_start v s u t same h =
    let m : LineMeant ℕ = core_meant v u.offsets in
    record {
      line = record {
        added = h.line.added;
        bytes = h.line.bytes ∙ ap (λ (z : List ℕ). z ++ h.line.added) same.bytes;
        are_bytes = h.line.are_bytes;
        reads = h.line.reads;
        notices = h.line.notices ∙ told_from m.memory s u h.line.reads.reading same;
        shortest = h.line.shortest;
        length = h.line.length;
      };
      alone = h.alone;
      shortest = h.shortest;
    }

at_offsets : (v : CoreView) (offsets : ℕ → Option ℤ) (s t : State) → offsets ≡ s.offsets → CoreAt v offsets s t → AddsCore v s t
at_offsets v offsets s t e h =
    let k : CoreAt v s.offsets s t = subst (λ (o : ℕ → Option ℤ). CoreAt v o s t) e h in
    record { line = k.line; alone = k.alone; shortest = k.shortest }

pub core_adds_from : (v : CoreView) (s u t : State) → SamePut s u → AddsCore v u t → AddsCore v s t
core_adds_from v s u t same h = at_offsets v u.offsets s t same.offsets (at_start v s u t same h)

told_left_from : (s u : State) (told : List Notice) → SamePut s u → (if u.records then u.notices ++ told else u.notices) ≡ (if s.records then s.notices ++ told else s.notices)
told_left_from s u told same =
    ap (λ (z : List Notice). if u.records then z ++ told else z) same.notices
    ∙ ap (λ (z : Bool). if z then s.notices ++ told else s.notices) same.records

left_at_start : (v : CoreView) (s u t : State) → SamePut s u → LeavesCore v u t → LeavesLine (core_meant v u.offsets).parts (core_meant v u.offsets).memory s t
left_at_start v s u t same h = record {
  left = h.left;
  whole = h.whole;
  bytes = h.bytes ∙ ap (λ (z : List ℕ). z ++ h.left) same.bytes;
  are_bytes = h.are_bytes;
  reads = h.reads;
  shortest = h.shortest;
  front = h.front;
  told_left = h.told_left;
  told_later = h.told_later;
  notices = h.notices ∙ told_left_from s u h.told_left same;
  notices_front = h.notices_front ∙ ap (λ (z : List ℕ). line_notices_of (core_meant v u.offsets).memory (length z) h.reads.reading) same.bytes;
  length = h.length;
}

pub core_leaves_from : (v : CoreView) (s u t : State) → SamePut s u → LeavesCore v u t → LeavesCore v s t
core_leaves_from v s u t same h = subst (λ (o : ℕ → Option ℤ). LeavesLine (core_meant v o).parts (core_meant v o).memory s t) same.offsets (left_at_start v s u t same h)

-- Its relative operand, and no other, is read as a relative place.
pub place_relative : {M : Type 0} (enc : M → ℕ) (disp : ℤ) (field : ImmField) (place : PlaceOperand M) → relative_in (place_read enc disp (imm_bytes field) place) ≡ unsettled (memory_in place) field
place_relative enc disp field NoPlace = refl
place_relative enc disp field (Register number) = refl
place_relative enc disp field (Memory (ImmReg base simm32 trap)) = refl
place_relative enc disp field (Memory (ImmRegRegShift base index scale simm32 trap)) = refl
place_relative enc disp field (Memory (RipRelative target)) = refl
