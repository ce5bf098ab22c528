-- What can be encoded, by a line of whatever table.
use Rattle.std.specs.Prelude.{◌≡◌, ◌++◌, ℕ, ℤ, Bool, Option, List, length, if◌then◌else◌}
use Rattle.cax64_address.specs.declared.amode.Amode.{Amode}
use Rattle.cax64_encoder.specs.EncodesLine.{line_notices_of}
use Rattle.cax64_encoder.specs.Fault.{can_encode, first_fault}
use Rattle.cax64_encoder.specs.Meant.{Meant, len}
use Rattle.cax64_encoder.specs.Notices.{memory_notices}
use Rattle.cax64_encoder.specs.Relative.{relative_in, unsettled}
use Rattle.cax64_encoder.specs.declared.fault.Fault.{Fault}
use Rattle.cax64_encoder.specs.declared.fault.Visited.{Visited}
use Rattle.cax64_machine_code.specs.Fields.{IsBytes}
use Rattle.cax64_machine_code.specs.ReadLine.{ReadsLineAs, parts_as}
use Rattle.cax64_machine_code.specs.Reading.{PartsOf}
use Rattle.cax64_machine_code.specs.Rows.{line_of}
use Rattle.cax64_machine_code.specs.Sequence.{IsProperFront}
use Rattle.cax64_machine_code.specs.declared.line.Line.{Line}
use Rattle.cax64_sink.specs.Sink.{State}
use Rattle.cax64_sink.specs.declared.Notice.{Notice}

-- What it means, for the offsets that a sink knows.
pub record LineMeant (M : Type 0) : Type 0 where
  -- what its bytes are to read as
  pub parts : PartsOf Line
  -- its memory operand
  pub memory : Option (Amode M)
  -- its registers in the order of faults
  pub visited : List Visited
  -- how many bytes it has
  pub len : ℕ

-- an instruction of a row, which is read by the line of that row
abbrev pub by_line : {M : Type 0} → Meant M → LineMeant M
by_line m = record { parts = parts_as (line_of m.parts.row) m.parts; memory = m.memory; visited = m.visited; len = len m }

abbrev pub LineMeaning : Type 0 → Type 0
LineMeaning M = (ℕ → Option ℤ) → LineMeant M

-- Whether it can be encoded for a sink, why not, how many bytes and notices it has: as of any instruction.

abbrev pub can_encode_by : {M : Type 0} → State → LineMeaning M → Bool
can_encode_by state meaning = can_encode state.offsets (meaning state.offsets).visited (meaning state.offsets).memory

abbrev pub fault_by : {M : Type 0} → State → LineMeaning M → Option Fault
fault_by state meaning = first_fault state.offsets (meaning state.offsets).visited (meaning state.offsets).memory

abbrev pub len_by : {M : Type 0} → State → LineMeaning M → ℕ
len_by state meaning = (meaning state.offsets).len

abbrev pub notices_by : {M : Type 0} → State → LineMeaning M → ℕ
notices_by state meaning = memory_notices (meaning state.offsets).memory

-- A sink has got it: bytes that its line reads as what is meant, whatever follows, as many as it has; if it records, the
-- notices of its memory operand, and no others.
pub record AddsMeant {M : Type 0} (m : LineMeant M) (old new : State) : Type 0 where
  pub added : List ℕ
  pub bytes : new.bytes ≡ old.bytes ++ added
  pub are_bytes : IsBytes added
  pub reads : ReadsLineAs m.parts added
  pub notices : new.notices ≡ (if old.records then old.notices ++ line_notices_of m.memory (length old.bytes) reads.reading else old.notices)
  pub length : length added ≡ m.len

-- It has got a proper front of such bytes, and a front of the notices.
pub record LeavesMeant {M : Type 0} (m : LineMeant M) (old new : State) : Type 0 where
  pub left : List ℕ
  pub whole : List ℕ
  pub bytes : new.bytes ≡ old.bytes ++ left
  pub are_bytes : IsBytes whole
  pub reads : ReadsLineAs m.parts whole
  pub front : IsProperFront left whole
  pub told_left : List Notice
  pub told_later : List Notice
  pub notices : new.notices ≡ (if old.records then old.notices ++ told_left else old.notices)
  pub notices_front : told_left ++ told_later ≡ line_notices_of m.memory (length old.bytes) reads.reading
  pub length : length whole ≡ m.len

-- exactly the relative operands are read as relative places
abbrev pub ReadsRelativeBy : {M : Type 0} → LineMeant M → Type 0
ReadsRelativeBy m = relative_in m.parts.place ≡ unsettled m.memory m.parts.row.imm

-- states that differ in their rooms alone
pub record SamePut (s u : State) : Type 0 where
  pub bytes : u.bytes ≡ s.bytes
  pub notices : u.notices ≡ s.notices
  pub offsets : u.offsets ≡ s.offsets
  pub records : u.records ≡ s.records
