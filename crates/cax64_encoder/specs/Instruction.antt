use Rattle.std.specs.Prelude.{◌≡◌, ℕ, ℤ, Option, Some, None, List, ◌++◌, length, if◌then◌else◌, IfSome, Bool}
use Rattle.cax64_address.specs.declared.amode.Amode.{Amode}
use Rattle.cax64_machine_code.specs.Fields.{IsBytes}
use Rattle.cax64_machine_code.specs.Sequence.{ReadsAs, IsProperFront}
use Rattle.cax64_machine_code.specs.Shortest.{HasShortestTail}
use Rattle.cax64_machine_code.specs.declared.reading.Reading.{Reading}
use Rattle.cax64_sink.specs.Sink.{State}
use Rattle.cax64_sink.specs.declared.Notice.{Notice}
use Rattle.cax64_encoder.specs.Fault.{is_encodable, fault_of_meant}
use Rattle.cax64_encoder.specs.Meant.{Meant, len}
use Rattle.cax64_encoder.specs.Notices.{notices_of, notice_count}
use Rattle.cax64_encoder.specs.declared.fault.Fault.{Fault}

-- the tail of an instruction with a memory operand is the shortest
abbrev pub ShortestFor : {M : Type 0} → Option (Amode M) → List ℕ → Reading → Type 0
ShortestFor None bytes reading = Unit {0}
ShortestFor (Some amode) bytes reading = HasShortestTail bytes reading

-- A sink has got an instruction: bytes that read, whatever follows, as what is meant, as many as it has, and its very bytes
-- where these are fixed; if it records, the notices of the memory operand, and no others; the tail in the bytes is the
-- shortest.
pub record AddsInstruction {M : Type 0} (m : Meant M) (old new : State) : Type 0 where
  pub added : List ℕ
  pub bytes : new.bytes ≡ old.bytes ++ added
  pub are_bytes : IsBytes added
  pub reads : ReadsAs m.parts added
  pub notices : new.notices ≡ (if old.records then old.notices ++ notices_of m.memory (length old.bytes) reads.reading else old.notices)
  pub shortest : ShortestFor m.memory added reads.reading
  pub length : length added ≡ len m
  pub exact : IfSome m.exact (λ very. added ≡ very)

-- A sink has got a proper front of a string that would be the whole instruction, as above, and a front of its notices.
pub record LeavesInstruction {M : Type 0} (m : Meant M) (old new : State) : Type 0 where
  pub left : List ℕ
  pub whole : List ℕ
  pub bytes : new.bytes ≡ old.bytes ++ left
  pub are_bytes : IsBytes whole
  pub reads : ReadsAs m.parts whole
  pub shortest : ShortestFor m.memory whole reads.reading
  pub exact : IfSome m.exact (λ very. whole ≡ very)
  pub front : IsProperFront left whole
  pub told_left : List Notice
  pub told_later : List Notice
  pub notices : new.notices ≡ (if old.records then old.notices ++ told_left else old.notices)
  pub notices_front : told_left ++ told_later ≡ notices_of m.memory (length old.bytes) reads.reading
  pub length : length whole ≡ len m

-- What an instruction means, which may depend on the offsets that a sink knows; and the same words of it.
abbrev pub Meaning : Type 0 → Type 0
Meaning M = (ℕ → Option ℤ) → Meant M

abbrev pub can_encode_in : {M : Type 0} → State → Meaning M → Bool
can_encode_in state meaning = is_encodable state.offsets (meaning state.offsets)

abbrev pub fault_in : {M : Type 0} → State → Meaning M → Option Fault
fault_in state meaning = fault_of_meant state.offsets (meaning state.offsets)

abbrev pub len_in : {M : Type 0} → State → Meaning M → ℕ
len_in state meaning = len (meaning state.offsets)

abbrev pub notices_in : {M : Type 0} → State → Meaning M → ℕ
notices_in state meaning = notice_count (meaning state.offsets)

abbrev pub Adds : {M : Type 0} → Meaning M → State → State → Type 0
Adds meaning old new = AddsInstruction (meaning old.offsets) old new

abbrev pub Leaves : {M : Type 0} → Meaning M → State → State → Type 0
Leaves meaning old new = LeavesInstruction (meaning old.offsets) old new
