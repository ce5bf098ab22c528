use Rattle.std.specs.Prelude.{◌≡◌, ◌++◌, ℕ, Option, List, length, if◌then◌else◌}
use Rattle.cax64_address.specs.declared.amode.Amode.{Amode}
use Rattle.cax64_machine_code.specs.Fields.{IsBytes}
use Rattle.cax64_machine_code.specs.Len.{line_len}
use Rattle.cax64_machine_code.specs.Reading.{PartsOf}
use Rattle.cax64_machine_code.specs.ReadLine.{ReadsLineAs}
use Rattle.cax64_machine_code.specs.Sequence.{IsProperFront}
use Rattle.cax64_machine_code.specs.declared.line.Line.{Line}
use Rattle.cax64_sink.specs.Sink.{State}
use Rattle.cax64_sink.specs.declared.Notice.{Notice}
use Rattle.cax64_encoder.specs.EncodesLine.{ShortestLineFor, line_notices_of}

-- A sink has got an instruction of a line: bytes that read by the line, whatever follows, as what is meant, as many as it
-- has; if it records, the notices of the memory operand, and no others; the tail in the bytes is the shortest.
pub record AddsLine {M : Type 0} (parts : PartsOf Line) (memory : Option (Amode M)) (old new : State) : Type 0 where
  pub added : List ℕ
  pub bytes : new.bytes ≡ old.bytes ++ added
  pub are_bytes : IsBytes added
  pub reads : ReadsLineAs parts added
  pub notices : new.notices ≡ (if old.records then old.notices ++ line_notices_of memory (length old.bytes) reads.reading else old.notices)
  pub shortest : ShortestLineFor memory added reads.reading
  pub length : length added ≡ line_len parts.row parts

-- It has got a proper front of a string that would be the whole instruction, as above, and a front of its notices.
pub record LeavesLine {M : Type 0} (parts : PartsOf Line) (memory : Option (Amode M)) (old new : State) : Type 0 where
  pub left : List ℕ
  pub whole : List ℕ
  pub bytes : new.bytes ≡ old.bytes ++ left
  pub are_bytes : IsBytes whole
  pub reads : ReadsLineAs parts whole
  pub shortest : ShortestLineFor memory whole reads.reading
  pub front : IsProperFront left whole
  pub told_left : List Notice
  pub told_later : List Notice
  pub notices : new.notices ≡ (if old.records then old.notices ++ told_left else old.notices)
  pub notices_front : told_left ++ told_later ≡ line_notices_of memory (length old.bytes) reads.reading
  pub length : length whole ≡ line_len parts.row parts
