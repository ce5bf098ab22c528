use Rattle.std.specs.Prelude.{◌≡◌, ◌≤◌, ℕ, ℤ, true, Option, Result, List}
use Rattle.cax64_machine_code.specs.declared.row.Row.{Row}
use Rattle.cax64_operand.specs.Family.{Family}
use Rattle.cax64_operand.specs.Signature.{HasSignature}
use Rattle.cax64_operand.specs.declared.operand.Operands.{Operands}
use Rattle.cax64_sink.specs.Call.{Action}
use Rattle.cax64_sink.specs.Run.{Ran}
use Rattle.cax64_sink.specs.Sink.{State}
use Rattle.cax64_sink.specs.declared.SinkError.{SinkError}
use Rattle.cax64_encoder.specs.Content.{content_of}
use Rattle.cax64_encoder.specs.Encodes.{EncodesAs}
use Rattle.cax64_encoder.specs.Fault.{is_encodable}
use Rattle.cax64_encoder.specs.Meant.{Meant, meant_of, len}
use Rattle.cax64_encoder.specs.Notices.{notice_count}
use Rattle.cax64_encoder.specs.declared.content.Content.{Content}
use Rattle.cax64_encoder.specs.declared.room.RoomNeeded.{RoomNeeded}

-- Encoding by what was kept of operands.

-- this was kept of operands of the row that can be encoded
pub record Kept {R A B C D E F : Type 0} (f : Family A B C D E F) (offsets : ℕ → Option ℤ) (row : Row) (o : Operands R A B C D E F) (content : Content) : Type 0 where
  pub kept : content ≡ content_of f o
  pub signature : HasSignature row o
  pub can : is_encodable offsets (meant_of f row o offsets) ≡ true

-- this was kept of some such operands
abbrev pub Asked : (R : Type 0) → {A B C D E F : Type 0} → Family A B C D E F → (ℕ → Option ℤ) → Row → Content → Type 0
Asked R {A} {B} {C} {D} {E} {F} f offsets row content = (o : Operands R A B C D E F) × Kept f offsets row o content

-- a run that writes what is meant
pub record Writes {M : Type 0} (m : Meant M) (old new : State) (r : Result (Unit {0}) SinkError) : Type 0 where
  pub acts : List Action
  pub encodes : EncodesAs m acts
  pub ran : Ran acts old new r

-- whatever operands this was kept of, they are written
abbrev pub Answered : (R : Type 0) → {A B C D E F : Type 0} → Family A B C D E F → Row → Content → State → State → Result (Unit {0}) SinkError → Type 0
Answered R {A} {B} {C} {D} {E} {F} f row content old new r = (o : Operands R A B C D E F) → Kept f old.offsets row o content → Writes (meant_of f row o old.offsets) old new r

-- the room that what is meant takes
pub record Takes {M : Type 0} (m : Meant M) (room : RoomNeeded) : Type 0 where
  pub bytes : room.bytes ≡ len m
  pub notices : room.notices ≡ notice_count m
  pub least : 1 ≤ len m
  pub most : len m ≤ 13

-- whatever operands this was kept of, they take this room
abbrev pub Measured : (R : Type 0) → {A B C D E F : Type 0} → Family A B C D E F → (ℕ → Option ℤ) → Row → Content → RoomNeeded → Type 0
Measured R {A} {B} {C} {D} {E} {F} f offsets row content room = (o : Operands R A B C D E F) → Kept f offsets row o content → Takes (meant_of f row o offsets) room
