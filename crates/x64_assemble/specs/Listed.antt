-- What an instruction of a list becomes in a buffer.
use Rattle.std.specs.Prelude.{◌≡◌, ◌≤◌, ℕ, ◌+◌, ℤ, Option, Some, None, List, [], ◌∷◌, ◌++◌, length, map}
use Rattle.cax64_address.specs.declared.amode.Amode.{Amode}
use Rattle.cax64_address.specs.declared.amode.Amode.TheVariants.{ImmReg, ImmRegRegShift, RipRelative}
use Rattle.cax64_encoder.specs.Fault.{first_fault}
use Rattle.cax64_encoder.specs.Notices.{trap_notice}
use Rattle.cax64_encoder.specs.declared.fault.Fault.{Fault}
use Rattle.cax64_machine_code.specs.ReadLine.{read_line}
use Rattle.cax64_machine_code.specs.Reading.{PartsOf}
use Rattle.cax64_machine_code.specs.declared.line.Line.{Line}
use Rattle.cax64_sink.specs.Keeps.{Keeps}
use Rattle.cax64_sink.specs.Room.{FallsBy}
use Rattle.cax64_sink.specs.Sink.{State}
use Rattle.cax64_sink.specs.declared.DeferredTarget.{DeferredTarget}
use Rattle.cax64_sink.specs.declared.Notice.{Notice}
use Rattle.cax64_sink.specs.declared.Notice.TheVariants.{Target}
use Rattle.x64_code_buffer.specs.Binding.{SamePlaces}
use Rattle.x64_code_buffer.specs.Laid.{Laid, Piece, piece_field, reading_in}
use Rattle.x64_encode.specs.Encode.{LineMeaning}

pub record Listed : Type 0 where
  -- what its bytes are to read as
  pub parts : PartsOf Line
  -- what it tells, where its piece begins after so many bytes
  pub tells : ℕ → Piece → List Notice
  -- how many bytes it has
  pub len : ℕ
  -- why it can't be put, if it can't
  pub fault : Option Fault

-- the use of a target at the field of a piece that begins after so many bytes
abbrev pub use_told : DeferredTarget → ℕ → Piece → List Notice
use_told goes_to at p = map (λ field. Target field goes_to) (piece_field at p)

-- what an instruction tells, by its memory operand: the trap where it begins, or the use of its target
abbrev pub inst_told : {M : Type 0} → Option (Amode M) → ℕ → Piece → List Notice
inst_told None at p = []
inst_told (Some (ImmReg base simm32 trap)) at p = trap_notice trap at
inst_told (Some (ImmRegRegShift base index scale simm32 trap)) at p = trap_notice trap at
inst_told (Some (RipRelative goes_to)) at p = use_told goes_to at p

-- what is encoded by a line
abbrev pub listed : {M : Type 0} → LineMeaning M → (ℕ → Option ℤ) → Listed
listed meaning offsets = record {
  parts = (meaning offsets).parts;
  tells = inst_told (meaning offsets).memory;
  len = (meaning offsets).len;
  fault = first_fault offsets (meaning offsets).visited (meaning offsets).memory;
}

-- Some bytes are a piece: its line reads them, whatever follows, as its reading, with all of them.
pub record IsPiece (p : Piece) (bytes : List ℕ) : Type 0 where
  pub reads : (rest : List ℕ) → read_line (reading_in p).line (bytes ++ rest) ≡ Some (reading_in p)
  pub length : (reading_in p).length ≡ length bytes
  pub least : 1 ≤ (reading_in p).length

-- A buffer has got a span: a piece that reads so, of so many bytes, that tells this where it begins; and if it was laid out
-- up to its end, it is with that piece.
pub record GotEntry (reads : Piece → Type 0) (tells : ℕ → Piece → List Notice) (size : ℕ) (s t : State) (old new : DeferredTarget → Option ℕ) : Type 0 where
  pub piece : Piece
  pub added : List ℕ
  pub piece_reads : reads piece
  pub is : IsPiece piece added
  pub bytes : t.bytes ≡ s.bytes ++ added
  pub told : t.notices ≡ s.notices ++ tells (length s.bytes) piece
  pub laid : (pieces : List Piece) → Laid pieces (length s.bytes) s old → Laid (pieces ++ piece ∷ []) (length t.bytes) t new
  pub more : length t.bytes ≡ length s.bytes + size
  pub places : SamePlaces old new
  pub keeps : Keeps s t
  pub byte_room : FallsBy s.byte_room t.byte_room size
  pub notice_room : FallsBy s.notice_room t.notice_room 1
