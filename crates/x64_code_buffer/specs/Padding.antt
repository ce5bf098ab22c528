-- No-operations that fill a buffer up to a multiple. (Intel SDM, volume 2, NOP, table 4-12.)
use Rattle.std.specs.Prelude.{◌≡◌, ◌<◌, ℕ, ◌-◌, ◌%◌, ◌==◌, if◌then◌else◌, IfSome, Option, Some, None, List, [], ◌∷◌, ◌++◌, length, replicate}
use Rattle.cax64_encoder.specs.Nop.{nop_bytes, nop_parts}
use Rattle.cax64_machine_code.specs.ReadLine.{LineReading, parts_as}
use Rattle.cax64_machine_code.specs.Reading.{PartsOf}
use Rattle.cax64_machine_code.specs.Rows.{line_of}
use Rattle.cax64_machine_code.specs.Sequence.{Same}
use Rattle.cax64_machine_code.specs.declared.line.Line.{Line}
use Rattle.cax64_machine_code.specs.declared.reading.Reading.{Reading}
use Rattle.cax64_operand.specs.NopRow.{nop_row}
use Rattle.cax64_operand.specs.declared.nop.Nop.{Nop}
use Rattle.cax64_operand.specs.declared.nop.Nop.TheVariants.{Nine}
use Rattle.cax64_sink.specs.Sink.{State}
use Rattle.cax64_sink.specs.declared.DeferredTarget.{DeferredTarget}
use Rattle.x64_code_buffer.specs.Filled.{Filled}
use Rattle.x64_code_buffer.specs.Laid.{Laid, Piece, parts_in, whole}
use Rattle.x64_code_buffer.specs.Put.{PutsBytes}

-- the bytes of some no-operations, one behind the other
abbrev pub nops_bytes : List Nop → List ℕ
nops_bytes [] = []
nops_bytes (nop ∷ later) = nop_bytes nop ++ nops_bytes later

abbrev pub if_any : Option Nop → List Nop
if_any None = []
if_any (Some nop) = nop ∷ []

-- so many no-operations of nine bytes, and one more, if there is one
abbrev pub padding : ℕ → Option Nop → List Nop
padding nines rest = replicate nines Nine ++ if_any rest

-- A sink has got no-operations of nine bytes and at most one of fewer, and no notice: no fewer no-operations have as many
-- bytes.
pub record AddsPadding (old new : State) : Type 0 where
  pub nines : ℕ
  pub rest : Option Nop
  pub short : IfSome rest (λ nop. length (nop_bytes nop) < 9)
  pub bytes : new.bytes ≡ old.bytes ++ nops_bytes (padding nines rest)
  pub notices : new.notices ≡ old.notices

-- how many bytes are missing to the next multiple
abbrev pub missing_to : ℕ → ℕ → ℕ
missing_to len size = if len % size == 0 then 0 else size - len % size

-- A sink has got so many bytes of no-operations where there was room.
pub record PutsPadding (len : ℕ) (old new : State) : Type 0 where
  pub nines : ℕ
  pub rest : Option Nop
  pub short : IfSome rest (λ nop. length (nop_bytes nop) < 9)
  pub puts : PutsBytes (nops_bytes (padding nines rest)) old new
  pub len_is : length (nops_bytes (padding nines rest)) ≡ len

-- each reading is that of a no-operation
abbrev pub EachNop : List Reading → Type 0
EachNop [] = Unit {0}
EachNop (r ∷ later) = ((nop : Nop) × Same r (nop_parts (nop_row nop) nop)) × EachNop later

-- A buffer is filled to its end with some no-operations more.
pub record FilledUp (readings : List Reading) (s : State) (places : DeferredTarget → Option ℕ) : Type 0 where
  pub more : List Reading
  pub nops : EachNop more
  pub filled : Filled (readings ++ more) (length s.bytes) s places

-- each piece is the reading of a no-operation by the line of its row
abbrev pub EachWholeNop : List Piece → Type 0
EachWholeNop [] = Unit {0}
EachWholeNop (p ∷ later) = ((nop : Nop) × (r : LineReading) × (p ≡ whole r) × ◌≡◌ {A = PartsOf Line} (parts_in r) (parts_as (line_of (nop_row nop)) (nop_parts (nop_row nop) nop))) × EachWholeNop later

-- And it is laid out so.
pub record LaidUp (pieces : List Piece) (s : State) (places : DeferredTarget → Option ℕ) : Type 0 where
  pub more : List Piece
  pub nops : EachWholeNop more
  pub laid : Laid (pieces ++ more) (length s.bytes) s places
