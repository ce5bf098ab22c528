use Rattle.std.specs.Prelude.{◌≡◌, ◌<◌, ◌+◌, ◌++◌, ◌⊎◌, ℕ, ℤ, Some, None, List, [], ◌∷◌, drop, take, length, slice_get}
use Rattle.cax64_encoder.specs.EncodesLine.{line_notices_of}
use Rattle.cax64_encoder.specs.Place.{memory_in}
use Rattle.cax64_encoder.specs.declared.fault.Fault.{Fault}
use Rattle.x64_plain.specs.Plain.{plain}
use Rattle.x64_plain.specs.Status.{fault_status}
use Rattle.x64_plain.specs.Told.{told}
use Rattle.x64_plain.specs.declared.status.TheConstants.{HQ_BAD_INST, HQ_FULL, HQ_OK}
use Rattle.huqmeris_c.specs.declared.progress.HqDone.{HqDone}
use Rattle.huqmeris_c.specs.declared.status.TheConstants.{HQ_TOO_MANY}
use Rattle.x64_plain.specs.declared.inst.HqInst.{HqInst}
use Rattle.x64_plain.specs.declared.told.HqUse.{HqUse}
use Rattle.cax64_sink.specs.declared.Notice.{Notice}
use Rattle.huqmeris_c.specs.Encodes.{no_offsets, written}
use Rattle.x64_core.specs.Adds.{AddsCore}
use Rattle.x64_core.specs.Core.{core_len, core_notices, fault_of}
use Rattle.x64_core.specs.View.{CoreView, core_view}
use Rattle.x64_core.specs.declared.instruction.Core.{Core}
use Rattle.x64_layout.specs.declared.span.TheConstants.{MOST_SPANS}

-- Instructions that are encoded one behind the other.

-- their integers
abbrev pub plains : List Core → List HqInst
plains [] = []
plains (core ∷ later) = plain (core_view core) ∷ plains later

-- how many bytes they have
abbrev pub list_len : List Core → ℕ
list_len [] = 0
list_len (core ∷ later) = core_len no_offsets (core_view core) + list_len later

-- each can be encoded
abbrev pub EachSound : List Core → Type 0
EachSound [] = Unit {0}
EachSound (core ∷ later) = (fault_of no_offsets (core_view core) ≡ None) × EachSound later

-- how many traps and targets they tell
abbrev pub list_uses : List Core → ℕ
list_uses [] = 0
list_uses (core ∷ later) = core_notices (core_view core) + list_uses later

-- what notices tell
abbrev pub uses_told : List Notice → List HqUse
uses_told [] = []
uses_told (notice ∷ later) = told (Some notice) ∷ uses_told later

-- An instruction's bytes stand at the front of some that begin behind so many others, and what it tells before what others
-- tell: its trap, or what a relative place refers to, each at its position. Behind them comes what is said of the later ones.
pub record EncodesFirst (v : CoreView) (Later : ℕ → List ℕ → List HqUse → Type 0) (at : ℕ) (bytes : List ℕ) (uses : List HqUse) : Type 0 where
  pub added : List ℕ
  pub rest : List ℕ
  pub is : bytes ≡ added ++ rest
  pub adds : AddsCore v (written []) (written added)
  pub others : List HqUse
  pub tells : uses ≡ uses_told (line_notices_of (memory_in v.place) at adds.line.reads.reading) ++ others
  pub later : Later (at + length added) rest others

-- Bytes behind so many others are those of these instructions in turn, and this is what they tell.
unfoldable pub EncodesEach : List Core → ℕ → List ℕ → List HqUse → Type 0
EncodesEach [] at bytes uses = (bytes ≡ []) × (uses ≡ [])
EncodesEach (core ∷ later) at bytes uses = EncodesFirst (core_view core) (EncodesEach later) at bytes uses

-- The integers are those of instructions that can be encoded, which have so many bytes and tell so many traps and targets.
pub record AreSound (insts : List HqInst) (bytes uses : ℕ) : Type 0 where
  pub cores : List Core
  pub are : plains cores ≡ insts
  pub sound : EachSound cores
  pub len : bytes ≡ list_len cores
  pub count : uses ≡ list_uses cores

-- the integers of an instruction that has a fault, which the status names
pub record HasFault (inst : HqInst) (status : ℤ) : Type 0 where
  pub core : Core
  pub is : plain (core_view core) ≡ inst
  pub fault : Fault
  pub found : fault_of no_offsets (core_view core) ≡ Some fault
  pub named : status ≡ fault_status fault

-- the integers are those of no instruction, or of one that has a fault
abbrev pub IsRefused : HqInst → ℤ → Type 0
IsRefused inst status = (((core : Core) → plain (core_view core) ≡ inst → ⊥) × (status ≡ HQ_BAD_INST)) ⊎ HasFault inst status

-- The first that is refused has this number, and what those before it have is told.
pub record StoppedAt (insts : List HqInst) (done : HqDone) (status : ℤ) : Type 0 where
  pub before : AreSound (take done.items insts) done.bytes done.uses
  pub inst : HqInst
  pub there : slice_get insts done.items ≡ Some inst
  pub refused : IsRefused inst status

-- What `hq_encode_all` leaves.

-- what is told where none is named
abbrev pub none_done : HqDone
none_done = record { items = 0; bytes = 0; uses = 0 }

-- Each can be encoded. The bytes of all of them stand at the front, and what they tell; behind them all is as before.
pub record PutEach (insts : List HqInst) (code code' : List ℕ) (uses uses' : List HqUse) (bytes count : ℕ) : Type 0 where
  pub cores : List Core
  pub are : plains cores ≡ insts
  pub sound : EachSound cores
  pub added : List ℕ
  pub heard : List HqUse
  pub encodes : EncodesEach cores 0 added heard
  pub front : code' ≡ added ++ drop bytes code
  pub told : uses' ≡ heard ++ drop count uses
  pub len : bytes ≡ length added
  pub number : count ≡ length heard

-- What all of them have is told, and one of the slices has too few slots.
pub record TooShort (insts : List HqInst) (room places : ℕ) (done : HqDone) : Type 0 where
  pub items : done.items ≡ length insts
  pub sound : AreSound insts done.bytes done.uses
  pub short : (room < done.bytes) ⊎ (places < done.uses)

-- why nothing was put
abbrev pub NotPut : List HqInst → ℕ → ℕ → HqDone → ℤ → Type 0
NotPut insts room places done status =
    ((status ≡ HQ_TOO_MANY) × (MOST_SPANS < length insts) × (done ≡ none_done))
    ⊎ (((status ≡ HQ_FULL) × TooShort insts room places done)
    ⊎ StoppedAt insts done status)

abbrev pub EachPutAs : List HqInst → List ℕ → List ℕ → List HqUse → List HqUse → HqDone → ℤ → Type 0
EachPutAs insts code code' uses uses' done status =
    ((status ≡ HQ_OK) × (done.items ≡ length insts) × PutEach insts code code' uses uses' done.bytes done.uses)
    ⊎ ((code' ≡ code) × (uses' ≡ uses) × NotPut insts (length code) (length uses) done status)
