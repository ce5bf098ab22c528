use Rattle.std.specs.Prelude.{◌≡◌, ◌≤◌, ◌<◌, ◌+◌, ◌*◌, ◌++◌, ℕ, Option, Some, None, List, [], ◌∷◌, drop, slice_get, take, length}
use Rattle.cax64_encoder.specs.EncodesLine.{line_notices_of}
use Rattle.cax64_encoder.specs.Place.{memory_in}
use Rattle.x64_plain.specs.Encodable.{IsReady}
use Rattle.x64_plain.specs.Plain.{plain}
use Rattle.x64_plain.specs.declared.inst.HqInst.{HqInst}
use Rattle.x64_plain.specs.declared.told.HqUse.{HqUse}
use Rattle.huqmeris_c.specs.Each.{AreSound, uses_told}
use Rattle.huqmeris_c.specs.Encodes.{no_offsets, written}
use Rattle.x64_core.specs.Adds.{AddsCore}
use Rattle.x64_core.specs.Core.{core_len, core_notices, fault_of}
use Rattle.x64_core.specs.View.{CoreView, core_view}
use Rattle.x64_core.specs.declared.instruction.Core.{Core}

-- Steps of a list that is encoded.

-- what may be told, as a list
abbrev pub use_list : Option HqUse → List HqUse
use_list None = []
use_list (Some heard) = heard ∷ []

-- what is told of an instruction behind so many bytes
abbrev pub moved : ℕ → HqUse → HqUse
moved at heard = record { at = at + heard.at; kind = heard.kind; number = heard.number }

-- the integers of an instruction that can be encoded, and what it has
pub record HasSize (inst : HqInst) (bytes uses : ℕ) : Type 0 where
  pub core : Core
  pub is : plain (core_view core) ≡ inst
  pub sound : fault_of no_offsets (core_view core) ≡ None
  pub len : bytes ≡ core_len no_offsets (core_view core)
  pub count : uses ≡ core_notices (core_view core)
  pub most : bytes ≤ 13

-- it has some size
pub record IsSized (inst : HqInst) : Type 0 where
  pub bytes : ℕ
  pub uses : ℕ
  pub size : HasSize inst bytes uses

-- so many instructions that can be encoded where no late offset is known, which have 13 bytes at most each, and one notice
pub record AreReady (insts : List HqInst) (n : ℕ) : Type 0 where
  pub bytes : ℕ
  pub uses : ℕ
  pub sound : AreSound (take n insts) bytes uses
  pub most : bytes ≤ 13 * n
  pub few : uses ≤ n
  pub each : (i : ℕ) (inst : HqInst) → i < n → slice_get insts i ≡ Some inst → IsReady inst

-- there is room for all that is left
pub record HasRoomFor (insts : List HqInst) (room places : ℕ) : Type 0 where
  pub bytes : ℕ
  pub uses : ℕ
  pub sound : AreSound insts bytes uses
  pub fits : bytes ≤ room
  pub few : uses ≤ places

-- an instruction was put behind so many bytes, and this is what it tells
pub record PutBehind (v : CoreView) (at : ℕ) (code code' : List ℕ) (len : ℕ) (heard : List HqUse) : Type 0 where
  pub added : List ℕ
  pub is : code' ≡ take at code ++ (added ++ drop (at + len) code)
  pub count : len ≡ length added
  pub most : len ≤ 13
  pub size : len ≡ core_len no_offsets v
  pub adds : AddsCore v (written []) (written added)
  pub tells : heard ≡ uses_told (line_notices_of (memory_in v.place) at adds.line.reads.reading)
  pub number : length heard ≡ core_notices v

-- there is room for the next one
pub record CanPut (inst : HqInst) (room places at count : ℕ) : Type 0 where
  pub core : Core
  pub is : plain (core_view core) ≡ inst
  pub sound : fault_of no_offsets (core_view core) ≡ None
  pub fits : at + core_len no_offsets (core_view core) ≤ room
  pub few : count + core_notices (core_view core) ≤ places

-- it was put, and what it tells was noted
pub record PutNext (inst : HqInst) (code code' : List ℕ) (uses uses' : List HqUse) (at count at' count' : ℕ) : Type 0 where
  pub core : Core
  pub is : plain (core_view core) ≡ inst
  pub alone : (other : Core) → plain (core_view other) ≡ inst → core_view core ≡ core_view other
  pub len : ℕ
  pub heard : List HqUse
  pub put : PutBehind (core_view core) at code code' len heard
  pub end : at' ≡ at + len
  pub number : count' ≡ count + length heard
  pub size : length code' ≡ length code
  pub front : take count' uses' ≡ take count uses ++ heard
  pub behind : drop count' uses' ≡ drop count' uses
  pub places : length uses' ≡ length uses
