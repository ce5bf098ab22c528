-- The tail of a base as bytes that stand or don't.
use Rattle.std.specs.Prelude.{ℕ, ◌^◌, ◌==◌, Bool, true, false, if◌then◌else◌, List, Option, Some, None}
use Rattle.cax64_sink.specs.Call.{Action}
use Rattle.cax64_address.specs.Address.{scale_number}
use Rattle.cax64_address.specs.Emitted.{tail_actions}
use Rattle.cax64_address.specs.declared.amode.Scale.{Scale}
use Rattle.cax64_address.specs.declared.memory.MemoryTail.{MemoryTail}
use Rattle.cax64_address.specs.declared.tail.TailCode.{TailCode}

-- a number, if it stands
abbrev pub option_when : Bool → ℕ → Option ℕ
option_when true number = Some number
option_when false number = None

-- the code of a tail of the bytes that stand
abbrev pub tail_code_of : MemoryTail → TailCode
tail_code_of tail = record {
  modrm = tail.modrm;
  sib = option_when tail.has_sib tail.sib;
  byte = option_when tail.has_byte tail.byte;
  target = None;
  long = tail.long;
}

-- what is put for it
abbrev pub memory_actions : MemoryTail → List Action
memory_actions tail = tail_actions (tail_code_of tail)

-- an index and its factor; number 4 is none
abbrev pub index_named : ℕ → Scale → Option (ℕ × ℕ)
index_named index scale = if index == 4 then None else Some (index, 2 ^ scale_number scale)
