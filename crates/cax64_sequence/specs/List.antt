use Rattle.std.specs.Prelude.{◌≡◌, ◌<◌, ◌≤◌, ℕ, ◌+◌, List, [], ◌∷◌, ◌++◌, length, map, take, drop, slice_get, Some, if◌then◌else◌, IfSome}
use Rattle.cax64_encoder.specs.Instruction.{Meaning, ShortestFor, LeavesInstruction}
use Rattle.cax64_encoder.specs.Meant.{Meant, len}
use Rattle.cax64_encoder.specs.Notices.{notices_of, notice_count}
use Rattle.cax64_machine_code.specs.Fields.{IsBytes}
use Rattle.cax64_machine_code.specs.Reading.{Parts, read}
use Rattle.cax64_machine_code.specs.Sequence.{Same, ReadsAllAs}
use Rattle.cax64_machine_code.specs.declared.reading.Reading.{Reading}
use Rattle.cax64_sink.specs.Keeps.{Keeps}
use Rattle.cax64_sink.specs.Room.{FallsBy}
use Rattle.cax64_sink.specs.Sink.{State}
use Rattle.cax64_sink.specs.declared.Notice.{Notice}

-- the notices of instructions one behind the other, of which the first begins after so many bytes
abbrev pub each_notices : {M : Type 0} → List (Meant M) → ℕ → List Reading → List Notice
each_notices [] at readings = []
each_notices (m ∷ more) at [] = []
each_notices (m ∷ more) at (reading ∷ readings) = notices_of m.memory at reading ++ each_notices more (at + reading.length) readings

-- the tail of each instruction that has a memory operand is the shortest; each has the bytes of its reading's length
abbrev pub EachShortest : {M : Type 0} → List (Meant M) → List ℕ → List Reading → Type 0
EachShortest [] bytes readings = Unit {0}
EachShortest (m ∷ more) bytes [] = ⊥
EachShortest (m ∷ more) bytes (reading ∷ readings) = ShortestFor m.memory (take reading.length bytes) reading × EachShortest more (drop reading.length bytes) readings

-- each instruction whose bytes are fixed has these; each has the bytes of its reading's length
abbrev pub EachExact : {M : Type 0} → List (Meant M) → List ℕ → List Reading → Type 0
EachExact [] bytes readings = Unit {0}
EachExact (m ∷ more) bytes [] = ⊥
EachExact (m ∷ more) bytes (reading ∷ readings) = IfSome m.exact (λ very. take reading.length bytes ≡ very) × EachExact more (drop reading.length bytes) readings

-- how many bytes instructions have
abbrev pub total_len : {M : Type 0} → List (Meant M) → ℕ
total_len [] = 0
total_len (m ∷ more) = len m + total_len more

-- how many notices instructions have
abbrev pub total_notices : {M : Type 0} → List (Meant M) → ℕ
total_notices [] = 0
total_notices (m ∷ more) = notice_count m + total_notices more

-- A sink has got a list of instructions: bytes that read, whatever follows, as what is meant by each in turn, and leave
-- what follows, as many as the instructions have, and the very bytes of each where these are fixed; if it records, the
-- notices of each, in order, and no others; each tail is the shortest.
pub record AddsAll {M : Type 0} (ms : List (Meant M)) (old new : State) : Type 0 where
  pub added : List ℕ
  pub bytes : new.bytes ≡ old.bytes ++ added
  pub are_bytes : IsBytes added
  pub reads : ReadsAllAs (map (λ m. m.parts) ms) added
  pub notices : new.notices ≡ (if old.records then old.notices ++ each_notices ms (length old.bytes) reads.readings else old.notices)
  pub shortest : EachShortest ms added reads.readings
  pub exact : EachExact ms added reads.readings
  pub length : length added ≡ total_len ms

-- A sink has got so many whole instructions, which lead to a state between, with rooms that fall by no more than these
-- instructions have; and of the next a proper front of its bytes and a front of its notices.
pub record LeavesAll {M : Type 0} (ms : List (Meant M)) (whole : ℕ) (old new : State) : Type 0 where
  pub within : whole < length ms
  pub between : State
  pub adds : AddsAll (take whole ms) old between
  pub keeps : Keeps old between
  pub byte_room : FallsBy old.byte_room between.byte_room (total_len (take whole ms))
  pub notice_room : FallsBy old.notice_room between.notice_room (total_notices (take whole ms))
  pub next : Meant M
  pub next_is : slice_get ms whole ≡ Some next
  pub leaves : LeavesInstruction next between new

-- A sink has its bytes and notices still, and rooms that are no smaller.
pub record StaysAs (old new : State) : Type 0 where
  pub bytes : new.bytes ≡ old.bytes
  pub notices : new.notices ≡ old.notices
  pub byte_room : FallsBy old.byte_room new.byte_room 0
  pub notice_room : FallsBy old.notice_room new.notice_room 0

-- The same of instructions whose meaning may depend on the offsets that a sink knows.

abbrev pub meants : {A M : Type 0} → (A → Meaning M) → State → List A → List (Meant M)
meants meant state insts = map (λ i. meant i state.offsets) insts

abbrev pub AddsList : {A M : Type 0} → (A → Meaning M) → List A → State → State → Type 0
AddsList meant insts old new = AddsAll (meants meant old insts) old new

abbrev pub LeavesList : {A M : Type 0} → (A → Meaning M) → List A → ℕ → State → State → Type 0
LeavesList meant insts whole old new = LeavesAll (meants meant old insts) whole old new

abbrev pub list_len : {A M : Type 0} → State → (A → Meaning M) → List A → ℕ
list_len state meant insts = total_len (meants meant state insts)

abbrev pub list_notices : {A M : Type 0} → State → (A → Meaning M) → List A → ℕ
list_notices state meant insts = total_notices (meants meant state insts)

-- Of bytes that read as a list the first reading, and what it leaves.
pub record FirstReads (meant : Parts) (later : List Parts) (b : List ℕ) : Type 0 where
  pub reading : Reading
  pub reads : (rest : List ℕ) → read (b ++ rest) ≡ Some reading
  pub same : Same reading meant
  pub within : reading.length ≤ length b
  pub left : ReadsAllAs later (drop reading.length b)
