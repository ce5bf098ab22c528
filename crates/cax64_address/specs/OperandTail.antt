-- The tail of a memory operand, and what a sink has got of it.
use Rattle.std.specs.Prelude.{◌≡◌, ◌≤◌, ◌%◌, ℕ, ℤ, List, ◌++◌, Option, Some, length, if◌then◌else◌}
use Rattle.cax64_machine_code.specs.Address.{address_of}
use Rattle.cax64_machine_code.specs.Fields.{IsBytes}
use Rattle.cax64_machine_code.specs.Sequence.{IsProperFront}
use Rattle.cax64_machine_code.specs.Shortest.{Shortest}
use Rattle.cax64_machine_code.specs.Tail.{Tail, IsTail, read_tail}
use Rattle.cax64_machine_code.specs.declared.reading.Place.{Place}
use Rattle.cax64_sink.specs.Sink.{State}
use Rattle.cax64_sink.specs.declared.Notice.{Notice}
use Rattle.cax64_address.specs.Address.{displaced_place, displacement_of, index_bit, base_bit, target_notices}
use Rattle.cax64_address.specs.Displacement.{factor_of}
use Rattle.cax64_address.specs.Length.{least_tail_under}
use Rattle.cax64_address.specs.declared.amode.Amode.{Amode}

-- What a tail says: a reg field and a place, read under bits X and B and a factor; and what a sink is told with it, by the
-- number of bytes before the tail.
pub record TailMeant : Type 0 where
  pub x : ℕ
  pub b : ℕ
  pub factor : ℕ
  pub reg : ℕ
  pub place : Place
  pub told : ℕ → List Notice

-- the tail of an operand of this displacement: bits X and B are bit 3 of its index and its base
abbrev pub displaced_tail : {R : Type 0} → (R → ℕ) → ℤ → ℕ → Amode R → ℕ → Option ℤ → TailMeant
displaced_tail enc disp enc_g amode at_end scaling = record {
  x = index_bit enc amode;
  b = base_bit enc amode;
  factor = factor_of scaling;
  reg = enc_g % 8;
  place = displaced_place enc disp at_end amode;
  told = target_notices amode;
}

-- the tail of an operand
abbrev pub tail_meant : {R : Type 0} → (R → ℕ) → (ℕ → Option ℤ) → ℕ → Amode R → ℕ → Option ℤ → TailMeant
tail_meant enc offsets enc_g amode at_end scaling = displaced_tail enc (displacement_of offsets amode) enc_g amode at_end scaling

-- how many bytes it has
abbrev pub tail_length : TailMeant → ℕ
tail_length m = least_tail_under m.factor m.place

-- these bytes are such a tail
abbrev pub IsTailMeant : TailMeant → List ℕ → Type 0
IsTailMeant m t = IsTail m.x m.b m.factor m.reg m.place t

-- and no bytes that are one are fewer
abbrev pub IsShortest : TailMeant → List ℕ → Type 0
IsShortest m t = Shortest m.x m.b m.factor m.reg m.place t

-- a sink has got the bytes of the shortest such tail, and, if it records, its notices
pub record AddsTail (m : TailMeant) (old new : State) : Type 0 where
  pub added : List ℕ
  pub bytes : new.bytes ≡ old.bytes ++ added
  pub are_bytes : IsBytes added
  pub tail : IsTailMeant m added
  pub shortest : IsShortest m added
  pub notices : new.notices ≡ (if old.records then old.notices ++ m.told (length old.bytes) else old.notices)
  pub length : length added ≡ tail_length m

-- a sink has got a proper front of the shortest such tail, and a front of its notices
pub record LeavesTail (m : TailMeant) (old new : State) : Type 0 where
  pub left : List ℕ
  pub whole : List ℕ
  pub bytes : new.bytes ≡ old.bytes ++ left
  pub are_bytes : IsBytes whole
  pub tail : IsTailMeant m whole
  pub shortest : IsShortest m whole
  pub front : IsProperFront left whole
  pub told_left : List Notice
  pub told_later : List Notice
  pub notices : new.notices ≡ (if old.records then old.notices ++ told_left else old.notices)
  pub notices_front : told_left ++ told_later ≡ m.told (length old.bytes)

-- some such tail has no more bytes than these
pub record FitsTail (m : TailMeant) (left : ℕ) : Type 0 where
  pub whole : List ℕ
  pub are_bytes : IsBytes whole
  pub tail : IsTailMeant m whole
  pub fits : length whole ≤ left

-- a sink has got bytes whose tail, whatever follows, names a place of this address, for all values of the registers
pub record ReadsAddress (m : TailMeant) (address : List ℕ → ℕ → ℕ) (old new : State) : Type 0 where
  pub names : (added rest : List ℕ) (tail : Tail) → new.bytes ≡ old.bytes ++ added → read_tail m.x m.b m.factor (added ++ rest) ≡ Some tail → (regs : List ℕ) (end : ℕ) → address_of tail.place regs end ≡ Some (address regs end)
