-- A buffer that is filled with instructions.
use Rattle.std.specs.Prelude.{◌≡◌, ◌≤◌, ◌⊎◌, ℕ, ◌+◌, ◌-◌, pos, ◌-ℤ◌, Option, Some, None, List, [], ◌∷◌, ◌++◌, length, take, drop}
use Rattle.cax64_machine_code.specs.Address.{address_of, modulo_64_bits}
use Rattle.cax64_machine_code.specs.Line.{imm_bytes}
use Rattle.cax64_machine_code.specs.Reading.{Parts, read}
use Rattle.cax64_machine_code.specs.Rows.{line_of}
use Rattle.cax64_machine_code.specs.Sequence.{Same}
use Rattle.cax64_machine_code.specs.declared.reading.Place.{Place}
use Rattle.cax64_machine_code.specs.declared.reading.Place.TheVariants.{Reg, Mem, Rip}
use Rattle.cax64_machine_code.specs.declared.reading.Reading.{Reading}
use Rattle.cax64_sink.specs.Sink.{State}
use Rattle.cax64_sink.specs.declared.DeferredTarget.{DeferredTarget}
use Rattle.cax64_sink.specs.declared.DeferredTarget.TheVariants as target
use Rattle.x64_code_buffer.specs.Use.{Use, uses_of}

-- how many bytes of immediate a reading's row has
abbrev pub imm_behind : Reading → ℕ
imm_behind r = imm_bytes (line_of r.row).imm

-- where the displacement field of a reading begins: its four bytes stand before the immediate
abbrev pub field_place : Reading → ℕ
field_place r = r.length - r.tail - imm_behind r + 1

-- a relative place leads to where the immediate begins, as before its field is patched
abbrev pub Unpatched : ℕ → Option Place → Type 0
Unpatched behind None = Unit {0}
Unpatched behind (Some (Reg view)) = Unit {0}
Unpatched behind (Some (Mem base index disp)) = Unit {0}
Unpatched behind (Some (Rip disp)) = disp ≡ pos 0 -ℤ pos behind

-- the bytes read, whatever follows, as these readings, each of its own bytes, and nothing is left
abbrev pub ReadsEach : List Reading → List ℕ → Type 0
ReadsEach [] bytes = bytes ≡ []
ReadsEach (r ∷ later) bytes = ((rest : List ℕ) → read (take r.length bytes ++ rest) ≡ Some r) × (1 ≤ r.length) × (r.length ≤ length bytes) × ReadsEach later (drop r.length bytes)

abbrev pub EachUnpatched : List Reading → Type 0
EachUnpatched [] = Unit {0}
EachUnpatched (r ∷ later) = Unpatched (imm_behind r) r.place × EachUnpatched later

-- the field of a relative place, where the reading begins after so many bytes
abbrev pub field_at : ℕ → Reading → Option Place → List ℕ
field_at at r None = []
field_at at r (Some (Reg view)) = []
field_at at r (Some (Mem base index disp)) = []
field_at at r (Some (Rip disp)) = (at + field_place r) ∷ []

-- the fields of all relative places, in order
abbrev pub fields_from : ℕ → List Reading → List ℕ
fields_from at [] = []
fields_from at (r ∷ later) = field_at at r r.place ++ fields_from (at + r.length) later

-- a position is where a reading begins
abbrev pub Begins : ℕ → List Reading → ℕ → Type 0
Begins at [] place = ⊥
Begins at (r ∷ later) place = (place ≡ at) ⊎ Begins (at + r.length) later place

abbrev pub places_told : List Use → List ℕ
places_told [] = []
places_told (used ∷ later) = used.0 ∷ places_told later

-- A buffer is filled up to n with readings: its first n bytes read as these; each relative place is unpatched; the targets
-- told are, in order, one at the field of each; and each bound position is where a reading begins, or behind them.
pub record Filled (readings : List Reading) (n : ℕ) (s : State) (places : DeferredTarget → Option ℕ) : Type 0 where
  pub within : n ≤ length s.bytes
  pub reads : ReadsEach readings (take n s.bytes)
  pub unpatched : EachUnpatched readings
  pub told : places_told (uses_of s.notices) ≡ fields_from 0 readings
  pub bound : (target : DeferredTarget) (place : ℕ) → places target ≡ Some place → (Begins 0 readings place ⊎ (n ≤ place)) × (place ≤ length s.bytes)

-- It is so but that uses at these positions are told besides, behind the others.
pub record FilledBefore (more : List ℕ) (readings : List Reading) (n : ℕ) (s : State) (places : DeferredTarget → Option ℕ) : Type 0 where
  pub within : n ≤ length s.bytes
  pub reads : ReadsEach readings (take n s.bytes)
  pub unpatched : EachUnpatched readings
  pub told : places_told (uses_of s.notices) ≡ fields_from 0 readings ++ more
  pub bound : (target : DeferredTarget) (place : ℕ) → places target ≡ Some place → (Begins 0 readings place ⊎ (n ≤ place)) × (place ≤ length s.bytes)

-- It is filled to its end with one reading more, of what is meant.
pub record FilledOn (meant : Parts) (readings : List Reading) (s : State) (places : DeferredTarget → Option ℕ) : Type 0 where
  pub reading : Reading
  pub same : Same reading meant
  pub filled : Filled (readings ++ reading ∷ []) (length s.bytes) s places

-- a place whose address, for any values of the registers, is this
abbrev pub HasAddress : Option Place → ℕ → ℕ → Type 0
HasAddress None end place = ⊥
HasAddress (Some found) end place = (regs : List ℕ) → address_of found regs end ≡ Some (modulo_64_bits (pos place))

-- a reading that differs in its place alone, whose address is the position that the target is bound to
pub record Leads (places : DeferredTarget → Option ℕ) (target : DeferredTarget) (end : ℕ) (old new : Reading) : Type 0 where
  pub bound_to : ℕ
  pub is_bound : places target ≡ Some bound_to
  pub same : new ≡ record old { place = new.place }
  pub leads : HasAddress new.place end bound_to

-- The reading of a relative place goes with the next use: a label's or a constant's leads there; any other is as before.
abbrev pub SettledBy : (DeferredTarget → Option ℕ) → ℕ → Reading → List Use → Reading → Type 0
SettledBy places end old [] new = ⊥
SettledBy places end old ((at, target.Label label) ∷ later) new = Leads places (target.Label label) end old new
SettledBy places end old ((at, target.Constant constant) ∷ later) new = Leads places (target.Constant constant) end old new
SettledBy places end old ((at, target.None) ∷ later) new = new ≡ old

abbrev pub SettledAs : (DeferredTarget → Option ℕ) → ℕ → Reading → Option Place → List Use → Reading → Type 0
SettledAs places end old None uses new = new ≡ old
SettledAs places end old (Some (Reg view)) uses new = new ≡ old
SettledAs places end old (Some (Mem base index disp)) uses new = new ≡ old
SettledAs places end old (Some (Rip disp)) uses new = SettledBy places end old uses new

-- the uses behind those of a reading with this place
abbrev pub uses_behind : Option Place → List Use → List Use
uses_behind None uses = uses
uses_behind (Some (Reg view)) uses = uses
uses_behind (Some (Mem base index disp)) uses = uses
uses_behind (Some (Rip disp)) uses = drop 1 uses

-- each reading and what it has become, where the first begins after so many bytes
abbrev pub Settled : (DeferredTarget → Option ℕ) → ℕ → List Reading → List Use → List Reading → Type 0
Settled places at [] uses new = new ≡ []
Settled places at (r ∷ later) uses [] = ⊥
Settled places at (r ∷ later) uses (q ∷ new) = SettledAs places (at + r.length) r r.place uses q × Settled places (at + r.length) later (uses_behind r.place uses) new

-- The first n bytes read as before, with the same lengths and parts, save that each field of a label or a constant has the
-- bound position as its address.
pub record Finished (readings : List Reading) (n : ℕ) (s : State) (places : DeferredTarget → Option ℕ) (code : List ℕ) : Type 0 where
  pub now : List Reading
  pub reads : ReadsEach now (take n code)
  pub settled : Settled places 0 readings (uses_of s.notices) now
