-- A buffer that is laid out in instructions, each of which reads by its line, and of which some jump to labels.
use Rattle.std.specs.Prelude.{◌≡◌, ◌≤◌, ◌⊎◌, ℕ, zero, suc, ◌+◌, ◌-◌, ℤ, pos, ◌+ℤ◌, ◌-ℤ◌, Option, Some, None, option_map, option_and_then, List, [], ◌∷◌, ◌++◌, length, take, drop}
use Rattle.cax64_machine_code.specs.Address.{modulo_64_bits}
use Rattle.cax64_machine_code.specs.Line.{imm_bytes}
use Rattle.cax64_machine_code.specs.ReadLine.{LineReading, read_line, read_of, with_line}
use Rattle.cax64_machine_code.specs.Reading.{PartsOf}
use Rattle.cax64_machine_code.specs.declared.line.ImmField.TheVariants.{Simm}
use Rattle.cax64_machine_code.specs.declared.line.Line.{Line}
use Rattle.cax64_machine_code.specs.declared.line.TailField.TheVariants.{NoTail}
use Rattle.cax64_machine_code.specs.declared.reading.Place.{Place}
use Rattle.cax64_machine_code.specs.declared.reading.Place.TheVariants.{Reg, Mem, Rip}
use Rattle.cax64_machine_code.specs.declared.reading.Reading.{Reading}
use Rattle.cax64_sink.specs.Sink.{State}
use Rattle.cax64_sink.specs.declared.DeferredTarget.{DeferredTarget}
use Rattle.cax64_sink.specs.declared.DeferredTarget.TheVariants as target
use Rattle.x64_code_buffer.specs.Filled.{HasAddress, Unpatched, places_told, uses_behind}
use Rattle.x64_code_buffer.specs.Use.{Use, uses_of}

-- An instruction as it reads: whole, or a jump whose distance isn't there yet.
pub data Piece : Type 0 where
  whole : LineReading → Piece
  open_jump : LineReading → Piece

abbrev pub reading_in : Piece → LineReading
reading_in (whole r) = r
reading_in (open_jump r) = r

-- the readings of some pieces
abbrev pub readings_in : List Piece → List LineReading
readings_in [] = []
readings_in (p ∷ later) = reading_in p ∷ readings_in later

-- readings by rows as pieces, each by the line of its row
abbrev pub whole_pieces : List Reading → List Piece
whole_pieces [] = []
whole_pieces (r ∷ later) = whole (with_line r) ∷ whole_pieces later

-- what a reading by a line says but for its length
abbrev pub parts_in : LineReading → PartsOf Line
parts_in r = record { row = r.line; reg = r.reg; vvvv = r.vvvv; place = r.place; imm = r.imm }

-- how many bytes of immediate a reading's line has
abbrev pub line_imm_behind : LineReading → ℕ
line_imm_behind r = imm_bytes r.line.imm

-- where the displacement field of a reading begins: its four bytes stand before the immediate
abbrev pub line_field_place : LineReading → ℕ
line_field_place r = r.length - r.tail - line_imm_behind r + 1

-- the bytes read by these lines, whatever follows, as these readings, each of its own bytes, and nothing is left
abbrev pub LinesRead : List LineReading → List ℕ → Type 0
LinesRead [] bytes = bytes ≡ []
LinesRead (r ∷ later) bytes = ((rest : List ℕ) → read_line r.line (take r.length bytes ++ rest) ≡ Some r) × (1 ≤ r.length) × (r.length ≤ length bytes) × LinesRead later (drop r.length bytes)

-- The relative place of a whole piece leads to where the immediate begins; the distance of an open jump, the four bytes at
-- its end, is 0.
abbrev pub Open : Piece → Type 0
Open (whole r) = Unpatched (line_imm_behind r) r.place
Open (open_jump r) = (r.line.tail ≡ NoTail) × (r.line.imm ≡ Simm 4) × (r.imm ≡ Some (pos 0))

-- and so of each piece
abbrev pub EachOpen : List Piece → Type 0
EachOpen [] = Unit {0}
EachOpen (p ∷ later) = Open p × EachOpen later

-- the field of a relative place, where the reading begins after so many bytes
abbrev pub line_field_at : ℕ → LineReading → Option Place → List ℕ
line_field_at at r None = []
line_field_at at r (Some (Reg view)) = []
line_field_at at r (Some (Mem base index disp)) = []
line_field_at at r (Some (Rip disp)) = (at + line_field_place r) ∷ []

-- the field of a piece that begins after so many bytes: that of its relative place, or the last four bytes of a jump
abbrev pub piece_field : ℕ → Piece → List ℕ
piece_field at (whole r) = line_field_at at r r.place
piece_field at (open_jump r) = (at + r.length - 4) ∷ []

-- the fields of all pieces, in order
abbrev pub piece_fields : ℕ → List Piece → List ℕ
piece_fields at [] = []
piece_fields at (p ∷ later) = piece_field at p ++ piece_fields (at + (reading_in p).length) later

-- a position is where a piece begins
abbrev pub PieceBegins : ℕ → List Piece → ℕ → Type 0
PieceBegins at [] place = ⊥
PieceBegins at (p ∷ later) place = (place ≡ at) ⊎ PieceBegins (at + (reading_in p).length) later place

-- A buffer is laid out up to n in pieces: its first n bytes read as these; each relative place is unpatched, and the
-- distance of each open jump is 0; the targets told are, in order, one at the field of each; and each bound position is where a
-- piece begins, or behind them.
pub record Laid (pieces : List Piece) (n : ℕ) (s : State) (places : DeferredTarget → Option ℕ) : Type 0 where
  pub within : n ≤ length s.bytes
  pub reads : LinesRead (readings_in pieces) (take n s.bytes)
  pub opened : EachOpen pieces
  pub told : places_told (uses_of s.notices) ≡ piece_fields 0 pieces
  pub bound : (target : DeferredTarget) (place : ℕ) → places target ≡ Some place → (PieceBegins 0 pieces place ⊎ (n ≤ place)) × (place ≤ length s.bytes)

-- It is so but that uses at these positions are told besides, behind the others.
pub record LaidBefore (more : List ℕ) (pieces : List Piece) (n : ℕ) (s : State) (places : DeferredTarget → Option ℕ) : Type 0 where
  pub within : n ≤ length s.bytes
  pub reads : LinesRead (readings_in pieces) (take n s.bytes)
  pub opened : EachOpen pieces
  pub told : places_told (uses_of s.notices) ≡ piece_fields 0 pieces ++ more
  pub bound : (target : DeferredTarget) (place : ℕ) → places target ≡ Some place → (PieceBegins 0 pieces place ⊎ (n ≤ place)) × (place ≤ length s.bytes)

-- It is laid out to its end with one piece more, which reads as what is meant.
pub record LaidOn (kind : LineReading → Piece) (meant : PartsOf Line) (pieces : List Piece) (s : State) (places : DeferredTarget → Option ℕ) : Type 0 where
  pub reading : LineReading
  pub same : ◌≡◌ {A = PartsOf Line} (parts_in reading) meant
  pub laid : Laid (pieces ++ kind reading ∷ []) (length s.bytes) s places

-- a reading that differs in its place alone, whose address is the position that the target is bound to
pub record LineLeads (places : DeferredTarget → Option ℕ) (target : DeferredTarget) (end : ℕ) (old new : LineReading) : Type 0 where
  pub bound_to : ℕ
  pub is_bound : places target ≡ Some bound_to
  pub same : new ≡ record old { place = new.place }
  pub leads : HasAddress new.place end bound_to

-- The reading of a relative place goes with the next use: a label's or a constant's leads there; any other is as before.
abbrev pub LineSettledBy : (DeferredTarget → Option ℕ) → ℕ → LineReading → List Use → LineReading → Type 0
LineSettledBy places end old [] new = ⊥
LineSettledBy places end old ((at, target.Label label) ∷ later) new = LineLeads places (target.Label label) end old new
LineSettledBy places end old ((at, target.Constant constant) ∷ later) new = LineLeads places (target.Constant constant) end old new
LineSettledBy places end old ((at, target.None) ∷ later) new = new ≡ old

-- what a whole piece with this place has become
abbrev pub LineSettledAs : (DeferredTarget → Option ℕ) → ℕ → LineReading → Option Place → List Use → LineReading → Type 0
LineSettledAs places end old None uses new = new ≡ old
LineSettledAs places end old (Some (Reg view)) uses new = new ≡ old
LineSettledAs places end old (Some (Mem base index disp)) uses new = new ≡ old
LineSettledAs places end old (Some (Rip disp)) uses new = LineSettledBy places end old uses new

-- the position that a distance leads to from the end of its instruction, modulo 2 to the 64 (Intel SDM, volume 2, JMP)
abbrev pub led_to : Option ℤ → ℕ → Option ℕ
led_to None end = None
led_to (Some distance) end = Some (modulo_64_bits (pos end +ℤ distance))

-- a reading that differs in its distance alone, which leads from its end to the position that the target is bound to
pub record JumpsTo (places : DeferredTarget → Option ℕ) (target : DeferredTarget) (end : ℕ) (old new : LineReading) : Type 0 where
  pub bound_to : ℕ
  pub is_bound : places target ≡ Some bound_to
  pub same : new ≡ record old { imm = new.imm }
  pub distance : new.imm ≡ Some (pos bound_to -ℤ pos end)
  pub leads : led_to new.imm end ≡ Some (modulo_64_bits (pos bound_to))

-- An open jump goes with the next use, as a relative place does.
abbrev pub JumpSettledBy : (DeferredTarget → Option ℕ) → ℕ → LineReading → List Use → LineReading → Type 0
JumpSettledBy places end old [] new = ⊥
JumpSettledBy places end old ((at, target.Label label) ∷ later) new = JumpsTo places (target.Label label) end old new
JumpSettledBy places end old ((at, target.Constant constant) ∷ later) new = JumpsTo places (target.Constant constant) end old new
JumpSettledBy places end old ((at, target.None) ∷ later) new = new ≡ old

-- what a piece has become, by the next use if it has a field
abbrev pub PieceSettled : (DeferredTarget → Option ℕ) → ℕ → Piece → List Use → LineReading → Type 0
PieceSettled places end (whole r) uses new = LineSettledAs places end r r.place uses new
PieceSettled places end (open_jump r) uses new = JumpSettledBy places end r uses new

-- the uses behind those of a piece
abbrev pub uses_after : Piece → List Use → List Use
uses_after (whole r) uses = uses_behind r.place uses
uses_after (open_jump r) uses = drop 1 uses

-- each piece and what it has become, where the first begins after so many bytes
abbrev pub EachSettled : (DeferredTarget → Option ℕ) → ℕ → List Piece → List Use → List LineReading → Type 0
EachSettled places at [] uses new = new ≡ []
EachSettled places at (p ∷ later) uses [] = ⊥
EachSettled places at (p ∷ later) uses (q ∷ new) = PieceSettled places (at + (reading_in p).length) p uses q × EachSettled places (at + (reading_in p).length) later (uses_after p uses) new

-- The first n bytes read as before, with the same lengths and parts, save that each relative field of a label or a constant
-- has the bound position as its address, and the distance of each open jump to one leads there.
pub record LaidOut (pieces : List Piece) (n : ℕ) (s : State) (places : DeferredTarget → Option ℕ) (code : List ℕ) : Type 0 where
  pub now : List LineReading
  pub reads : LinesRead now (take n code)
  pub settled : EachSettled places 0 pieces (uses_of s.notices) now

-- so many readings, each by the first of some lines that reads what the one before left, and the rest
unfoldable pub read_all_of : List Line → List ℕ → ℕ → Option (List LineReading × List ℕ)
read_all_of lines bytes zero = Some ([], bytes)
read_all_of lines bytes (suc count) =
    option_and_then
    (λ first. option_map (λ later. (first ∷ later.0, later.1)) (read_all_of lines (drop first.length bytes) count))
    (read_of lines bytes)
