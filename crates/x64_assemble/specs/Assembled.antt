-- What a list of instructions, jumps to labels and positions of labels becomes in a buffer.
use Rattle.std.specs.Prelude.{◌≡◌, ℕ, suc, ◌+◌, ℤ, pos, ◌-ℤ◌, ◌==◌, if◌then◌else◌, Option, Some, None, option_map, unwrap_or, List, [], ◌∷◌, ◌++◌, length, sum, slice_index}
use Rattle.cax64_machine_code.specs.Reading.{PartsOf}
use Rattle.cax64_machine_code.specs.Rows.{line_of}
use Rattle.cax64_machine_code.specs.declared.line.Line.{Line}
use Rattle.cax64_machine_code.specs.declared.reading.Reading.{Reading}
use Rattle.cax64_machine_code.specs.declared.row.Row.{Row}
use Rattle.cax64_sink.specs.Sink.{State}
use Rattle.cax64_sink.specs.declared.DeferredTarget.{DeferredTarget}
use Rattle.cax64_sink.specs.declared.DeferredTarget.TheVariants as target
use Rattle.cax64_sink.specs.declared.Label.{Label}
use Rattle.cax64_sink.specs.declared.Notice.{Notice}
use Rattle.x64_code_buffer.specs.Jump.{jump_parts, long_row, short_row}
use Rattle.x64_code_buffer.specs.Filled.{Filled, FilledBefore, places_told}
use Rattle.x64_code_buffer.specs.Laid.{Laid, LaidBefore, LinesRead, Piece, open_jump, parts_in, reading_in, readings_in, whole}
use Rattle.x64_code_buffer.specs.Use.{uses_of}
use Rattle.x64_code_buffer.specs.declared.jump.Jump.{Jump}
use Rattle.x64_code_buffer.specs.declared.jump.Jump.TheVariants.{Always, Call, If}
use Rattle.x64_layout.specs.Layout.{IsLeast, place_in}
use Rattle.x64_layout.specs.declared.span.Span.{Span}
use Rattle.x64_assemble.specs.Listed.{Listed, use_told}
use Rattle.x64_assemble.specs.declared.item.Item.{Item}
use Rattle.x64_assemble.specs.declared.item.Item.TheVariants as item

-- how many spans a list has: instructions and jumps
abbrev pub entries : {I : Type 0} → List (Item I) → ℕ
entries [] = 0
entries (item.Inst inst ∷ later) = suc (entries later)
entries (item.Jump jump to ∷ later) = suc (entries later)
entries (item.Bind bound ∷ later) = entries later

-- how many spans stand in front of a label's position, if the list has it
abbrev pub spot_of : {I : Type 0} → ℕ → List (Item I) → Option ℕ
spot_of label [] = None
spot_of label (item.Inst inst ∷ later) = option_map suc (spot_of label later)
spot_of label (item.Jump jump to ∷ later) = option_map suc (spot_of label later)
spot_of label (item.Bind bound ∷ later) = if bound.0 == label then Some 0 else spot_of label later

-- how many bytes a jump has with four bytes of distance (Intel SDM, volume 2, CALL, JMP and Jcc)
abbrev pub long_len : Jump → ℕ
long_len Call = 5
long_len Always = 5
long_len (If condition) = 6

-- a jump to a label of the list has two lengths; a call, and a jump to another label, one: the longer form's, even where the
-- buffer has bound that label
abbrev pub span_of : Jump → Option ℕ → Span
span_of jump None = record { least = long_len jump; more = 0; spot = None }
span_of Call (Some spot) = record { least = 5; more = 0; spot = None }
span_of Always (Some spot) = record { least = 2; more = 3; spot = Some spot }
span_of (If condition) (Some spot) = record { least = 2; more = 4; spot = Some spot }

-- the spans of a list, of which `all` has the labels, by what may be their lengths
abbrev pub spans_of : {I : Type 0} → (I → ℕ) → List (Item I) → List (Item I) → List Span
spans_of len all [] = []
spans_of len all (item.Inst inst ∷ later) = record { least = len inst; more = 0; spot = None } ∷ spans_of len all later
spans_of len all (item.Jump jump to ∷ later) = span_of jump (spot_of to.0 all) ∷ spans_of len all later
spans_of len all (item.Bind bound ∷ later) = spans_of len all later

-- the distance from the end of the n-th span to the position of another
abbrev pub distance_in : List ℕ → ℕ → ℕ → ℤ
distance_in lens n spot = pos (place_in lens spot) -ℤ pos (place_in lens (n + 1))

-- the row of a jump of so many bytes: two are those of the form with one byte of distance
abbrev pub row_of_len : Jump → ℕ → Row
row_of_len jump len = if len == 2 then unwrap_or (short_row jump) (long_row jump) else long_row jump

-- a piece that is whole reads as this
abbrev pub WholeReads : PartsOf Line → Piece → Type 0
WholeReads meant (whole r) = ◌≡◌ {A = PartsOf Line} (parts_in r) meant
WholeReads meant (open_jump r) = ⊥

-- and a jump whose distance isn't there yet
abbrev pub OpenReads : PartsOf Line → Piece → Type 0
OpenReads meant (whole r) = ⊥
OpenReads meant (open_jump r) = ◌≡◌ {A = PartsOf Line} (parts_in r) meant

-- what a jump that is the n-th span is read as: by its distance to its spot; or open, if the list doesn't bind its label
abbrev pub JumpReads : List ℕ → ℕ → Jump → Option ℕ → Piece → Type 0
JumpReads lens n jump None p = OpenReads (jump_parts (line_of (long_row jump)) (pos 0)) p
JumpReads lens n jump (Some spot) p = WholeReads (jump_parts (line_of (row_of_len jump (slice_index lens n))) (distance_in lens n spot)) p

-- each instruction and jump, in order, with what it is read as, where the first is the n-th span; each has the length that
-- the layout gives it
abbrev pub EachReads : {I : Type 0} → (I → Listed) → List ℕ → List (Item I) → ℕ → List (Item I) → List Piece → Type 0
EachReads meant lens all n [] pieces = pieces ≡ []
EachReads meant lens all n (item.Bind bound ∷ later) pieces = EachReads meant lens all n later pieces
EachReads meant lens all n (item.Inst inst ∷ later) [] = ⊥
EachReads meant lens all n (item.Inst inst ∷ later) (p ∷ pieces) = WholeReads (meant inst).parts p × ((reading_in p).length ≡ slice_index lens n) × EachReads meant lens all (n + 1) later pieces
EachReads meant lens all n (item.Jump jump to ∷ later) [] = ⊥
EachReads meant lens all n (item.Jump jump to ∷ later) (p ∷ pieces) = JumpReads lens n jump (spot_of to.0 all) p × ((reading_in p).length ≡ slice_index lens n) × EachReads meant lens all (n + 1) later pieces

-- what a jump tells: the use of its label, if the list doesn't bind it
abbrev pub jump_told : Option ℕ → Label → ℕ → Piece → List Notice
jump_told None to at p = use_told (target.Label to) at p
jump_told (Some spot) to at p = []

-- what all of them tell, in order, where the first begins after so many bytes
abbrev pub all_told : {I : Type 0} → (I → Listed) → List (Item I) → ℕ → List (Item I) → List Piece → List Notice
all_told meant all at [] pieces = []
all_told meant all at (item.Bind bound ∷ later) pieces = all_told meant all at later pieces
all_told meant all at (item.Inst inst ∷ later) [] = []
all_told meant all at (item.Inst inst ∷ later) (p ∷ pieces) = (meant inst).tells at p ++ all_told meant all (at + (reading_in p).length) later pieces
all_told meant all at (item.Jump jump to ∷ later) [] = []
all_told meant all at (item.Jump jump to ∷ later) (p ∷ pieces) = jump_told (spot_of to.0 all) to at p ++ all_told meant all (at + (reading_in p).length) later pieces

-- a target that the list doesn't bind
abbrev pub IsNoLabelOf : {I : Type 0} → List (Item I) → DeferredTarget → Type 0
IsNoLabelOf items (target.Label label) = spot_of label.0 items ≡ None
IsNoLabelOf items (target.Constant constant) = Unit {0}
IsNoLabelOf items target.None = Unit {0}

-- A buffer has got a list: behind the pieces that were there one for each instruction and jump; behind what was told of them
-- what each of these tells, in order; each label of the list is bound to the position of its spot, and no other binding
-- changes; the lengths are the least.
pub record Assembled {I : Type 0} (meant : I → Listed) (items : List (Item I)) (pieces : List Piece) (before after : State) (old new : DeferredTarget → Option ℕ) : Type 0 where
  pub lens : List ℕ
  pub least : IsLeast (spans_of (λ i. (meant i).len) items items) lens
  pub more : List Piece
  pub reads : EachReads meant lens items 0 items more
  pub laid : Laid (pieces ++ more) (length after.bytes) after new
  pub told : after.notices ≡ before.notices ++ all_told meant items (length before.bytes) items more
  pub bound : (label spot : ℕ) → spot_of label items ≡ Some spot → new (target.Label (record { 0 = label })) ≡ Some (length before.bytes + place_in lens spot)
  pub others : (target : DeferredTarget) → IsNoLabelOf items target → new target ≡ old target
  pub length : length after.bytes ≡ length before.bytes + sum lens

-- A buffer has got a list, whatever stood in it: behind its bytes those of one piece for each instruction and jump, which read
-- so; behind what was told what each of these tells, in order; each label of the list is bound to the position of its spot, and no
-- other binding changes; the lengths are the least. Whatever it was filled with or laid out in up to some position, it is still, but
-- that the uses of the list are told besides.
pub record PutsList {I : Type 0} (meant : I → Listed) (items : List (Item I)) (before after : State) (old new : DeferredTarget → Option ℕ) : Type 0 where
  pub lens : List ℕ
  pub least : IsLeast (spans_of (λ i. (meant i).len) items items) lens
  pub pieces : List Piece
  pub reads : EachReads meant lens items 0 items pieces
  pub added : List ℕ
  pub read : LinesRead (readings_in pieces) added
  pub bytes : after.bytes ≡ before.bytes ++ added
  pub told : after.notices ≡ before.notices ++ all_told meant items (length before.bytes) items pieces
  pub bound : (label spot : ℕ) → spot_of label items ≡ Some spot → new (target.Label (record { 0 = label })) ≡ Some (length before.bytes + place_in lens spot)
  pub others : (target : DeferredTarget) → IsNoLabelOf items target → new target ≡ old target
  pub filled : (readings : List Reading) (n : ℕ) → Filled readings n before old → FilledBefore (places_told (uses_of (all_told meant items (length before.bytes) items pieces))) readings n after new
  pub laid : (front : List Piece) (n : ℕ) → Laid front n before old → LaidBefore (places_told (uses_of (all_told meant items (length before.bytes) items pieces))) front n after new
  pub length : length added ≡ sum lens
