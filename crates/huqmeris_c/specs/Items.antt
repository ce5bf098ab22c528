use Rattle.std.specs.Prelude.{◌≡◌, ◌==◌, ◌||◌, ◌≤◌, ◌<◌, ◌+◌, ◌++◌, ◌⊎◌, Bool, true, false, ℕ, ℤ, pos, ◌-ℤ◌, if◌then◌else◌, Option, Some, None, List, [], ◌∷◌, drop, take, length, slice_get}
use Rattle.cax64_address.specs.declared.amode.Amode.{Amode}
use Rattle.cax64_address.specs.declared.amode.Amode.TheVariants.{ImmReg, ImmRegRegShift, RipRelative}
use Rattle.cax64_encoder.specs.Place.{memory_in}
use Rattle.cax64_machine_code.specs.ReadLine.{LineReading}
use Rattle.cax64_machine_code.specs.Reading.{PartsOf}
use Rattle.cax64_machine_code.specs.Rows.{line_of}
use Rattle.cax64_machine_code.specs.declared.line.Line.{Line}
use Rattle.cax64_machine_code.specs.declared.row.Row.{Row}
use Rattle.x64_plain.specs.Plain.{plain}
use Rattle.x64_plain.specs.declared.status.TheConstants.{HQ_BAD_INST, HQ_FULL, HQ_OK, HQ_OUT_OF_RANGE}
use Rattle.x64_plain.specs.declared.told.HqUse.{HqUse}
use Rattle.huqmeris_c.specs.Traps.{traps_told}
use Rattle.huqmeris_c.specs.declared.progress.HqDone.{HqDone}
use Rattle.huqmeris_c.specs.declared.data_items.TheConstants.{MOST_BYTES, MOST_POWER}
use Rattle.huqmeris_c.specs.declared.item.HqItem.{HqItem}
use Rattle.huqmeris_c.specs.declared.item.TheConstants.{HQ_ITEM_ALIGN, HQ_ITEM_BYTES, HQ_ITEM_CALL, HQ_ITEM_CONSTANT, HQ_ITEM_INST, HQ_ITEM_JA, HQ_ITEM_JAE, HQ_ITEM_JB, HQ_ITEM_JBE, HQ_ITEM_JE, HQ_ITEM_JG, HQ_ITEM_JGE, HQ_ITEM_JL, HQ_ITEM_JLE, HQ_ITEM_JMP, HQ_ITEM_JNE, HQ_ITEM_JNO, HQ_ITEM_JNP, HQ_ITEM_JNS, HQ_ITEM_JO, HQ_ITEM_JP, HQ_ITEM_JS, HQ_ITEM_LABEL}
use Rattle.huqmeris_c.specs.declared.status.TheConstants.{HQ_BAD_ITEM, HQ_BAD_LABEL, HQ_BOUND_TWICE, HQ_NO_MEMORY, HQ_TOO_MANY, HQ_UNBOUND}
use Rattle.cax64_sink.specs.declared.DeferredTarget.{DeferredTarget}
use Rattle.cax64_sink.specs.declared.DeferredTarget.TheVariants as target
use Rattle.huqmeris_c.specs.Data.{AreBound, items_of_code, data_from, data_of, is_data}
use Rattle.huqmeris_c.specs.Each.{HasFault, none_done}
use Rattle.huqmeris_c.specs.Encodes.{no_offsets}
use Rattle.x64_code_buffer.specs.Filled.{HasAddress}
use Rattle.x64_code_buffer.specs.Jump.{jump_parts, long_row, short_row}
use Rattle.x64_code_buffer.specs.Laid.{LinesRead, parts_in}
use Rattle.x64_code_buffer.specs.declared.jump.Jump.{Jump}
use Rattle.x64_code_buffer.specs.declared.jump.Condition.TheVariants as on
use Rattle.x64_code_buffer.specs.declared.jump.Jump.TheVariants as jump
use Rattle.x64_core.specs.Core.{core_len, core_meant}
use Rattle.x64_core.specs.View.{core_view}
use Rattle.x64_core.specs.declared.instruction.Core.{Core}
use Rattle.x64_assemble.specs.Assembled.{spans_of}
use Rattle.x64_assemble.specs.declared.item.Item.{Item}
use Rattle.x64_assemble.specs.declared.item.Item.TheVariants as item
use Rattle.x64_layout.specs.Layout.{IsLeast}
use Rattle.x64_layout.specs.declared.span.Span.{Span}
use Rattle.x64_layout.specs.declared.span.TheConstants.{MOST_SPANS}

-- What items of code become.

-- the kinds of items that are jumps, each with its jump
abbrev pub jumps : List (ℕ × Jump)
jumps =
    (HQ_ITEM_JMP, jump.Always)
    ∷ (HQ_ITEM_CALL, jump.Call)
    ∷ (HQ_ITEM_JO, jump.If on.O)
    ∷ (HQ_ITEM_JNO, jump.If on.No)
    ∷ (HQ_ITEM_JB, jump.If on.B)
    ∷ (HQ_ITEM_JAE, jump.If on.Ae)
    ∷ (HQ_ITEM_JE, jump.If on.E)
    ∷ (HQ_ITEM_JNE, jump.If on.Ne)
    ∷ (HQ_ITEM_JBE, jump.If on.Be)
    ∷ (HQ_ITEM_JA, jump.If on.A)
    ∷ (HQ_ITEM_JS, jump.If on.S)
    ∷ (HQ_ITEM_JNS, jump.If on.Ns)
    ∷ (HQ_ITEM_JP, jump.If on.P)
    ∷ (HQ_ITEM_JNP, jump.If on.Np)
    ∷ (HQ_ITEM_JL, jump.If on.L)
    ∷ (HQ_ITEM_JGE, jump.If on.Ge)
    ∷ (HQ_ITEM_JLE, jump.If on.Le)
    ∷ (HQ_ITEM_JG, jump.If on.G)
    ∷ []

-- the jump of a kind among these
abbrev pub jump_among : List (ℕ × Jump) → ℕ → Option Jump
jump_among [] kind = None
jump_among (first ∷ others) kind = if kind == first.0 then Some first.1 else jump_among others kind

-- the jump of a kind of items
abbrev pub jump_named : ℕ → Option Jump
jump_named kind = jump_among jumps kind

-- what a memory operand refers to that is relative to the end of its instruction
abbrev pub target_in : Option (Amode ℕ) → Option DeferredTarget
target_in None = None
target_in (Some (ImmReg base simm32 trap)) = None
target_in (Some (ImmRegRegShift base index scale simm32 trap)) = None
target_in (Some (RipRelative target)) = Some target

-- An instruction that ends here is read as what is meant but for its place, whose address is the position that this is bound to.
pub record LeadsTo (places : DeferredTarget → Option ℕ) (goes_to : DeferredTarget) (end : ℕ) (parts : PartsOf Line) (reading : LineReading) : Type 0 where
  pub place : ℕ
  pub bound : places goes_to ≡ Some place
  pub same : ◌≡◌ {A = PartsOf Line} (parts_in reading) (record parts { place = reading.place })
  pub leads : HasAddress reading.place end place

-- An instruction is read as what is meant; where it refers to a label or a constant, it leads there.
abbrev pub ReadAs : (DeferredTarget → Option ℕ) → ℕ → PartsOf Line → Option DeferredTarget → LineReading → Type 0
ReadAs places end parts None reading = ◌≡◌ {A = PartsOf Line} (parts_in reading) parts
ReadAs places end parts (Some (target.Label label)) reading = LeadsTo places (target.Label label) end parts reading
ReadAs places end parts (Some (target.Constant constant)) reading = LeadsTo places (target.Constant constant) end parts reading
ReadAs places end parts (Some target.None) reading = ◌≡◌ {A = PartsOf Line} (parts_in reading) parts

-- An item, where so many bytes stand before it, and what is said of the later ones.

-- an instruction, and what it is read as
pub record InstIs (places : DeferredTarget → Option ℕ) (Later : ℕ → List LineReading → Type 0) (at : ℕ) (item : HqItem) (readings : List LineReading) : Type 0 where
  pub kind : item.kind ≡ HQ_ITEM_INST
  pub core : Core
  pub is : plain (core_view core) ≡ item.inst
  pub reading : LineReading
  pub rest : List LineReading
  pub first : readings ≡ reading ∷ rest
  pub reads : ReadAs places (at + reading.length) (core_meant (core_view core) no_offsets).parts (target_in (memory_in (core_view core).place)) reading
  pub later : Later (at + reading.length) rest

-- a label, which is bound to this position
pub record LabelIs {T : Type 0} (places : DeferredTarget → Option ℕ) (Later : ℕ → T → Type 0) (at : ℕ) (item : HqItem) (readings : T) : Type 0 where
  pub kind : item.kind ≡ HQ_ITEM_LABEL
  pub bound : places (target.Label (record { 0 = item.number })) ≡ Some at
  pub later : Later at readings

-- a jump, which is read by one of its rows, and whose distance leads from its end to the position of its label
pub record JumpIs (places : DeferredTarget → Option ℕ) (Later : ℕ → List LineReading → Type 0) (at : ℕ) (item : HqItem) (readings : List LineReading) : Type 0 where
  pub jump : Jump
  pub kind : jump_named item.kind ≡ Some jump
  pub reading : LineReading
  pub rest : List LineReading
  pub first : readings ≡ reading ∷ rest
  pub row : Row
  pub form : (row ≡ long_row jump) ⊎ (short_row jump ≡ Some row)
  pub place : ℕ
  pub bound : places (target.Label (record { 0 = item.number })) ≡ Some place
  pub reads : ◌≡◌ {A = PartsOf Line} (parts_in reading) (jump_parts (line_of row) (pos place -ℤ pos (at + reading.length)))
  pub later : Later (at + reading.length) rest

-- Items, of which the first stands behind so many bytes, are read in turn so.
unfoldable pub ItemsAre : (DeferredTarget → Option ℕ) → List HqItem → ℕ → List LineReading → Type 0
ItemsAre places [] at readings = readings ≡ []
ItemsAre places (item ∷ later) at readings =
    InstIs places (ItemsAre places later) at item readings
    ⊎ (LabelIs places (ItemsAre places later) at item readings
    ⊎ JumpIs places (ItemsAre places later) at item readings)

-- Their least layout.

-- the item of a list that these integers are
abbrev pub ItemIs : HqItem → Item Core → Type 0
ItemIs integers (item.Inst core) = (integers.kind ≡ HQ_ITEM_INST) × (plain (core_view core) ≡ integers.inst)
ItemIs integers (item.Bind label) = (integers.kind ≡ HQ_ITEM_LABEL) × (label.0 ≡ integers.number)
ItemIs integers (item.Jump jump label) = (jump_named integers.kind ≡ Some jump) × (label.0 ≡ integers.number)

-- and so of each
abbrev pub ListIs : List HqItem → List (Item Core) → Type 0
ListIs [] [] = Unit {0}
ListIs [] (x ∷ list) = ⊥
ListIs (integers ∷ items) [] = ⊥
ListIs (integers ∷ items) (x ∷ list) = ItemIs integers x × ListIs items list

-- what may be the lengths of its instructions and jumps
abbrev pub list_spans : List (Item Core) → List Span
list_spans list = spans_of (λ core. core_len no_offsets (core_view core)) list list

-- how many bytes some readings have
abbrev pub lengths : List LineReading → List ℕ
lengths [] = []
lengths (reading ∷ later) = reading.length ∷ lengths later

-- Bytes are those of items. Those of code read in turn, whatever follows, as these, and nothing is left; and no choice of the
-- forms of the jumps makes one of them shorter. Behind them stand those of data.
pub record Assembled (items : List HqItem) (bytes : List ℕ) : Type 0 where
  pub code : List ℕ
  pub is : bytes ≡ code ++ data_from (length code) (data_of items)
  pub readings : List LineReading
  pub reads : LinesRead readings code
  pub places : DeferredTarget → Option ℕ
  pub are : ItemsAre places (items_of_code items) 0 readings
  pub bound : AreBound places (length code) (data_of items)
  pub list : List (Item Core)
  pub lists : ListIs (items_of_code items) list
  pub least : IsLeast (list_spans list) (lengths readings)

-- Why items aren't assembled.

-- one of some items has this kind and number: is the position of this label, or of this constant
abbrev pub Binds : ℕ → ℕ → List HqItem → Type 0
Binds kind number [] = ⊥
Binds kind number (item ∷ later) = ((item.kind ≡ kind) × (item.number ≡ number)) ⊎ Binds kind number later

-- one of some items is data
abbrev pub has_data : List HqItem → Bool
has_data [] = false
has_data (item ∷ later) = is_data item.kind || has_data later

-- an item of this kind is an instruction or a jump
abbrev pub IsCode : ℕ → Type 0
IsCode kind = (kind ≡ HQ_ITEM_INST) ⊎ ((jump : Jump) × (jump_named kind ≡ Some jump))

-- The integers behind these are none: of no kind; code behind data; more bytes than a struct has, or padding to more than 64; or
-- of no instruction.
abbrev pub NoItem : List HqItem → HqItem → ℤ → Type 0
NoItem before item status =
    ((status ≡ HQ_BAD_ITEM) × (item.kind ≡ HQ_ITEM_INST → ⊥) × (item.kind ≡ HQ_ITEM_LABEL → ⊥) × (jump_named item.kind ≡ None) × (is_data item.kind ≡ false))
    ⊎ (((status ≡ HQ_BAD_ITEM) × IsCode item.kind × (has_data before ≡ true))
    ⊎ (((status ≡ HQ_BAD_ITEM) × (((item.kind ≡ HQ_ITEM_BYTES) × (MOST_BYTES < item.number)) ⊎ ((item.kind ≡ HQ_ITEM_ALIGN) × (MOST_POWER < item.number))))
    ⊎ ((status ≡ HQ_BAD_INST) × (item.kind ≡ HQ_ITEM_INST) × (has_data before ≡ false) × ((core : Core) → plain (core_view core) ≡ item.inst → ⊥))))

-- one can't be put behind these, among so many: the instruction has a fault; or the label's number isn't below theirs; or the
-- label or the constant has a position already
abbrev pub CantBePut : ℕ → List HqItem → HqItem → ℤ → Type 0
CantBePut count before item status =
    ((item.kind ≡ HQ_ITEM_INST) × HasFault item.inst status)
    ⊎ (((status ≡ HQ_BAD_LABEL) × (item.kind ≡ HQ_ITEM_LABEL) × (count ≤ item.number))
    ⊎ ((status ≡ HQ_BOUND_TWICE) × ((item.kind ≡ HQ_ITEM_LABEL) ⊎ (item.kind ≡ HQ_ITEM_CONSTANT)) × Binds item.kind item.number before))

-- the first that is refused so has this number
pub record FirstRefused (Refused : List HqItem → HqItem → ℤ → Type 0) (items : List HqItem) (number : ℕ) (status : ℤ) : Type 0 where
  pub item : HqItem
  pub there : slice_get items number ≡ Some item
  pub why : Refused (take number items) item status
  pub first : (k : ℕ) (earlier : HqItem) (other : ℤ) → k < number → slice_get items k ≡ Some earlier → Refused (take k items) earlier other → ⊥

-- each is an item
abbrev pub AreItems : List HqItem → Type 0
AreItems items = (k : ℕ) (item : HqItem) (status : ℤ) → slice_get items k ≡ Some item → NoItem (take k items) item status → ⊥

-- the first that is none; or all are items, and it's the first that can't be put
abbrev pub RefusedAt : List HqItem → ℕ → ℤ → Type 0
RefusedAt items number status =
    FirstRefused NoItem items number status
    ⊎ (AreItems items × FirstRefused (CantBePut (length items)) items number status)

-- each is an item, and can be put behind those before it
abbrev pub NoneRefused : List HqItem → Type 0
NoneRefused items = AreItems items × ((k : ℕ) (item : HqItem) (status : ℤ) → slice_get items k ≡ Some item → CantBePut (length items) (take k items) item status → ⊥)

-- there was no memory, or there are too many, and none is named; or one is refused
abbrev pub Unlisted : List HqItem → ℕ → ℤ → Type 0
Unlisted items number status =
    ((status ≡ HQ_NO_MEMORY) × (number ≡ 0))
    ⊎ (((status ≡ HQ_TOO_MANY) × (MOST_SPANS < length items) × (number ≡ 0))
    ⊎ RefusedAt items number status)

-- what an item refers to
abbrev pub RefersTo : HqItem → DeferredTarget → Type 0
RefersTo item goes_to =
    ((item.kind ≡ HQ_ITEM_INST) × ((core : Core) × (plain (core_view core) ≡ item.inst) × (target_in (memory_in (core_view core).place) ≡ Some goes_to)))
    ⊎ (((jump : Jump) × (jump_named item.kind ≡ Some jump)) × (goes_to ≡ target.Label (record { 0 = item.number })))

-- no item is the position of this label or constant
abbrev pub IsPlaceless : List HqItem → DeferredTarget → Type 0
IsPlaceless items (target.Label label) = Binds HQ_ITEM_LABEL label.0 items → ⊥
IsPlaceless items (target.Constant constant) = Binds HQ_ITEM_CONSTANT constant.0 items → ⊥
IsPlaceless items target.None = ⊥

-- the first that refers to what has no position has this number
pub record UnboundAt (items : List HqItem) (number : ℕ) : Type 0 where
  pub item : HqItem
  pub there : slice_get items number ≡ Some item
  pub goes_to : DeferredTarget
  pub refers : RefersTo item goes_to
  pub unbound : IsPlaceless items goes_to
  pub first : (k : ℕ) (earlier : HqItem) (other : DeferredTarget) → k < number → slice_get items k ≡ Some earlier → RefersTo earlier other → IsPlaceless items other → ⊥

-- none refers to what has no position
abbrev pub NoneUnbound : List HqItem → Type 0
NoneUnbound items = (k : ℕ) (item : HqItem) (goes_to : DeferredTarget) → slice_get items k ≡ Some item → RefersTo item goes_to → IsPlaceless items goes_to → ⊥

-- It's told how many items, bytes and traps all of them have.
pub record Counted (items : List HqItem) (done : HqDone) : Type 0 where
  pub added : List ℕ
  pub assembled : Assembled items added
  pub traps : List HqUse
  pub are : traps ≡ traps_told assembled.list 0 assembled.readings
  pub number : done.items ≡ length items
  pub len : done.bytes ≡ length added
  pub count : done.uses ≡ length traps

-- what is told where nothing is put: the number of the item that is named, and 0 where none is
abbrev pub at_item : ℕ → HqDone
at_item number = record none_done { items = number }

-- Nothing was put, though no item is refused: what one refers to has no position, or is too far; or there is too little room for what
-- all of them have, which is told.
abbrev pub NotFinished : List HqItem → ℕ → ℕ → HqDone → ℤ → Type 0
NotFinished items room places done status =
    ((status ≡ HQ_UNBOUND) × UnboundAt items done.items × (done ≡ at_item done.items))
    ⊎ (((status ≡ HQ_OUT_OF_RANGE) × NoneUnbound items × (done ≡ none_done))
    ⊎ ((status ≡ HQ_FULL) × Counted items done × ((room < done.bytes) ⊎ (places < done.uses))))

-- why nothing was put
abbrev pub NotAssembled : List HqItem → ℕ → ℕ → HqDone → ℤ → Type 0
NotAssembled items room places done status =
    (Unlisted items done.items status × (done ≡ at_item done.items))
    ⊎ (NoneRefused items × NotFinished items room places done status)

-- The bytes of all items stand at the front, as many as told, and so do the traps of the code; behind them all is as before.
pub record AssembledTo (items : List HqItem) (code code' : List ℕ) (uses uses' : List HqUse) (done : HqDone) : Type 0 where
  pub counted : Counted items done
  pub front : code' ≡ counted.added ++ drop done.bytes code
  pub told : uses' ≡ counted.traps ++ drop done.uses uses

abbrev pub AssembledAs : List HqItem → List ℕ → List ℕ → List HqUse → List HqUse → HqDone → ℤ → Type 0
AssembledAs items code code' uses uses' done status =
    ((status ≡ HQ_OK) × NoneRefused items × AssembledTo items code code' uses uses' done)
    ⊎ ((code' ≡ code) × (uses' ≡ uses) × NotAssembled items (length code) (length uses) done status)
