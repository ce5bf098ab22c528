-- Steps of items that are assembled.
use Rattle.std.specs.Prelude.{◌≡◌, ◌<◌, ◌≤◌, ◌⊎◌, ◌++◌, ℕ, ℤ, Option, Some, None, List, [], ◌∷◌, drop, length, slice_get, take}
use Rattle.cax64_encoder.specs.declared.fault.Fault.{Fault}
use Rattle.x64_plain.specs.Plain.{plain}
use Rattle.x64_plain.specs.Status.{fault_status}
use Rattle.x64_plain.specs.Told.{told}
use Rattle.x64_plain.specs.declared.status.TheConstants.{HQ_BAD_INST}
use Rattle.x64_plain.specs.declared.told.HqUse.{HqUse}
use Rattle.cax64_sink.specs.Sink.{State}
use Rattle.cax64_sink.specs.declared.DeferredTarget.{DeferredTarget}
use Rattle.cax64_sink.specs.declared.Notice.{Notice}
use Rattle.cax64_sink.specs.declared.Notice.TheVariants.{Trap, Target}
use Rattle.cax64_sink.specs.declared.DeferredTarget.TheVariants as target
use Rattle.huqmeris_c.specs.Encodes.{no_offsets}
use Rattle.huqmeris_c.specs.Data.{AreBound, items_of_code, data_from, data_in, data_of}
use Rattle.huqmeris_c.specs.Each.{none_done}
use Rattle.huqmeris_c.specs.Items.{Binds, CantBePut, NoneUnbound, RefersTo, RefusedAt, UnboundAt, at_item, jump_named}
use Rattle.huqmeris_c.specs.declared.data_items.TheConstants.{MOST_BYTES, MOST_POWER}
use Rattle.huqmeris_c.specs.declared.item.HqItem.{HqItem}
use Rattle.huqmeris_c.specs.declared.item.TheConstants.{HQ_ITEM_ALIGN, HQ_ITEM_BYTES, HQ_ITEM_CONSTANT, HQ_ITEM_INST, HQ_ITEM_LABEL}
use Rattle.huqmeris_c.specs.declared.progress.HqDone.{HqDone}
use Rattle.huqmeris_c.specs.declared.status.TheConstants.{HQ_BAD_ITEM, HQ_BAD_LABEL, HQ_BOUND_TWICE, HQ_NO_MEMORY, HQ_TOO_MANY, HQ_UNBOUND}
use Rattle.x64_assemble.specs.Assembled as laid_out
use Rattle.x64_assemble.specs.Listed.{Listed, listed}
use Rattle.x64_assemble.specs.Refused.{refusal_at}
use Rattle.x64_assemble.specs.declared.errors.LayoutError.{LayoutError}
use Rattle.x64_assemble.specs.declared.errors.LayoutError.TheVariants as refusal
use Rattle.x64_assemble.specs.declared.item.Item.{Item}
use Rattle.x64_assemble.specs.declared.item.Item.TheVariants as item
use Rattle.x64_code_buffer.specs.Binding.{AddsBinding, SamePlaces}
use Rattle.x64_code_buffer.specs.Buffer.{StaysFilled, buffer_state, label_count, places_of}
use Rattle.x64_code_buffer.specs.Laid.{Laid}
use Rattle.x64_code_buffer.specs.declared.buffer.CodeBuffer.{CodeBuffer}
use Rattle.x64_code_buffer.specs.declared.errors.BindError.TheVariants.{Unknown, Twice, NoMemory}
use Rattle.x64_core.specs.Core.{core_meant, fault_of}
use Rattle.x64_core.specs.View.{core_view}
use Rattle.x64_core.specs.declared.instruction.Core.{Core}
use Rattle.x64_layout.specs.declared.span.TheConstants.{MOST_SPANS}

-- the item that these integers are, and of its instruction that there is no other
abbrev pub Makes : HqItem → Item Core → Type 0
Makes integers (item.Inst core) = (integers.kind ≡ HQ_ITEM_INST) × (plain (core_view core) ≡ integers.inst) × ((other : Core) → plain (core_view other) ≡ integers.inst → core_view core ≡ core_view other)
Makes integers (item.Bind label) = (integers.kind ≡ HQ_ITEM_LABEL) × (label.0 ≡ integers.number)
Makes integers (item.Jump jump label) = (jump_named integers.kind ≡ Some jump) × (label.0 ≡ integers.number)

abbrev pub MakesEach : List HqItem → List (Item Core) → Type 0
MakesEach [] [] = Unit {0}
MakesEach [] (x ∷ list) = ⊥
MakesEach (integers ∷ items) [] = ⊥
MakesEach (integers ∷ items) (x ∷ list) = Makes integers x × MakesEach items list

-- A buffer has so many labels, and nothing else.
pub record Begun {A : Type 0} (count : ℕ) (b : CodeBuffer A) : Type 0 where
  pub labels : label_count b ≡ count
  pub bytes : (buffer_state b).bytes ≡ []
  pub notices : (buffer_state b).notices ≡ []
  pub offsets : (key : ℕ) → (buffer_state b).offsets key ≡ None
  pub places : (goes_to : DeferredTarget) → places_of b goes_to ≡ None
  pub laid : Laid [] 0 (buffer_state b) (places_of b)

-- what an instruction of a list becomes, and why it can't be put
abbrev pub core_becomes : Core → Listed
core_becomes core = listed (core_meant (core_view core)) no_offsets

abbrev pub core_fault : Core → Option Fault
core_fault core = fault_of no_offsets (core_view core)

-- A buffer that gave so many labels has got these items of code, and has nothing else.
pub record HasItems (given : ℕ) (items : List HqItem) (s : State) (places : DeferredTarget → Option ℕ) : Type 0 where
  pub list : List (Item Core)
  pub makes : MakesEach items list
  pub before : State
  pub old : DeferredTarget → Option ℕ
  pub bytes : before.bytes ≡ []
  pub notices : before.notices ≡ []
  pub none : (goes_to : DeferredTarget) → old goes_to ≡ None
  pub put : laid_out.Assembled core_becomes list [] before s old places
  pub tested : (n : ℕ) → refusal_at core_fault given old list n ≡ None

-- the integers of an item that isn't data are none: of no kind, or of no instruction
abbrev pub NoCode : HqItem → ℤ → Type 0
NoCode item status =
    ((status ≡ HQ_BAD_ITEM) × (item.kind ≡ HQ_ITEM_INST → ⊥) × (item.kind ≡ HQ_ITEM_LABEL → ⊥) × (jump_named item.kind ≡ None))
    ⊎ ((status ≡ HQ_BAD_INST) × (item.kind ≡ HQ_ITEM_INST) × ((core : Core) → plain (core_view core) ≡ item.inst → ⊥))

-- an item holds few enough bytes, or little padding
abbrev pub Holds : HqItem → Type 0
Holds item = ((item.kind ≡ HQ_ITEM_BYTES) × (item.number ≤ MOST_BYTES)) ⊎ ((item.kind ≡ HQ_ITEM_ALIGN) × (item.number ≤ MOST_POWER))

-- an item can stand where data does: the position of a label or of a constant, or one that holds something
abbrev pub IsDatum : HqItem → Type 0
IsDatum item = (item.kind ≡ HQ_ITEM_LABEL) ⊎ ((item.kind ≡ HQ_ITEM_CONSTANT) ⊎ Holds item)

abbrev pub AreData : List HqItem → Type 0
AreData rest = (k : ℕ) (item : HqItem) → slice_get rest k ≡ Some item → IsDatum item

-- the first that can't has this number
pub record BadDatum (rest : List HqItem) (number : ℕ) : Type 0 where
  pub item : HqItem
  pub there : slice_get rest number ≡ Some item
  pub bad : IsDatum item → ⊥
  pub first : (k : ℕ) (earlier : HqItem) → k < number → slice_get rest k ≡ Some earlier → IsDatum earlier

-- Items were listed: those of code, of which there are so many, and behind them stand data.
pub record ListedTo (items : List HqItem) (count : ℕ) (list : List (Item Core)) : Type 0 where
  pub within : count ≤ length items
  pub code : take count items ≡ items_of_code items
  pub rest : drop count items ≡ data_of items
  pub makes : MakesEach (items_of_code items) list
  pub are_data : AreData (data_of items)

-- what an item of data binds, where so many labels were given and so many bytes stand before it
abbrev pub BindsAt : ℕ → ℕ → HqItem → (DeferredTarget → Option ℕ) → (DeferredTarget → Option ℕ) → Type 0
BindsAt given at item old new =
    ((item.kind ≡ HQ_ITEM_LABEL) × (item.number < given) × AddsBinding (target.Label (record { 0 = item.number })) at old new)
    ⊎ (((item.kind ≡ HQ_ITEM_CONSTANT) × AddsBinding (target.Constant (record { 0 = item.number })) at old new)
    ⊎ ((item.kind ≡ HQ_ITEM_LABEL → ⊥) × (item.kind ≡ HQ_ITEM_CONSTANT → ⊥) × SamePlaces old new))

-- A buffer has got an item of data.
pub record PutsDatum {A : Type 0} (item : HqItem) (old new : CodeBuffer A) : Type 0 where
  pub bytes : (buffer_state new).bytes ≡ (buffer_state old).bytes ++ data_in (length (buffer_state old).bytes) item
  pub notices : (buffer_state new).notices ≡ (buffer_state old).notices
  pub binds : BindsAt (label_count old) (length (buffer_state old).bytes) item (places_of old) (places_of new)
  pub filled : StaysFilled old new

-- why it hasn't: there was no memory; or the label's number is too large; or the label or the constant has a position
abbrev pub DatumRefused : ℕ → (DeferredTarget → Option ℕ) → HqItem → ℤ → Type 0
DatumRefused given places item status =
    (status ≡ HQ_NO_MEMORY)
    ⊎ (((status ≡ HQ_BAD_LABEL) × (item.kind ≡ HQ_ITEM_LABEL) × (given ≤ item.number))
    ⊎ (((status ≡ HQ_BOUND_TWICE) × (item.kind ≡ HQ_ITEM_LABEL) × ((place : ℕ) × (places (target.Label (record { 0 = item.number })) ≡ Some place)))
    ⊎ ((status ≡ HQ_BOUND_TWICE) × (item.kind ≡ HQ_ITEM_CONSTANT) × ((place : ℕ) × (places (target.Constant (record { 0 = item.number })) ≡ Some place)))))

-- what has a position is what some items are the position of
pub record HasPlaces (places : DeferredTarget → Option ℕ) (items : List HqItem) : Type 0 where
  pub labels : (n : ℕ) → Binds HQ_ITEM_LABEL n items → places (target.Label (record { 0 = n })) ≡ None → ⊥
  pub only_labels : (n place : ℕ) → places (target.Label (record { 0 = n })) ≡ Some place → Binds HQ_ITEM_LABEL n items
  pub constants : (n : ℕ) → Binds HQ_ITEM_CONSTANT n items → places (target.Constant (record { 0 = n })) ≡ None → ⊥
  pub only_constants : (n place : ℕ) → places (target.Constant (record { 0 = n })) ≡ Some place → Binds HQ_ITEM_CONSTANT n items

-- A buffer that gave so many labels has got items of code, and behind them items of data.
pub record Behind (given : ℕ) (front done : List HqItem) (s : State) (places : DeferredTarget → Option ℕ) : Type 0 where
  pub before : State
  pub old : DeferredTarget → Option ℕ
  pub items : HasItems given front before old
  pub bytes : s.bytes ≡ before.bytes ++ data_from (length before.bytes) done
  pub notices : s.notices ≡ before.notices
  pub laid : Laid items.put.more (length before.bytes) s places
  pub stays : (goes_to : DeferredTarget) (place : ℕ) → old goes_to ≡ Some place → places goes_to ≡ Some place
  pub bound : AreBound places (length before.bytes) done
  pub are : HasPlaces places (front ++ done)

-- none of the first items of data behind these can't be put
abbrev pub NoneBehind : ℕ → List HqItem → List HqItem → ℕ → Type 0
NoneBehind given front rest number = (k : ℕ) (earlier : HqItem) (other : ℤ) → k < number → slice_get rest k ≡ Some earlier → CantBePut given (front ++ take k rest) earlier other → ⊥

-- the first item of data behind these that can't be put has this number
pub record FirstBehind (given : ℕ) (front rest : List HqItem) (number : ℕ) (status : ℤ) : Type 0 where
  pub item : HqItem
  pub there : slice_get rest number ≡ Some item
  pub why : CantBePut given (front ++ take number rest) item status
  pub first : NoneBehind given front rest number

-- there was no memory; or there are too many; or one is refused, by its number
abbrev pub Denied : List HqItem → ℕ → ℤ → Type 0
Denied items number status =
    (status ≡ HQ_NO_MEMORY)
    ⊎ (((status ≡ HQ_TOO_MANY) × (MOST_SPANS < length items))
    ⊎ RefusedAt items number status)

-- the traps that notices tell
abbrev pub traps_in : List Notice → List HqUse
traps_in [] = []
traps_in (Trap at code ∷ later) = told (Some (Trap at code)) ∷ traps_in later
traps_in (Target at goes_to ∷ later) = traps_in later

-- what is told of a list that can't be put
abbrev pub TellsOf : LayoutError → ℕ → ℤ → Type 0
TellsOf (refusal.Fault n why) number status = (number ≡ n) × (status ≡ fault_status why)
TellsOf (refusal.Bind n Unknown) number status = (number ≡ n) × (status ≡ HQ_BAD_LABEL)
TellsOf (refusal.Bind n Twice) number status = (number ≡ n) × (status ≡ HQ_BOUND_TWICE)
TellsOf (refusal.Bind n NoMemory) number status = status ≡ HQ_NO_MEMORY
TellsOf refusal.TooMany number status = status ≡ HQ_TOO_MANY
TellsOf refusal.NoMemory number status = status ≡ HQ_NO_MEMORY

-- a label or a constant isn't bound
abbrev pub LacksPlace : (DeferredTarget → Option ℕ) → DeferredTarget → Type 0
LacksPlace places (target.Label label) = places (target.Label label) ≡ None
LacksPlace places (target.Constant constant) = places (target.Constant constant) ≡ None
LacksPlace places target.None = ⊥

-- an item refers to what isn't bound
abbrev pub Opens : (DeferredTarget → Option ℕ) → HqItem → Type 0
Opens places item = (goes_to : DeferredTarget) × RefersTo item goes_to × LacksPlace places goes_to

-- none does
abbrev pub NoneOpens : (DeferredTarget → Option ℕ) → List HqItem → Type 0
NoneOpens places items = (k : ℕ) (item : HqItem) → slice_get items k ≡ Some item → Opens places item → ⊥

-- the first that does has this number
pub record OpenAt (places : DeferredTarget → Option ℕ) (items : List HqItem) (number : ℕ) : Type 0 where
  pub item : HqItem
  pub there : slice_get items number ≡ Some item
  pub opens : Opens places item
  pub first : (k : ℕ) (earlier : HqItem) → k < number → slice_get items k ≡ Some earlier → Opens places earlier → ⊥

-- the first item that refers to what has no position is told; or there is none, and this is answered
abbrev pub Unfinished : List HqItem → ℤ → HqDone → ℤ → Type 0
Unfinished items why done status =
    ((status ≡ HQ_UNBOUND) × UnboundAt items done.items × (done ≡ at_item done.items))
    ⊎ ((status ≡ why) × NoneUnbound items × (done ≡ none_done))
