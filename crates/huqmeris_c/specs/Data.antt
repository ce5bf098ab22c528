-- Data behind code.
use Rattle.std.specs.Int.{cast_unsigned, to_le_bytes, w16, w32}
use Rattle.std.specs.Prelude.{◌≡◌, ◌==◌, ◌||◌, ◌+◌, ◌^◌, ◌++◌, ℕ, Bool, if◌then◌else◌, Option, Some, List, [], ◌∷◌, length, replicate, take}
use Rattle.x64_plain.specs.declared.inst.HqInst.{HqInst}
use Rattle.cax64_sink.specs.declared.DeferredTarget.{DeferredTarget}
use Rattle.cax64_sink.specs.declared.DeferredTarget.TheVariants as target
use Rattle.huqmeris_c.specs.declared.item.HqItem.{HqItem}
use Rattle.huqmeris_c.specs.declared.item.TheConstants.{HQ_ITEM_ALIGN, HQ_ITEM_BYTES, HQ_ITEM_CONSTANT, HQ_ITEM_LABEL}
use Rattle.x64_code_buffer.specs.Padding.{missing_to}

-- The first item that is data begins it: behind it only data and positions of labels stand.

-- the position of a constant, bytes, and padding are data
abbrev pub is_data : ℕ → Bool
is_data kind = kind == HQ_ITEM_CONSTANT || (kind == HQ_ITEM_BYTES || kind == HQ_ITEM_ALIGN)

-- the items of code
abbrev pub items_of_code : List HqItem → List HqItem
items_of_code [] = []
items_of_code (item ∷ later) = if is_data item.kind then [] else item ∷ items_of_code later

-- the items from the first one on that is data
abbrev pub data_of : List HqItem → List HqItem
data_of [] = []
data_of (item ∷ later) = if is_data item.kind then item ∷ later else data_of later

-- the 24 bytes of a struct, as they stand in memory
abbrev pub struct_bytes : HqInst → List ℕ
struct_bytes i =
    to_le_bytes w16 i.line
    ++ (i.place ∷ i.reg ∷ i.vvvv ∷ i.base ∷ i.index ∷ i.scale ∷ i.trap ∷ i.has_offset ∷ i.offset ∷ i.reserved ∷ [])
    ++ to_le_bytes w32 (cast_unsigned w32 i.disp)
    ++ to_le_bytes w32 i.target
    ++ to_le_bytes w32 i.imm

-- what an item of data holds, behind so many bytes: as many bytes of its struct as its number says; or zeros, up to a multiple
-- of 2 to its number
abbrev pub data_in : ℕ → HqItem → List ℕ
data_in at item =
    if item.kind == HQ_ITEM_BYTES then take item.number (struct_bytes item.inst)
    else (if item.kind == HQ_ITEM_ALIGN then replicate (missing_to at (2 ^ item.number)) 0 else [])

-- what items of data hold, of which the first stands behind so many bytes
abbrev pub data_from : ℕ → List HqItem → List ℕ
data_from at [] = []
data_from at (item ∷ later) = data_in at item ++ data_from (at + length (data_in at item)) later

-- a label or a constant that an item is the position of is bound to this position
pub record IsBound (places : DeferredTarget → Option ℕ) (at : ℕ) (item : HqItem) : Type 0 where
  pub label : item.kind ≡ HQ_ITEM_LABEL → places (target.Label (record { 0 = item.number })) ≡ Some at
  pub constant : item.kind ≡ HQ_ITEM_CONSTANT → places (target.Constant (record { 0 = item.number })) ≡ Some at

-- and so of items of data, of which the first stands behind so many bytes
abbrev pub AreBound : (DeferredTarget → Option ℕ) → ℕ → List HqItem → Type 0
AreBound places at [] = Unit {0}
AreBound places at (item ∷ later) = IsBound places at item × AreBound places (at + length (data_in at item)) later
