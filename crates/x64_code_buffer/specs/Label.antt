-- Where labels are bound.
use Rattle.std.specs.Prelude.{ℕ, ◌+◌, ◌-◌, nat_lt, ◌==◌, if◌then◌else◌, Option, Some, None, slice_index_or, vec_len, vec_capacity}
use Rattle.x64_code_buffer.specs.declared.labels.Labels.{Labels}
use Rattle.x64_code_buffer.specs.declared.labels.TheConstants.{FIRST}
use Rattle.x64_code_buffer.specs.declared.slot.Slot.{Slot}

-- the position that a slot holds: none where it holds 0, and else the number before
abbrev pub slot_place : Slot → Option ℕ
slot_place s = if s.after == 0 then None else Some (s.after - 1)

abbrev pub no_slot : Slot
no_slot = record { after = 0 }

-- the slot of the label of a number: one of the first, or of the list of the others
abbrev pub label_slot : {A : Type 0} → Labels A → ℕ → Slot
label_slot l number = if nat_lt number FIRST then slice_index_or l.first number no_slot else slice_index_or l.others.items (number - FIRST) no_slot

-- the position that the label of a number is bound to, where that one was given
unfoldable pub label_place : {A : Type 0} → Labels A → ℕ → Option ℕ
label_place l number = if nat_lt number l.given then slot_place (label_slot l number) else None

-- how many more labels there is memory for
abbrev pub spare_labels : {A : Type 0} → Labels A → ℕ
spare_labels l = (FIRST - l.given) + (vec_capacity l.others - vec_len l.others)
