-- Operands in five places, as texts keep them: the first ones are taken, in the order of visits.
use Rattle.std.specs.Prelude.{ℕ, Bool, true, false, ◌&&◌, ◌||◌, Option, Some, None, List, [], ◌∷◌, ◌++◌, if◌then◌else◌}
use Rattle.cax64_address.specs.declared.text.Dialect.{Dialect}
use Rattle.cax64_address.specs.declared.text.Dialect.TheVariants.{Xed}
use Rattle.cax64_machine_code.specs.declared.row.Row.{Row}
use Rattle.cax64_operand.specs.declared.nop.Nop.{Nop}
use Rattle.cax64_operand.specs.declared.operand.Operand.{Operand}
use Rattle.cax64_text.specs.Names.{Names}
use Rattle.cax64_text.specs.Operand.{first_of, is_register, named_operand, operand_nameable, piece, still_first}
use Rattle.cax64_text.specs.Style.{is_forward, style_of}
use Rattle.cax64_text.specs.Text.{has_xed, head, nop_text}
use Rattle.cax64_text.specs.declared.slots.Slots.{Slots}

abbrev pub no_slots : {R A B C D E F : Type 0} → Slots R A B C D E F
no_slots = record { nop = None; register = false; first = None; second = None; third = None; fourth = None; fifth = None }

abbrev pub nop_slots : {R A B C D E F : Type 0} → Nop → Slots R A B C D E F
nop_slots nop = record { nop = Some nop; register = false; first = None; second = None; third = None; fourth = None; fifth = None }

-- the same with one more operand before the others; five is the most that an instruction has
abbrev pub with_slot : {R A B C D E F : Type 0} → Operand R A B C D E F → Slots R A B C D E F → Slots R A B C D E F
with_slot o later = record { nop = later.nop; register = is_register o || later.register; first = Some o; second = later.first; third = later.second; fourth = later.third; fifth = later.fourth }

-- what the list of operands is asked, of one place

abbrev pub slot_nameable : {R A B C D E F : Type 0} → Names A B C D E F → Option (Operand R A B C D E F) → Bool
slot_nameable n None = true
slot_nameable n (Some o) = operand_nameable n o

abbrev pub slot_named : {R A B C D E F : Type 0} → Option (Operand R A B C D E F) → Option ℕ
slot_named None = None
slot_named (Some o) = named_operand o

abbrev pub slot_piece : {R A B C D E F : Type 0} → Names A B C D E F → Dialect → Row → Bool → Option (Operand R A B C D E F) → List ℕ
slot_piece n d row first None = []
slot_piece n d row first (Some o) = piece n d row first o

abbrev pub slot_still : {R A B C D E F : Type 0} → Dialect → Bool → Option (Operand R A B C D E F) → Bool
slot_still d first None = first
slot_still d first (Some o) = still_first d first o

-- the same of all places

abbrev pub slots_nameable : {R A B C D E F : Type 0} → Names A B C D E F → Slots R A B C D E F → Bool
slots_nameable n s = slot_nameable n s.first && (slot_nameable n s.second && (slot_nameable n s.third && (slot_nameable n s.fourth && (slot_nameable n s.fifth && true))))

abbrev pub slots_named : {R A B C D E F : Type 0} → Slots R A B C D E F → Option ℕ
slots_named s = first_of (slot_named s.first) (first_of (slot_named s.second) (first_of (slot_named s.third) (first_of (slot_named s.fourth) (first_of (slot_named s.fifth) None))))

abbrev pub listed_slots : {R A B C D E F : Type 0} → Names A B C D E F → Dialect → Row → Bool → List (Option (Operand R A B C D E F)) → List ℕ
listed_slots n d row first [] = []
listed_slots n d row first (s ∷ more) = slot_piece n d row first s ++ listed_slots n d row (slot_still d first s) more

-- in the order of visits, or from the last to the first
abbrev pub slots_in_order : {R A B C D E F : Type 0} → Bool → Slots R A B C D E F → List (Option (Operand R A B C D E F))
slots_in_order forward s =
    (if forward then s.first else s.fifth) ∷ (if forward then s.second else s.fourth) ∷ s.third ∷
    (if forward then s.fourth else s.second) ∷ (if forward then s.fifth else s.first) ∷ []

abbrev pub slots_text_or_nop : {R A B C D E F : Type 0} → Names A B C D E F → Dialect → Row → Slots R A B C D E F → Option Nop → List ℕ
slots_text_or_nop n d row s None =
    head d (style_of row) s.register (slots_named s) row
    ++ listed_slots n d row true (slots_in_order (is_forward (style_of row)) s)
slots_text_or_nop n d row s (Some nop) = nop_text d nop

-- the text in a dialect
abbrev pub slots_text : {R A B C D E F : Type 0} → Names A B C D E F → Dialect → Row → Slots R A B C D E F → List ℕ
slots_text n d row s = slots_text_or_nop n d row s s.nop

-- the text as XED prints it, of what has one
abbrev pub slots_xed_text : {R A B C D E F : Type 0} → Names A B C D E F → Row → Slots R A B C D E F → Option (List ℕ)
slots_xed_text n row s = if has_xed row s.nop then Some (slots_text n Xed row s) else None
