-- The text of operands in five places is that of their list, and so is whether its registers have names.
use Rattle.std.proofs.Common.{◌≡◌, refl, ap, Bool, true, false, Option, None, List, [], ◌∷◌, ◌++◌, ℕ}
use Rattle.cax64_address.specs.declared.text.Dialect.{Dialect}
use Rattle.cax64_machine_code.specs.declared.row.Row.{Row}
use Rattle.cax64_operand.specs.Fold.{fold}
use Rattle.cax64_operand.specs.OperandList.{list_of}
use Rattle.cax64_operand.specs.declared.operand.Operands.{Operands}
use Rattle.cax64_operand.specs.declared.operand.Operands.TheVariants as operands
use Rattle.cax64_text.specs.Names.{Names}
use Rattle.cax64_text.specs.Operand.{has_register, listed, named_predicate, print_order}
use Rattle.cax64_text.specs.Slots.{listed_slots, no_slots, nop_slots, slots_in_order, slots_nameable, slots_text, with_slot}
use Rattle.cax64_text.specs.Style.{is_forward, style_of}
use Rattle.cax64_text.specs.Text.{head, nameable, text}
use Rattle.cax64_text.specs.declared.slots.Slots.{Slots}

abbrev pub slots_of : {R A B C D E F : Type 0} → Operands R A B C D E F → Slots R A B C D E F
slots_of o = fold no_slots with_slot nop_slots o

listed_in_order : {R A B C D E F : Type 0} (n : Names A B C D E F) (d : Dialect) (row : Row) (forward : Bool) (o : Operands R A B C D E F) → listed_slots n d row true (slots_in_order forward (slots_of o)) ≡ listed n d row true (print_order forward (list_of o))
listed_in_order n d row true operands.Zero = refl
listed_in_order n d row false operands.Zero = refl
listed_in_order n d row true (operands.One a) = refl
listed_in_order n d row false (operands.One a) = refl
listed_in_order n d row true (operands.Two a b) = refl
listed_in_order n d row false (operands.Two a b) = refl
listed_in_order n d row true (operands.Three a b c) = refl
listed_in_order n d row false (operands.Three a b c) = refl
listed_in_order n d row true (operands.Four a b c e) = refl
listed_in_order n d row false (operands.Four a b c e) = refl
listed_in_order n d row true (operands.Five a b c e f) = refl
listed_in_order n d row false (operands.Five a b c e f) = refl
listed_in_order n d row true (operands.Nop nop) = refl
listed_in_order n d row false (operands.Nop nop) = refl

-- what stands before the operands, and then these
abbrev headed : Dialect → Row → Bool → Option ℕ → List ℕ → List ℕ
headed d row register named rest = head d (style_of row) register named row ++ rest

pub slot_texts : {R A B C D E F : Type 0} (n : Names A B C D E F) (d : Dialect) (row : Row) (o : Operands R A B C D E F) → slots_text n d row (slots_of o) ≡ text n d row o
slot_texts n d row operands.Zero = ap (headed d row false None) (listed_in_order n d row (is_forward (style_of row)) operands.Zero)
slot_texts n d row (operands.One a) = ap (headed d row (has_register (a ∷ [])) (named_predicate (a ∷ []))) (listed_in_order n d row (is_forward (style_of row)) (operands.One a))
slot_texts n d row (operands.Two a b) = ap (headed d row (has_register (a ∷ b ∷ [])) (named_predicate (a ∷ b ∷ []))) (listed_in_order n d row (is_forward (style_of row)) (operands.Two a b))
slot_texts n d row (operands.Three a b c) = ap (headed d row (has_register (a ∷ b ∷ c ∷ [])) (named_predicate (a ∷ b ∷ c ∷ []))) (listed_in_order n d row (is_forward (style_of row)) (operands.Three a b c))
slot_texts n d row (operands.Four a b c e) = ap (headed d row (has_register (a ∷ b ∷ c ∷ e ∷ [])) (named_predicate (a ∷ b ∷ c ∷ e ∷ []))) (listed_in_order n d row (is_forward (style_of row)) (operands.Four a b c e))
slot_texts n d row (operands.Five a b c e f) = ap (headed d row (has_register (a ∷ b ∷ c ∷ e ∷ f ∷ [])) (named_predicate (a ∷ b ∷ c ∷ e ∷ f ∷ []))) (listed_in_order n d row (is_forward (style_of row)) (operands.Five a b c e f))
slot_texts n d row (operands.Nop nop) = refl

pub slot_nameables : {R A B C D E F : Type 0} (n : Names A B C D E F) (o : Operands R A B C D E F) → slots_nameable n (slots_of o) ≡ nameable n o
slot_nameables n operands.Zero = refl
slot_nameables n (operands.One a) = refl
slot_nameables n (operands.Two a b) = refl
slot_nameables n (operands.Three a b c) = refl
slot_nameables n (operands.Four a b c e) = refl
slot_nameables n (operands.Five a b c e f) = refl
slot_nameables n (operands.Nop nop) = refl
