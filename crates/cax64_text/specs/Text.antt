-- Texts of instructions, from row and operands.
use Rattle.std.specs.Prelude.{ℕ, Bool, true, false, Option, Some, None, List, [], ◌∷◌, ◌++◌, codes, get_or, if◌then◌else◌}
use Rattle.cax64_address.specs.declared.text.Dialect.{Dialect}
use Rattle.cax64_address.specs.declared.text.Dialect.TheVariants.{Att, Xed}
use Rattle.cax64_machine_code.specs.declared.row.Row.{Row}
use Rattle.cax64_operand.specs.OperandList.{list_of, nop_of}
use Rattle.cax64_operand.specs.declared.nop.Nop.{Nop}
use Rattle.cax64_operand.specs.declared.nop.Nop.TheVariants as nop
use Rattle.cax64_operand.specs.declared.operand.Operands.{Operands}
use Rattle.cax64_text.specs.Mnemonic.{row_mnemonic, mnemonic_for, without_last}
use Rattle.cax64_text.specs.Names.{Names}
use Rattle.cax64_text.specs.Operand.{all_nameable, has_register, named_predicate, listed, print_order}
use Rattle.cax64_text.specs.Style.{style_of, is_forward, has_xed_text, after_predicate, marker}
use Rattle.cax64_text.specs.declared.style.Elements.{Elements}
use Rattle.cax64_text.specs.declared.style.Style.{Style}
use Rattle.cax64_text.specs.declared.style.Style.TheVariants.{Plain, Forward, Exchange, Shift, Call, Jump, Branch, Compare, VexCompare}

-- The names of predicates, by number. (Intel SDM, volume 2, `CMPPD`, tables 3-1 and 3-3.)
unfoldable pub predicates : List (List ℕ)
predicates =
    codes "eq" ∷ codes "lt" ∷ codes "le" ∷ codes "unord" ∷ codes "neq" ∷ codes "nlt" ∷ codes "nle" ∷ codes "ord" ∷
    codes "eq_uq" ∷ codes "nge" ∷ codes "ngt" ∷ codes "false" ∷ codes "neq_oq" ∷ codes "ge" ∷ codes "gt" ∷ codes "true" ∷
    codes "eq_os" ∷ codes "lt_oq" ∷ codes "le_oq" ∷ codes "unord_s" ∷ codes "neq_us" ∷ codes "nlt_uq" ∷ codes "nle_uq" ∷
    codes "ord_s" ∷ codes "eq_us" ∷ codes "nge_uq" ∷ codes "ngt_uq" ∷ codes "false_os" ∷ codes "neq_os" ∷
    codes "ge_oq" ∷ codes "gt_oq" ∷ codes "true_us" ∷ []

abbrev pub predicate_name : ℕ → List ℕ
predicate_name v = get_or predicates v []

-- a comparison's mnemonic: with the predicate in it, where it has a name
abbrev pub compare_head : List ℕ → Elements → Row → Option ℕ → List ℕ
compare_head before elements row None = row_mnemonic row
compare_head before elements row (Some v) = before ++ predicate_name v ++ after_predicate elements

-- What stands before the operands, from whether the operand that may be memory is a register, and the named predicate.
-- A shift of a register shows its 1, and a call and a jump by an operand the star of an indirect one.
abbrev pub att_head : Style → Bool → Option ℕ → Row → List ℕ
att_head Plain register named row = mnemonic_for register row ++ codes " "
att_head Forward register named row = row_mnemonic row ++ codes " "
att_head Exchange register named row = row_mnemonic row ++ codes " "
att_head Shift true named row = row_mnemonic row ++ codes " $1, "
att_head Shift false named row = row_mnemonic row ++ codes " "
att_head Call register named row = row_mnemonic row ++ codes " *"
att_head Jump register named row = row_mnemonic row ++ codes " *"
att_head Branch register named row = row_mnemonic row ++ codes " "
att_head (Compare elements) register named row = compare_head (codes "cmp") elements row named ++ codes " "
att_head (VexCompare elements) register named row = compare_head (codes "vcmp") elements row named ++ codes " "

-- a comparison's mnemonic as XED prints it: with a mark for the width of its memory
abbrev pub marked_head : Elements → Bool → Row → List ℕ
marked_head elements true row = row_mnemonic row ++ codes " "
marked_head elements false row = row_mnemonic row ++ marker elements ++ codes " "

-- XED shows the 1 of a shift as an immediate, leaves out the letter of a width that a register shows, and marks the
-- width of a comparison's memory.
abbrev pub xed_head : Style → Bool → Row → List ℕ
xed_head Plain register row = mnemonic_for register row ++ codes " "
xed_head Forward register row = row_mnemonic row ++ codes " "
xed_head Exchange register row = row_mnemonic row ++ codes " "
xed_head Shift true row = without_last (row_mnemonic row) ++ codes " $0x1, "
xed_head Shift false row = row_mnemonic row ++ codes " $0x1, "
xed_head Call register row = row_mnemonic row ++ codes " "
xed_head Jump true row = codes "jmp "
xed_head Jump false row = row_mnemonic row ++ codes " "
xed_head Branch register row = row_mnemonic row ++ codes " "
xed_head (Compare elements) register row = marked_head elements register row
xed_head (VexCompare elements) register row = marked_head elements register row

abbrev pub head : Dialect → Style → Bool → Option ℕ → Row → List ℕ
head Att style register named row = att_head style register named row
head Xed style register named row = xed_head style register row

-- No-operations print as what their bytes are. (Intel SDM, volume 2, `NOP`, table 4-12.)
abbrev pub nop_text : Dialect → Nop → List ℕ
nop_text d nop.One = codes "nop"
nop_text Att nop.Two = codes "nop"
nop_text Xed nop.Two = codes "data16 nop"
nop_text d nop.Three = codes "nopl (%rax)"
nop_text d nop.Four = codes "nopl (%rax)"
nop_text Att nop.Five = codes "nopl (%rax, %rax)"
nop_text Xed nop.Five = codes "nopl (%rax,%rax,1)"
nop_text Att nop.Six = codes "nopw (%rax, %rax)"
nop_text Xed nop.Six = codes "nopw (%rax,%rax,1)"
nop_text d nop.Seven = codes "nopl (%rax)"
nop_text Att nop.Eight = codes "nopl (%rax, %rax)"
nop_text Xed nop.Eight = codes "nopl (%rax,%rax,1)"
nop_text Att nop.Nine = codes "nopw (%rax, %rax)"
nop_text Xed nop.Nine = codes "nopw (%rax,%rax,1)"

-- what an instruction is called
abbrev pub mnemonic : {R A B C D E F : Type 0} → Row → Operands R A B C D E F → List ℕ
mnemonic row operands = mnemonic_for (has_register (list_of operands)) row

-- each register that is printed has a text
abbrev pub nameable : {R A B C D E F : Type 0} → Names A B C D E F → Operands R A B C D E F → Bool
nameable n operands = all_nameable n (list_of operands)

abbrev pub text_or_nop : {R A B C D E F : Type 0} → Names A B C D E F → Dialect → Row → Operands R A B C D E F → Option Nop → List ℕ
text_or_nop n d row operands None =
    head d (style_of row) (has_register (list_of operands)) (named_predicate (list_of operands)) row
    ++ listed n d row true (print_order (is_forward (style_of row)) (list_of operands))
text_or_nop n d row operands (Some nop) = nop_text d nop

-- the text of an instruction in a dialect
abbrev pub text : {R A B C D E F : Type 0} → Names A B C D E F → Dialect → Row → Operands R A B C D E F → List ℕ
text n d row operands = text_or_nop n d row operands (nop_of operands)

abbrev pub has_xed : Row → Option Nop → Bool
has_xed row None = has_xed_text (style_of row)
has_xed row (Some nop) = true

-- the text as XED prints it, of what has one
abbrev pub xed_text : {R A B C D E F : Type 0} → Names A B C D E F → Row → Operands R A B C D E F → Option (List ℕ)
xed_text n row operands = if has_xed row (nop_of operands) then Some (text n Xed row operands) else None
