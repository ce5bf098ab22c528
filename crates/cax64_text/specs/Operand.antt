-- Texts of operands.
use Rattle.std.specs.Prelude.{ℕ, ◌+◌, nat_lt, not, Bool, true, false, ◌&&◌, ◌||◌, if◌then◌else◌, ℤ, pos, negsuc, ◌+ℤ◌, Option, Some, None, List, [], ◌∷◌, ◌++◌, reverse, codes}
use Rattle.std.specs.Int.{cast_unsigned, w64}
use Rattle.cax64_address.specs.Text.{short_number, hexadecimal, amode_text, amode_nameable, gpr_mem_text, gpr_mem_nameable, xmm_mem_text, xmm_mem_nameable}
use Rattle.cax64_address.specs.declared.operand.GprMem.TheVariants as gpr_mem
use Rattle.cax64_address.specs.declared.operand.XmmMem.TheVariants as xmm_mem
use Rattle.cax64_address.specs.declared.text.Dialect.{Dialect}
use Rattle.cax64_address.specs.declared.text.Dialect.TheVariants.{Att, Xed}
use Rattle.cax64_immediate.specs.Text as immediate_text
use Rattle.cax64_machine_code.specs.Len.{opcode_len}
use Rattle.cax64_machine_code.specs.Line.{imm_bytes}
use Rattle.cax64_machine_code.specs.Rows.{line_of}
use Rattle.cax64_machine_code.specs.declared.line.Line.{Line}
use Rattle.cax64_machine_code.specs.declared.row.Row.{Row}
use Rattle.cax64_operand.specs.declared.immediate.Immediate.{Immediate}
use Rattle.cax64_operand.specs.declared.immediate.Immediate.TheVariants as imm
use Rattle.cax64_operand.specs.declared.operand.Operand.{Operand}
use Rattle.cax64_operand.specs.declared.operand.Operand.TheVariants.{ReadGpr, ReadWriteGpr, WriteGpr, WriteTwoGprs, FixedReadGpr, FixedReadWriteGpr, ReadXmm, ReadWriteXmm, WriteXmm, ReadAmode, ReadGprMem, ReadWriteGprMem, ReadXmmMem, Imm}
use Rattle.cax64_text.specs.Names.{Names}

-- how many bytes an opcode and its immediate have: all that a branch by a distance has, which asks for no prefix
abbrev pub opcode_and_imm_len : Line → ℕ
opcode_and_imm_len line = opcode_len line.opcode + imm_bytes line.imm

-- A branch's target, counted from the branch itself: one decimal digit up to 9, else the two's complement of 64 bits.
abbrev pub target_text : Dialect → ℤ → List ℕ
target_text Att (pos n) = short_number n
target_text Att (negsuc n) = hexadecimal (cast_unsigned w64 (negsuc n))
target_text Xed z = hexadecimal (cast_unsigned w64 z)

abbrev pub imm_text : Dialect → Row → Immediate → List ℕ
imm_text d row (imm.Imm8 v) = immediate_text.imm_text v
imm_text d row (imm.Imm16 v) = immediate_text.imm_text v
imm_text d row (imm.Imm32 v) = immediate_text.imm_text v
imm_text d row (imm.Simm8 v extension) = immediate_text.imm_text (immediate_text.extended8 extension v)
imm_text d row (imm.Simm32 v extension) = immediate_text.imm_text (immediate_text.extended32 extension v)
imm_text d row (imm.Distance8 v) = target_text d (v +ℤ pos (opcode_and_imm_len (line_of row)))
imm_text d row (imm.Distance32 v) = target_text d (v +ℤ pos (opcode_and_imm_len (line_of row)))
imm_text d row (imm.Predicate v) = immediate_text.imm_text v
imm_text d row (imm.VexPredicate v) = immediate_text.imm_text v

-- a predicate that has a name, which the ordinary text shows in the mnemonic
abbrev pub named_imm : Immediate → Option ℕ
named_imm (imm.Predicate v) = if nat_lt v 8 then Some v else None
named_imm (imm.VexPredicate v) = if nat_lt v 32 then Some v else None
named_imm i = None

abbrev pub imm_is_shown : Dialect → Immediate → Bool
imm_is_shown Att (imm.Predicate v) = not (nat_lt v 8)
imm_is_shown Att (imm.VexPredicate v) = not (nat_lt v 32)
imm_is_shown d i = true

-- A fixed register without a size isn't printed, nor a predicate whose name stands in the mnemonic.
abbrev pub is_shown : {R A B C D E F : Type 0} → Dialect → Operand R A B C D E F → Bool
is_shown d (FixedReadGpr r number None) = false
is_shown d (FixedReadWriteGpr r number None) = false
is_shown d (Imm i) = imm_is_shown d i
is_shown d o = true

abbrev pub operand_text : {R A B C D E F : Type 0} → Names A B C D E F → Dialect → Row → Operand R A B C D E F → List ℕ
operand_text n d row (ReadGpr r size) = n.read_gpr.text r (Some size)
operand_text n d row (ReadWriteGpr r size) = n.read_write_gpr.text r (Some size)
operand_text n d row (WriteGpr r size) = n.write_gpr.text r (Some size)
operand_text n d row (WriteTwoGprs a b size) = n.write_gpr.text b (Some size) ++ codes ", " ++ n.write_gpr.text a (Some size)
operand_text n d row (FixedReadGpr r number size) = n.read_gpr.text r size
operand_text n d row (FixedReadWriteGpr r number size) = n.read_write_gpr.text r size
operand_text n d row (ReadXmm r) = n.read_xmm.text r None
operand_text n d row (ReadWriteXmm r) = n.read_write_xmm.text r None
operand_text n d row (WriteXmm r) = n.write_xmm.text r None
operand_text n d row (ReadAmode m) = amode_text n.read_gpr.text d m
operand_text n d row (ReadGprMem m size) = gpr_mem_text n.read_gpr.text n.read_gpr.text d m size
operand_text n d row (ReadWriteGprMem m size) = gpr_mem_text n.read_write_gpr.text n.read_gpr.text d m size
operand_text n d row (ReadXmmMem m) = xmm_mem_text n.read_xmm.text n.read_gpr.text d m
operand_text n d row (Imm i) = imm_text d row i

-- each register of the operand that is printed has a text
abbrev pub operand_nameable : {R A B C D E F : Type 0} → Names A B C D E F → Operand R A B C D E F → Bool
operand_nameable n (ReadGpr r size) = n.read_gpr.nameable r
operand_nameable n (ReadWriteGpr r size) = n.read_write_gpr.nameable r
operand_nameable n (WriteGpr r size) = n.write_gpr.nameable r
operand_nameable n (WriteTwoGprs a b size) = n.write_gpr.nameable a && n.write_gpr.nameable b
operand_nameable n (FixedReadGpr r number None) = true
operand_nameable n (FixedReadGpr r number (Some size)) = n.read_gpr.nameable r
operand_nameable n (FixedReadWriteGpr r number None) = true
operand_nameable n (FixedReadWriteGpr r number (Some size)) = n.read_write_gpr.nameable r
operand_nameable n (ReadXmm r) = n.read_xmm.nameable r
operand_nameable n (ReadWriteXmm r) = n.read_write_xmm.nameable r
operand_nameable n (WriteXmm r) = n.write_xmm.nameable r
operand_nameable n (ReadAmode m) = amode_nameable n.read_gpr.nameable m
operand_nameable n (ReadGprMem m size) = gpr_mem_nameable n.read_gpr.nameable n.read_gpr.nameable m
operand_nameable n (ReadWriteGprMem m size) = gpr_mem_nameable n.read_write_gpr.nameable n.read_gpr.nameable m
operand_nameable n (ReadXmmMem m) = xmm_mem_nameable n.read_xmm.nameable n.read_gpr.nameable m
operand_nameable n (Imm i) = true

abbrev pub all_nameable : {R A B C D E F : Type 0} → Names A B C D E F → List (Operand R A B C D E F) → Bool
all_nameable n [] = true
all_nameable n (o ∷ more) = operand_nameable n o && all_nameable n more

-- whether an operand that may be memory is a register
abbrev pub is_register : {R A B C D E F : Type 0} → Operand R A B C D E F → Bool
is_register (ReadGprMem (gpr_mem.Gpr r) size) = true
is_register (ReadWriteGprMem (gpr_mem.Gpr r) size) = true
is_register (ReadXmmMem (xmm_mem.Xmm r)) = true
is_register o = false

abbrev pub has_register : {R A B C D E F : Type 0} → List (Operand R A B C D E F) → Bool
has_register [] = false
has_register (o ∷ more) = is_register o || has_register more

abbrev pub named_operand : {R A B C D E F : Type 0} → Operand R A B C D E F → Option ℕ
named_operand (Imm i) = named_imm i
named_operand o = None

abbrev pub first_of : Option ℕ → Option ℕ → Option ℕ
first_of None later = later
first_of (Some v) later = Some v

-- the predicate that has a name
abbrev pub named_predicate : {R A B C D E F : Type 0} → List (Operand R A B C D E F) → Option ℕ
named_predicate [] = None
named_predicate (o ∷ more) = first_of (named_operand o) (named_predicate more)

abbrev pub separator : Bool → List ℕ
separator true = []
separator false = codes ", "

-- what an operand adds, and whether the next one is still the first
abbrev pub piece : {R A B C D E F : Type 0} → Names A B C D E F → Dialect → Row → Bool → Operand R A B C D E F → List ℕ
piece n d row first o = if is_shown d o then separator first ++ operand_text n d row o else []

abbrev pub still_first : {R A B C D E F : Type 0} → Dialect → Bool → Operand R A B C D E F → Bool
still_first d first o = if is_shown d o then false else first

-- the operands that are printed, with a comma before each but the first
abbrev pub listed : {R A B C D E F : Type 0} → Names A B C D E F → Dialect → Row → Bool → List (Operand R A B C D E F) → List ℕ
listed n d row first [] = []
listed n d row first (o ∷ more) = piece n d row first o ++ listed n d row (still_first d first o) more

-- from the order of visits to that of the text
abbrev pub print_order : {X : Type 0} → Bool → List X → List X
print_order true xs = xs
print_order false xs = reverse xs
