use Rattle.std.proofs.Common.{◌≡◌, ℕ, suc, arith, refl, ◌∙◌, ap, sym, Bool, true, false, None, List, [], ◌∷◌, length}
use Rattle.std.specs.Prelude.{◌==◌, nat_le}
use Rattle.std.proofs.lemmas.Bool.{and_parts}
use Rattle.std.proofs.lemmas.Bool.Decides.{nat_tests}
use Rattle.cax64_address.specs.declared.operand.GprMem.{GprMem}
use Rattle.cax64_address.specs.declared.operand.GprMem.TheVariants as gpr_mem
use Rattle.cax64_address.specs.declared.operand.XmmMem.{XmmMem}
use Rattle.cax64_address.specs.declared.operand.XmmMem.TheVariants as xmm_mem
use Rattle.cax64_machine_code.specs.declared.line.Line.{Line}
use Rattle.cax64_machine_code.specs.declared.line.PlaceField.{PlaceField}
use Rattle.cax64_machine_code.specs.declared.line.PlaceField.TheVariants.{Memory, RegisterOrMemory, Register8OrMemory}
use Rattle.cax64_machine_code.specs.declared.line.PrefixField.{PrefixField}
use Rattle.cax64_machine_code.specs.declared.line.PrefixField.TheVariants.{LegacyField, VexField}
use Rattle.cax64_machine_code.specs.declared.line.RegField.{RegField}
use Rattle.cax64_machine_code.specs.declared.line.RegField.TheVariants.{Digit, Register8, Register}
use Rattle.cax64_machine_code.specs.declared.line.TailField.{TailField}
use Rattle.cax64_machine_code.specs.declared.line.TailField.TheVariants.{NoTail, Modrm}
use Rattle.cax64_machine_code.specs.declared.line.VvvvField.TheVariants.{VvvvRegister, Stored1111}
use Rattle.cax64_operand.specs.Family.{Family}
use Rattle.cax64_operand.specs.Shape as shape
use Rattle.cax64_operand.specs.Shape.{Rest, register_count, rest_of, takes, tail_takes, vvvv_takes, reg_takes, rest_takes, is_nothing, imm_fits}
use Rattle.cax64_operand.specs.declared.operand.Operand.{Operand}
use Rattle.cax64_operand.specs.declared.operand.Operand.TheVariants as operand
use Rattle.cax64_encoder.specs.Form.{Form, place_or, with_role, with_roles, form_of, fits, tail_fits, reg_fits, place_fits, is_no_place, vvvv_fits}
use Rattle.cax64_encoder.specs.Meant.{numbers_in, place_in, imm_in, first, second}
use Rattle.cax64_encoder.specs.Place.{gpr_mem_place, xmm_mem_place}
use Rattle.cax64_encoder.specs.Role.{roles_of}
use Rattle.cax64_encoder.specs.declared.number.Number.{Number}
use Rattle.cax64_encoder.specs.declared.role.PlaceOperand.{PlaceOperand}
use Rattle.cax64_encoder.specs.declared.role.PlaceOperand.TheVariants as place
use Rattle.cax64_encoder.specs.declared.role.Role.{Role}
use Rattle.cax64_encoder.specs.declared.role.Role.TheVariants as role

-- The form of operands holds the parts that they mean, and has the row's shape where they have it.

-- the form at once
abbrev pub direct : {M : Type 0} → List (Role M) → Form M
direct roles = record { reg = first (numbers_in roles); vvvv = second (numbers_in roles); place = place_in roles; imm = imm_in roles }

with_is : {M : Type 0} (r : Role M) (later : List (Role M)) → with_role r (direct later) ≡ direct (r ∷ later)
with_is (role.Register number) later = refl
with_is (role.TwoRegisters high low same) later = refl
with_is (role.FixedRegister fixed) later = refl
with_is (role.Place operand) later = refl
with_is (role.Immediate imm) later = refl

pub with_all : {M : Type 0} (roles : List (Role M)) → with_roles roles ≡ direct roles
with_all [] = refl
with_all (r ∷ later) = ap (with_role r) (with_all later) ∙ with_is r later

pub place_first : {M : Type 0} (r : Role M) (later : List (Role M)) → place_in (r ∷ later) ≡ place_or r (place_in later)
place_first (role.Register number) later = refl
place_first (role.TwoRegisters high low same) later = refl
place_first (role.FixedRegister fixed) later = refl
place_first (role.Place operand) later = refl
place_first (role.Immediate imm) later = refl

pub place_then : {M : Type 0} {own : Role M} {later result : PlaceOperand M} (r : Role M) (roles : List (Role M)) → own ≡ r → later ≡ place_in roles → result ≡ place_or own later → result ≡ place_in (r ∷ roles)
place_then r roles e f h = h ∙ rw (e, f) (sym (place_first r roles))

-- as many registers as are counted
count_is : {R A B C D E F : Type 0} (f : Family A B C D E F) (operands : List (Operand R A B C D E F)) → length (numbers_in (roles_of f operands)) ≡ register_count operands
count_is f [] = refl
count_is f (operand.ReadGpr reg size ∷ later) = omega (arith, count_is f later)
count_is f (operand.ReadWriteGpr reg size ∷ later) = omega (arith, count_is f later)
count_is f (operand.WriteGpr reg size ∷ later) = omega (arith, count_is f later)
count_is f (operand.WriteTwoGprs high low size ∷ later) = omega (arith, count_is f later)
count_is f (operand.FixedReadGpr reg expected size ∷ later) = count_is f later
count_is f (operand.FixedReadWriteGpr reg expected size ∷ later) = count_is f later
count_is f (operand.ReadXmm reg ∷ later) = omega (arith, count_is f later)
count_is f (operand.ReadWriteXmm reg ∷ later) = omega (arith, count_is f later)
count_is f (operand.WriteXmm reg ∷ later) = omega (arith, count_is f later)
count_is f (operand.ReadAmode amode ∷ later) = count_is f later
count_is f (operand.ReadGprMem p size ∷ later) = count_is f later
count_is f (operand.ReadWriteGprMem p size ∷ later) = count_is f later
count_is f (operand.ReadXmmMem p ∷ later) = count_is f later
count_is f (operand.Imm imm ∷ later) = count_is f later

-- what stands in the rest of the tail is of this kind
abbrev is_of : {M : Type 0} → Rest → PlaceOperand M → Bool
is_of shape.nothing operand = is_no_place operand
is_of shape.memory place.NoPlace = false
is_of shape.memory (place.Register number) = false
is_of shape.memory (place.Memory amode) = true
is_of shape.register_or_memory place.NoPlace = false
is_of shape.register_or_memory (place.Register number) = true
is_of shape.register_or_memory (place.Memory amode) = true

gpr_mem_is : {R M : Type 0} (settled : R → Bool) (enc : R → ℕ) (p : GprMem R M) → is_of shape.register_or_memory (gpr_mem_place settled enc p) ≡ true
gpr_mem_is settled enc (gpr_mem.Gpr reg) = refl
gpr_mem_is settled enc (gpr_mem.Mem amode) = refl

xmm_mem_is : {R M : Type 0} (settled : R → Bool) (enc : R → ℕ) (p : XmmMem R M) → is_of shape.register_or_memory (xmm_mem_place settled enc p) ≡ true
xmm_mem_is settled enc (xmm_mem.Xmm reg) = refl
xmm_mem_is settled enc (xmm_mem.Mem amode) = refl

rest_is : {R A B C D E F : Type 0} (f : Family A B C D E F) (operands : List (Operand R A B C D E F)) → is_of (rest_of operands) (place_in (roles_of f operands)) ≡ true
rest_is f [] = refl
rest_is f (operand.ReadGpr reg size ∷ later) = rest_is f later
rest_is f (operand.ReadWriteGpr reg size ∷ later) = rest_is f later
rest_is f (operand.WriteGpr reg size ∷ later) = rest_is f later
rest_is f (operand.WriteTwoGprs high low size ∷ later) = rest_is f later
rest_is f (operand.FixedReadGpr reg expected size ∷ later) = rest_is f later
rest_is f (operand.FixedReadWriteGpr reg expected size ∷ later) = rest_is f later
rest_is f (operand.ReadXmm reg ∷ later) = rest_is f later
rest_is f (operand.ReadWriteXmm reg ∷ later) = rest_is f later
rest_is f (operand.WriteXmm reg ∷ later) = rest_is f later
rest_is f (operand.ReadAmode amode ∷ later) = refl
rest_is f (operand.ReadGprMem p size ∷ later) = gpr_mem_is f.read_gpr.settled f.read_gpr.enc p
rest_is f (operand.ReadWriteGprMem p size ∷ later) = gpr_mem_is f.read_write_gpr.settled f.read_write_gpr.enc p
rest_is f (operand.ReadXmmMem p ∷ later) = xmm_mem_is f.read_xmm.settled f.read_xmm.enc p
rest_is f (operand.Imm imm ∷ later) = rest_is f later

pub imm_is : {R A B C D E F : Type 0} (f : Family A B C D E F) (operands : List (Operand R A B C D E F)) → imm_in (roles_of f operands) ≡ shape.imm_in operands
imm_is f [] = refl
imm_is f (operand.ReadGpr reg size ∷ later) = imm_is f later
imm_is f (operand.ReadWriteGpr reg size ∷ later) = imm_is f later
imm_is f (operand.WriteGpr reg size ∷ later) = imm_is f later
imm_is f (operand.WriteTwoGprs high low size ∷ later) = imm_is f later
imm_is f (operand.FixedReadGpr reg expected size ∷ later) = imm_is f later
imm_is f (operand.FixedReadWriteGpr reg expected size ∷ later) = imm_is f later
imm_is f (operand.ReadXmm reg ∷ later) = imm_is f later
imm_is f (operand.ReadWriteXmm reg ∷ later) = imm_is f later
imm_is f (operand.WriteXmm reg ∷ later) = imm_is f later
imm_is f (operand.ReadAmode amode ∷ later) = imm_is f later
imm_is f (operand.ReadGprMem p size ∷ later) = imm_is f later
imm_is f (operand.ReadWriteGprMem p size ∷ later) = imm_is f later
imm_is f (operand.ReadXmmMem p ∷ later) = imm_is f later
imm_is f (operand.Imm imm ∷ later) = refl

reg_of : (field : RegField) (numbers : List Number) → reg_takes field (length numbers) ≡ true → reg_fits field (first numbers) ≡ true
reg_of (Digit d) [] h = refl
reg_of (Digit d) (n ∷ later) h = absurd (more (length later) h)
  where
    more : (k : ℕ) → (suc k == 0) ≡ true → ⊥
    more k h = grind (arith, nat_tests)
reg_of Register8 [] h = h
reg_of Register8 (n ∷ later) h = refl
reg_of Register [] h = h
reg_of Register (n ∷ later) h = refl

place_of : {M : Type 0} (field : PlaceField) (rest : Rest) (p : PlaceOperand M) → is_of rest p ≡ true → rest_takes field rest ≡ true → place_fits field p ≡ true
place_of field shape.nothing p e h = cc
place_of field shape.memory place.NoPlace e h = cc
place_of field shape.memory (place.Register number) e h = cc
place_of Memory shape.memory (place.Memory amode) e h = refl
place_of RegisterOrMemory shape.memory (place.Memory amode) e h = refl
place_of Register8OrMemory shape.memory (place.Memory amode) e h = refl
place_of Memory shape.register_or_memory p e h = cc
place_of RegisterOrMemory shape.register_or_memory place.NoPlace e h = cc
place_of RegisterOrMemory shape.register_or_memory (place.Register number) e h = refl
place_of RegisterOrMemory shape.register_or_memory (place.Memory amode) e h = refl
place_of Register8OrMemory shape.register_or_memory place.NoPlace e h = cc
place_of Register8OrMemory shape.register_or_memory (place.Register number) e h = refl
place_of Register8OrMemory shape.register_or_memory (place.Memory amode) e h = refl

no_rest : {M : Type 0} (rest : Rest) (p : PlaceOperand M) → is_of rest p ≡ true → is_nothing rest ≡ true → is_no_place p ≡ true
no_rest shape.nothing p e h = e
no_rest shape.memory p e h = cc
no_rest shape.register_or_memory p e h = cc

tail_of : {M : Type 0} (tail : TailField) (numbers : List Number) (rest : Rest) (p : PlaceOperand M) → is_of rest p ≡ true → tail_takes tail (length numbers) rest ≡ true → tail_fits tail (first numbers) p ≡ true
tail_of NoTail [] rest p e h = no_rest rest p e h
tail_of NoTail (n ∷ later) rest p e h = absurd (more (length later) (and_parts (suc (length later) == 0) (is_nothing rest) h).0)
  where
    more : (k : ℕ) → (suc k == 0) ≡ true → ⊥
    more k h = grind (arith, nat_tests)
tail_of (Modrm reg field) numbers rest p e h =
    let q = and_parts (reg_takes reg (length numbers)) (rest_takes field rest) h in
    rw (reg_of reg numbers q.0, place_of field rest p e q.1) refl

at_most_one : (numbers : List Number) → nat_le (length numbers) 1 ≡ true → second numbers ≡ None
at_most_one [] h = refl
at_most_one (a ∷ []) h = refl
at_most_one (a ∷ b ∷ later) h = absurd (more (length later) h)
  where
    more : (k : ℕ) → nat_le (suc (suc k)) 1 ≡ true → ⊥
    more k h = grind (arith, nat_tests)

vvvv_of : (prefix : PrefixField) (numbers : List Number) → vvvv_takes prefix (length numbers) ≡ true → vvvv_fits prefix (second numbers) ≡ true
vvvv_of (LegacyField set rex) numbers h = rw (at_most_one numbers h) refl
vvvv_of (VexField pp map l VvvvRegister) [] h = cc
vvvv_of (VexField pp map l VvvvRegister) (a ∷ []) h = cc
vvvv_of (VexField pp map l VvvvRegister) (a ∷ b ∷ later) h = refl
vvvv_of (VexField pp map l Stored1111) numbers h = rw (at_most_one numbers h) refl

pub form_fits : {R A B C D E F : Type 0} (f : Family A B C D E F) (line : Line) (operands : List (Operand R A B C D E F)) → takes line operands ≡ true → fits line (form_of f operands) ≡ true
form_fits f line operands h =
    let roles = roles_of f operands in
    let p = and_parts (tail_takes line.tail (register_count operands) (rest_of operands)) _ h in
    let q = and_parts (vvvv_takes line.prefix (register_count operands)) (imm_fits line.imm (shape.imm_in operands)) p.1 in
    let tail : tail_fits line.tail (first (numbers_in roles)) (place_in roles) ≡ true = tail_of line.tail (numbers_in roles) (rest_of operands) (place_in roles) (rest_is f operands) (rw (count_is f operands) p.0) in
    let vvvv : vvvv_fits line.prefix (second (numbers_in roles)) ≡ true = vvvv_of line.prefix (numbers_in roles) (rw (count_is f operands) q.0) in
    let imm : imm_fits line.imm (imm_in roles) ≡ true = rw (imm_is f operands) q.1 in
    rw (with_all roles, tail, vvvv, imm) refl
