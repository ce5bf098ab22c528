use Rattle.std.specs.Prelude.{◌≡◌, Bool, List, [], ◌∷◌}
use Rattle.cax64_address.specs.declared.amode.Amode.{Amode}
use Rattle.cax64_address.specs.declared.operand.GprMem.{GprMem}
use Rattle.cax64_address.specs.declared.operand.XmmMem.{XmmMem}
use Rattle.std.specs.Bool.{MatchBool}
use Rattle.cax64_operand.specs.OperandList.{list_of, nop_of}
use Rattle.cax64_operand.specs.VisitSteps.{Steps, AmodeRun, GprMemRun, XmmMemRun}
use Rattle.cax64_operand.specs.declared.operand.Operand.{Operand}
use Rattle.cax64_operand.specs.declared.operand.Operands.{Operands}
use Rattle.cax64_operand.specs.declared.operand.Operand.TheVariants.{ReadGpr, ReadWriteGpr, WriteGpr, WriteTwoGprs, FixedReadGpr, FixedReadWriteGpr, ReadXmm, ReadWriteXmm, WriteXmm, ReadAmode, ReadGprMem, ReadWriteGprMem, ReadXmmMem, Imm}

-- The steps that a visit of one operand takes, and the operand that it leaves: the same, with each register replaced by
-- what its step gave. Of two destinations that compare equal the first is visited, and what it gives stands for both.
abbrev pub OperandRun : {V R A B C D E F : Type 0} → (C → C → Bool) → Steps V A B C D E F → V → Operand R A B C D E F → Operand R A B C D E F → V → Type 0
OperandRun {V} {R} {A} {B} {C} {D} {E} {F} same s v (ReadGpr r size) o w = (t : A) × (o ≡ ReadGpr t size) × s.read_gpr v r t w
OperandRun {V} {R} {A} {B} {C} {D} {E} {F} same s v (ReadWriteGpr r size) o w = (t : B) × (o ≡ ReadWriteGpr t size) × s.read_write_gpr v r t w
OperandRun {V} {R} {A} {B} {C} {D} {E} {F} same s v (WriteGpr r size) o w = (t : C) × (o ≡ WriteGpr t size) × s.write_gpr v r t w
OperandRun {V} {R} {A} {B} {C} {D} {E} {F} same s v (WriteTwoGprs a b size) o w = (a2 : C) × (b2 : C) × (o ≡ WriteTwoGprs a2 b2 size) × MatchBool (same a b) (s.write_gpr v a a2 w × (b2 ≡ a2)) ((u : V) × s.write_gpr v a a2 u × s.write_gpr u b b2 w)
OperandRun {V} {R} {A} {B} {C} {D} {E} {F} same s v (FixedReadGpr r number shown) o w = (t : A) × (o ≡ FixedReadGpr t number shown) × s.fixed_read_gpr number v r t w
OperandRun {V} {R} {A} {B} {C} {D} {E} {F} same s v (FixedReadWriteGpr r number shown) o w = (t : B) × (o ≡ FixedReadWriteGpr t number shown) × s.fixed_read_write_gpr number v r t w
OperandRun {V} {R} {A} {B} {C} {D} {E} {F} same s v (ReadXmm r) o w = (t : D) × (o ≡ ReadXmm t) × s.read_xmm v r t w
OperandRun {V} {R} {A} {B} {C} {D} {E} {F} same s v (ReadWriteXmm r) o w = (t : E) × (o ≡ ReadWriteXmm t) × s.read_write_xmm v r t w
OperandRun {V} {R} {A} {B} {C} {D} {E} {F} same s v (WriteXmm r) o w = (t : F) × (o ≡ WriteXmm t) × s.write_xmm v r t w
OperandRun {V} {R} {A} {B} {C} {D} {E} {F} same s v (ReadAmode m) o w = (t : Amode A) × (o ≡ ReadAmode t) × AmodeRun s.read_gpr v m t w
OperandRun {V} {R} {A} {B} {C} {D} {E} {F} same s v (ReadGprMem m size) o w = (t : GprMem A A) × (o ≡ ReadGprMem t size) × GprMemRun s.read_gpr s.read_gpr v m t w
OperandRun {V} {R} {A} {B} {C} {D} {E} {F} same s v (ReadWriteGprMem m size) o w = (t : GprMem B A) × (o ≡ ReadWriteGprMem t size) × GprMemRun s.read_write_gpr s.read_gpr v m t w
OperandRun {V} {R} {A} {B} {C} {D} {E} {F} same s v (ReadXmmMem m) o w = (t : XmmMem D A) × (o ≡ ReadXmmMem t) × XmmMemRun s.read_xmm s.read_gpr v m t w
OperandRun same s v (Imm imm) o w = (o ≡ Imm imm) × (w ≡ v)

-- the steps along the operands of an instruction, in their order
abbrev pub Run : {V R A B C D E F : Type 0} → (C → C → Bool) → Steps V A B C D E F → V → List (Operand R A B C D E F) → List (Operand R A B C D E F) → V → Type 0
Run same s v [] [] w = w ≡ v
Run same s v [] (p ∷ ps) w = ⊥
Run same s v (o ∷ os) [] w = ⊥
Run {V} same s v (o ∷ os) (p ∷ ps) w = (u : V) × OperandRun same s v o p u × Run same s u os ps w

-- A visit of an instruction's operands. A no-operation stays.
abbrev pub OperandsRun : {V R A B C D E F : Type 0} → (C → C → Bool) → Steps V A B C D E F → V → Operands R A B C D E F → Operands R A B C D E F → V → Type 0
OperandsRun same s v os ps w = Run same s v (list_of os) (list_of ps) w × (nop_of ps ≡ nop_of os)
