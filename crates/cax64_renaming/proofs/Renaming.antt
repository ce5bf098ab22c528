use Rattle.std.proofs.Common.{◌≡◌, ℕ, Bool, true, false, refl, ◌∙◌, ap, sym, List, [], ◌∷◌, Option, ℤ}
use Rattle.std.specs.Bool.{MatchBool}
use Rattle.cax64_address.specs.declared.amode.Amode.{Amode}
use Rattle.cax64_address.specs.declared.amode.Amode.TheVariants.{ImmReg, ImmRegRegShift, RipRelative}
use Rattle.cax64_address.specs.declared.operand.GprMem.{GprMem}
use Rattle.cax64_address.specs.declared.operand.GprMem.TheVariants as gpr_mem
use Rattle.cax64_address.specs.declared.operand.XmmMem.{XmmMem}
use Rattle.cax64_address.specs.declared.operand.XmmMem.TheVariants as xmm_mem
use Rattle.cax64_operand.specs.VisitSteps.{Steps, AmodeRun, GprMemRun, XmmMemRun}
use Rattle.cax64_encoder.specs.Meant.{meant_of, nop_or, operands_meant}
use Rattle.cax64_encoder.specs.Role.{roles_of}
use Rattle.cax64_machine_code.specs.declared.row.Row.{Row}
use Rattle.cax64_operand.specs.Family.{Family}
use Rattle.cax64_operand.specs.OperandList.{list_of, nop_of}
use Rattle.cax64_operand.specs.Visit.{OperandRun, Run, OperandsRun}
use Rattle.cax64_operand.specs.declared.operand.Operands.{Operands}
use Rattle.cax64_operand.specs.declared.operand.Operands.TheVariants as operands
use Rattle.cax64_operand.specs.declared.operand.Operand.{Operand}
use Rattle.cax64_operand.specs.declared.operand.Operand.TheVariants.{ReadGpr, ReadWriteGpr, WriteGpr, WriteTwoGprs, FixedReadGpr, FixedReadWriteGpr, ReadXmm, ReadWriteXmm, WriteXmm, ReadAmode, ReadGprMem, ReadWriteGprMem, ReadXmmMem, Imm}
use Rattle.cax64_renaming.specs.Renamed.{Renaming, Renames, renamed_amode, renamed_gpr_mem, renamed_xmm_mem, renamed, renamed_operands}

-- all operands of a list
abbrev all_renamed : {R A B C D E F : Type 0} → Renaming A B C D E F → List (Operand R A B C D E F) → List (Operand R A B C D E F)
all_renamed n [] = []
all_renamed n (o ∷ more) = renamed n o ∷ all_renamed n more

amode_renamed : {V M : Type 0} (step : V → M → M → V → Type 0) (n : M → M) → ((v : V) (r t : M) (w : V) → step v r t w → t ≡ n r) → (v : V) (a b : Amode M) (w : V) → AmodeRun step v a b w → b ≡ renamed_amode n a
amode_renamed step n law v (ImmReg base simm32 trap) b w (t, e, s) = e ∙ ap (λ (x : _). ImmReg x simm32 trap) (law v base t w s)
amode_renamed step n law v (ImmRegRegShift base index scale simm32 trap) b w (t, i, e, (u, s, s2)) = e ∙ ap (λ (x : _). ImmRegRegShift x i scale simm32 trap) (law v base t u s) ∙ ap (λ (x : _). ImmRegRegShift (n base) x scale simm32 trap) (law u index i w s2)
amode_renamed step n law v (RipRelative target) b w (e, s) = e

gpr_mem_renamed : {V T M : Type 0} (step : V → T → T → V → Type 0) (base_step : V → M → M → V → Type 0) (r : T → T) (n : M → M) → ((v : V) (x t : T) (w : V) → step v x t w → t ≡ r x) → ((v : V) (x t : M) (w : V) → base_step v x t w → t ≡ n x) → (v : V) (a b : GprMem T M) (w : V) → GprMemRun step base_step v a b w → b ≡ renamed_gpr_mem r n a
gpr_mem_renamed step base_step r n law base_law v (gpr_mem.Gpr reg) b w (t, e, s) = e ∙ ap (λ (x : _). gpr_mem.Gpr x) (law v reg t w s)
gpr_mem_renamed step base_step r n law base_law v (gpr_mem.Mem m) b w (t, e, s) = e ∙ ap (λ (x : _). gpr_mem.Mem x) (amode_renamed base_step n base_law v m t w s)

xmm_mem_renamed : {V T M : Type 0} (step : V → T → T → V → Type 0) (base_step : V → M → M → V → Type 0) (r : T → T) (n : M → M) → ((v : V) (x t : T) (w : V) → step v x t w → t ≡ r x) → ((v : V) (x t : M) (w : V) → base_step v x t w → t ≡ n x) → (v : V) (a b : XmmMem T M) (w : V) → XmmMemRun step base_step v a b w → b ≡ renamed_xmm_mem r n a
xmm_mem_renamed step base_step r n law base_law v (xmm_mem.Xmm reg) b w (t, e, s) = e ∙ ap (λ (x : _). xmm_mem.Xmm x) (law v reg t w s)
xmm_mem_renamed step base_step r n law base_law v (xmm_mem.Mem m) b w (t, e, s) = e ∙ ap (λ (x : _). xmm_mem.Mem x) (amode_renamed base_step n base_law v m t w s)

two : {V C : Type 0} (step : V → C → C → V → Type 0) (n : C → C) → ((v : V) (r t : C) (w : V) → step v r t w → t ≡ n r) → (v w : V) (a b a2 b2 : C) (equal : Bool) → (equal ≡ true → a ≡ b) → MatchBool equal (step v a a2 w × (b2 ≡ a2)) ((u : V) × step v a a2 u × step u b b2 w) → (a2 ≡ n a) × (b2 ≡ n b)
two step n law v w a b a2 b2 true e (h, k) = (law v a a2 w h, k ∙ law v a a2 w h ∙ ap (λ (x : _). n x) (e refl))
two step n law v w a b a2 b2 false e (u, h, k) = (law v a a2 u h, law u b b2 w k)

module _ {V R A B C D E F : Type 0} (same : C → C → Bool) (is_same : (a b : C) → same a b ≡ true → a ≡ b) (s : Steps V A B C D E F) (n : Renaming A B C D E F) (law : Renames s n) where
  operand_renamed : (v : V) (o p : Operand R A B C D E F) (w : V) → OperandRun same s v o p w → p ≡ renamed n o
  operand_renamed v (ReadGpr r size) p w (t, e, h) = e ∙ ap (λ (x : _). ReadGpr x size) (law.read_gpr v r t w h)
  operand_renamed v (ReadWriteGpr r size) p w (t, e, h) = e ∙ ap (λ (x : _). ReadWriteGpr x size) (law.read_write_gpr v r t w h)
  operand_renamed v (WriteGpr r size) p w (t, e, h) = e ∙ ap (λ (x : _). WriteGpr x size) (law.write_gpr v r t w h)
  operand_renamed v (WriteTwoGprs a b size) p w (a2, b2, e, h) = let parts = two s.write_gpr n.write_gpr law.write_gpr v w a b a2 b2 (same a b) (is_same a b) h in e ∙ ap (λ (x : _). WriteTwoGprs x b2 size) parts.0 ∙ ap (λ (x : _). WriteTwoGprs (n.write_gpr a) x size) parts.1
  operand_renamed v (FixedReadGpr r number shown) p w (t, e, h) = e ∙ ap (λ (x : _). FixedReadGpr x number shown) (law.fixed_read_gpr number v r t w h)
  operand_renamed v (FixedReadWriteGpr r number shown) p w (t, e, h) = e ∙ ap (λ (x : _). FixedReadWriteGpr x number shown) (law.fixed_read_write_gpr number v r t w h)
  operand_renamed v (ReadXmm r) p w (t, e, h) = e ∙ ap (λ (x : _). ReadXmm x) (law.read_xmm v r t w h)
  operand_renamed v (ReadWriteXmm r) p w (t, e, h) = e ∙ ap (λ (x : _). ReadWriteXmm x) (law.read_write_xmm v r t w h)
  operand_renamed v (WriteXmm r) p w (t, e, h) = e ∙ ap (λ (x : _). WriteXmm x) (law.write_xmm v r t w h)
  operand_renamed v (ReadAmode m) p w (t, e, h) = e ∙ ap (λ (x : _). ReadAmode x) (amode_renamed s.read_gpr n.read_gpr law.read_gpr v m t w h)
  operand_renamed v (ReadGprMem m size) p w (t, e, h) = e ∙ ap (λ (x : _). ReadGprMem x size) (gpr_mem_renamed s.read_gpr s.read_gpr n.read_gpr n.read_gpr law.read_gpr law.read_gpr v m t w h)
  operand_renamed v (ReadWriteGprMem m size) p w (t, e, h) = e ∙ ap (λ (x : _). ReadWriteGprMem x size) (gpr_mem_renamed s.read_write_gpr s.read_gpr n.read_write_gpr n.read_gpr law.read_write_gpr law.read_gpr v m t w h)
  operand_renamed v (ReadXmmMem m) p w (t, e, h) = e ∙ ap (λ (x : _). ReadXmmMem x) (xmm_mem_renamed s.read_xmm s.read_gpr n.read_xmm n.read_gpr law.read_xmm law.read_gpr v m t w h)
  operand_renamed v (Imm i) p w (e, h) = e

  -- a visit renames every operand, and changes nothing else
  run_renames : (v : V) (os ps : List (Operand R A B C D E F)) (w : V) → Run same s v os ps w → ps ≡ all_renamed n os
  run_renames v [] [] w h = refl
  run_renames v [] (p ∷ ps) w h = absurd h
  run_renames v (o ∷ os) [] w h = absurd h
  run_renames v (o ∷ os) (p ∷ ps) w (u, h, k) = ap (λ (x : _). x ∷ ps) (operand_renamed v o p u h) ∙ ap (λ (xs : _). renamed n o ∷ xs) (run_renames u os ps w k)

-- the operands of an instruction as a list
list_renamed : {R A B C D E F : Type 0} (n : Renaming A B C D E F) (o : Operands R A B C D E F) → list_of (renamed_operands n o) ≡ all_renamed n (list_of o)
list_renamed n operands.Zero = refl
list_renamed n (operands.One a) = refl
list_renamed n (operands.Two a b) = refl
list_renamed n (operands.Three a b c) = refl
list_renamed n (operands.Four a b c d) = refl
list_renamed n (operands.Five a b c d e) = refl
list_renamed n (operands.Nop nop) = refl

nop_renamed : {R A B C D E F : Type 0} (n : Renaming A B C D E F) (o : Operands R A B C D E F) → nop_of (renamed_operands n o) ≡ nop_of o
nop_renamed n operands.Zero = refl
nop_renamed n (operands.One a) = refl
nop_renamed n (operands.Two a b) = refl
nop_renamed n (operands.Three a b c) = refl
nop_renamed n (operands.Four a b c d) = refl
nop_renamed n (operands.Five a b c d e) = refl
nop_renamed n (operands.Nop nop) = refl

-- what an instruction means depends on the list of its operands alone, or on the no-operation that it is
meant_same : {R A B C D E F : Type 0} (f : Family A B C D E F) (row : Row) (o p : Operands R A B C D E F) (offsets : ℕ → Option ℤ) → list_of o ≡ list_of p → nop_of o ≡ nop_of p → meant_of f row o offsets ≡ meant_of f row p offsets
meant_same f row o p offsets list nop =
    ap (λ (x : _). nop_or row x (operands_meant f.read_gpr row (roles_of f (list_of o)) offsets)) nop
    ∙ ap (λ (x : _). nop_or row (nop_of p) (operands_meant f.read_gpr row (roles_of f x) offsets)) list

pub meant_renamed : {V R A B C D E F : Type 0} (f : Family A B C D E F) (same : C → C → Bool) (is_same : (a b : C) → same a b ≡ true → a ≡ b) (s : Steps V A B C D E F) (n : Renaming A B C D E F) (law : Renames s n) (row row2 : Row) (v w : V) (o p : Operands R A B C D E F) → row2 ≡ row → OperandsRun same s v o p w → (offsets : ℕ → Option ℤ) → meant_of f row2 p offsets ≡ meant_of f row (renamed_operands n o) offsets
meant_renamed f same is_same s n law row row2 v w o p stays run offsets =
    ap (λ (x : Row). meant_of f x p offsets) stays
    ∙ meant_same f row p (renamed_operands n o) offsets (run_renames same is_same s n law v (list_of o) (list_of p) w run.0 ∙ sym (list_renamed n o)) (run.1 ∙ sym (nop_renamed n o))
