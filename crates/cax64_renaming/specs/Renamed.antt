use Rattle.std.specs.Prelude.{◌≡◌, ℕ}
use Rattle.cax64_address.specs.declared.amode.Amode.{Amode}
use Rattle.cax64_address.specs.declared.amode.Amode.TheVariants.{ImmReg, ImmRegRegShift, RipRelative}
use Rattle.cax64_address.specs.declared.operand.GprMem.{GprMem}
use Rattle.cax64_address.specs.declared.operand.GprMem.TheVariants as gpr_mem
use Rattle.cax64_address.specs.declared.operand.XmmMem.{XmmMem}
use Rattle.cax64_address.specs.declared.operand.XmmMem.TheVariants as xmm_mem
use Rattle.cax64_operand.specs.VisitSteps.{Steps}
use Rattle.cax64_operand.specs.declared.operand.Operand.{Operand}
use Rattle.cax64_operand.specs.declared.operand.Operands.{Operands}
use Rattle.cax64_operand.specs.declared.operand.Operands.TheVariants as operands
use Rattle.cax64_operand.specs.declared.operand.Operand.TheVariants.{ReadGpr, ReadWriteGpr, WriteGpr, WriteTwoGprs, FixedReadGpr, FixedReadWriteGpr, ReadXmm, ReadWriteXmm, WriteXmm, ReadAmode, ReadGprMem, ReadWriteGprMem, ReadXmmMem, Imm}

-- Renaming of registers.

-- new registers for old ones, by the kind of call and the old register alone
pub record Renaming (A B C D E F : Type 0) : Type 0 where
  pub read_gpr : A → A
  pub read_write_gpr : B → B
  pub write_gpr : C → C
  pub fixed_read_gpr : ℕ → A → A
  pub fixed_read_write_gpr : ℕ → B → B
  pub read_xmm : D → D
  pub read_write_xmm : E → E
  pub write_xmm : F → F

-- a visitor whose steps give these registers
pub record Renames {V A B C D E F : Type 0} (s : Steps V A B C D E F) (n : Renaming A B C D E F) : Type 0 where
  pub read_gpr : (v : V) (r t : A) (w : V) → s.read_gpr v r t w → t ≡ n.read_gpr r
  pub read_write_gpr : (v : V) (r t : B) (w : V) → s.read_write_gpr v r t w → t ≡ n.read_write_gpr r
  pub write_gpr : (v : V) (r t : C) (w : V) → s.write_gpr v r t w → t ≡ n.write_gpr r
  pub fixed_read_gpr : (k : ℕ) (v : V) (r t : A) (w : V) → s.fixed_read_gpr k v r t w → t ≡ n.fixed_read_gpr k r
  pub fixed_read_write_gpr : (k : ℕ) (v : V) (r t : B) (w : V) → s.fixed_read_write_gpr k v r t w → t ≡ n.fixed_read_write_gpr k r
  pub read_xmm : (v : V) (r t : D) (w : V) → s.read_xmm v r t w → t ≡ n.read_xmm r
  pub read_write_xmm : (v : V) (r t : E) (w : V) → s.read_write_xmm v r t w → t ≡ n.read_write_xmm r
  pub write_xmm : (v : V) (r t : F) (w : V) → s.write_xmm v r t w → t ≡ n.write_xmm r

abbrev pub renamed_amode : {M : Type 0} → (M → M) → Amode M → Amode M
renamed_amode n (ImmReg base simm32 trap) = ImmReg (n base) simm32 trap
renamed_amode n (ImmRegRegShift base index scale simm32 trap) = ImmRegRegShift (n base) (n index) scale simm32 trap
renamed_amode n (RipRelative target) = RipRelative target

abbrev pub renamed_gpr_mem : {T M : Type 0} → (T → T) → (M → M) → GprMem T M → GprMem T M
renamed_gpr_mem r n (gpr_mem.Gpr reg) = gpr_mem.Gpr (r reg)
renamed_gpr_mem r n (gpr_mem.Mem amode) = gpr_mem.Mem (renamed_amode n amode)

abbrev pub renamed_xmm_mem : {T M : Type 0} → (T → T) → (M → M) → XmmMem T M → XmmMem T M
renamed_xmm_mem r n (xmm_mem.Xmm reg) = xmm_mem.Xmm (r reg)
renamed_xmm_mem r n (xmm_mem.Mem amode) = xmm_mem.Mem (renamed_amode n amode)

-- Two equal destinations are renamed as one, and so alike.
abbrev pub renamed : {R A B C D E F : Type 0} → Renaming A B C D E F → Operand R A B C D E F → Operand R A B C D E F
renamed n (ReadGpr r size) = ReadGpr (n.read_gpr r) size
renamed n (ReadWriteGpr r size) = ReadWriteGpr (n.read_write_gpr r) size
renamed n (WriteGpr r size) = WriteGpr (n.write_gpr r) size
renamed n (WriteTwoGprs a b size) = WriteTwoGprs (n.write_gpr a) (n.write_gpr b) size
renamed n (FixedReadGpr r number shown) = FixedReadGpr (n.fixed_read_gpr number r) number shown
renamed n (FixedReadWriteGpr r number shown) = FixedReadWriteGpr (n.fixed_read_write_gpr number r) number shown
renamed n (ReadXmm r) = ReadXmm (n.read_xmm r)
renamed n (ReadWriteXmm r) = ReadWriteXmm (n.read_write_xmm r)
renamed n (WriteXmm r) = WriteXmm (n.write_xmm r)
renamed n (ReadAmode m) = ReadAmode (renamed_amode n.read_gpr m)
renamed n (ReadGprMem m size) = ReadGprMem (renamed_gpr_mem n.read_gpr n.read_gpr m) size
renamed n (ReadWriteGprMem m size) = ReadWriteGprMem (renamed_gpr_mem n.read_write_gpr n.read_gpr m) size
renamed n (ReadXmmMem m) = ReadXmmMem (renamed_xmm_mem n.read_xmm n.read_gpr m)
renamed n (Imm i) = Imm i

-- all else stays
abbrev pub renamed_operands : {R A B C D E F : Type 0} → Renaming A B C D E F → Operands R A B C D E F → Operands R A B C D E F
renamed_operands n operands.Zero = operands.Zero
renamed_operands n (operands.One a) = operands.One (renamed n a)
renamed_operands n (operands.Two a b) = operands.Two (renamed n a) (renamed n b)
renamed_operands n (operands.Three a b c) = operands.Three (renamed n a) (renamed n b) (renamed n c)
renamed_operands n (operands.Four a b c d) = operands.Four (renamed n a) (renamed n b) (renamed n c) (renamed n d)
renamed_operands n (operands.Five a b c d e) = operands.Five (renamed n a) (renamed n b) (renamed n c) (renamed n d) (renamed n e)
renamed_operands n (operands.Nop nop) = operands.Nop nop
