use Rattle.std.specs.Prelude.{◌≡◌, ℕ, true, Some, None, List, [], ◌∷◌, MatchOption}
use Rattle.cax64_immediate.specs.declared.extension.Extension.TheVariants.{SignExtendLong, SignExtendQuad}
use Rattle.cax64_machine_code.specs.declared.row.Row.{Row}
use Rattle.cax64_machine_code.specs.declared.row.Row.TheVariants as row
use Rattle.cax64_operand.specs.NopRow.{nop_row}
use Rattle.cax64_operand.specs.OperandList.{list_of, nop_of}
use Rattle.cax64_operand.specs.declared.operand.Operands.{Operands}
use Rattle.cax64_register.specs.declared.gpr.Size.TheVariants.{Byte, Word, Doubleword, Quadword}
use Rattle.cax64_operand.specs.Kind.{kinds_of, imms_in_range}
use Rattle.cax64_operand.specs.declared.kind.ImmediateKind.TheVariants.{Imm8, Imm16, Imm32, Simm8, Simm32, Distance8, Distance32, Predicate, VexPredicate}
use Rattle.cax64_operand.specs.declared.kind.OperandKind.{OperandKind}
use Rattle.cax64_operand.specs.declared.kind.OperandKind.TheVariants.{ReadGpr, ReadWriteGpr, WriteTwoGprs, FixedReadGpr, FixedReadWriteGpr, ReadXmm, ReadWriteXmm, WriteXmm, ReadAmode, ReadGprMem, ReadWriteGprMem, ReadXmmMem, Imm}

-- the registers that rows fix, by their numbers (Intel SDM, volume 2, table 3-1)
abbrev rax : ℕ
rax = 0

abbrev rcx : ℕ
rcx = 1

abbrev rdx : ℕ
rdx = 2

abbrev rbx : ℕ
rbx = 3

-- a fixed register that isn't printed
abbrev reads : ℕ → OperandKind
reads register = FixedReadGpr register None

abbrev reads_and_writes : ℕ → OperandKind
reads_and_writes register = FixedReadWriteGpr register None

-- The signature of each row: the kinds of its operands, in the order of visits. (Intel SDM, volume 2, chapters 3 to 5,
-- the pages of the named instructions: the columns of the instruction and of the operand encoding.)
unfoldable pub signature_of : Row → List OperandKind
signature_of row.lock_addb_mi = ReadAmode ∷ Imm Imm8 ∷ []
signature_of row.lock_addw_mi = ReadAmode ∷ Imm Imm16 ∷ []
signature_of row.lock_addl_mi = ReadAmode ∷ Imm Imm32 ∷ []
signature_of row.lock_addq_mi_sxl = ReadAmode ∷ Imm (Simm32 SignExtendQuad) ∷ []
signature_of row.lock_addl_mi_sxb = ReadAmode ∷ Imm (Simm8 SignExtendLong) ∷ []
signature_of row.lock_addq_mi_sxb = ReadAmode ∷ Imm (Simm8 SignExtendQuad) ∷ []
signature_of row.lock_addb_mr = ReadAmode ∷ ReadGpr Byte ∷ []
signature_of row.lock_addw_mr = ReadAmode ∷ ReadGpr Word ∷ []
signature_of row.lock_addl_mr = ReadAmode ∷ ReadGpr Doubleword ∷ []
signature_of row.lock_addq_mr = ReadAmode ∷ ReadGpr Quadword ∷ []
signature_of row.lock_orb_mi = ReadAmode ∷ Imm Imm8 ∷ []
signature_of row.lock_orw_mi = ReadAmode ∷ Imm Imm16 ∷ []
signature_of row.lock_orl_mi = ReadAmode ∷ Imm Imm32 ∷ []
signature_of row.lock_orq_mi_sxl = ReadAmode ∷ Imm (Simm32 SignExtendQuad) ∷ []
signature_of row.lock_orl_mi_sxb = ReadAmode ∷ Imm (Simm8 SignExtendLong) ∷ []
signature_of row.lock_orq_mi_sxb = ReadAmode ∷ Imm (Simm8 SignExtendQuad) ∷ []
signature_of row.lock_orb_mr = ReadAmode ∷ ReadGpr Byte ∷ []
signature_of row.lock_orw_mr = ReadAmode ∷ ReadGpr Word ∷ []
signature_of row.lock_orl_mr = ReadAmode ∷ ReadGpr Doubleword ∷ []
signature_of row.lock_orq_mr = ReadAmode ∷ ReadGpr Quadword ∷ []
signature_of row.lock_adcb_mi = ReadAmode ∷ Imm Imm8 ∷ []
signature_of row.lock_adcw_mi = ReadAmode ∷ Imm Imm16 ∷ []
signature_of row.lock_adcl_mi = ReadAmode ∷ Imm Imm32 ∷ []
signature_of row.lock_adcq_mi_sxl = ReadAmode ∷ Imm (Simm32 SignExtendQuad) ∷ []
signature_of row.lock_adcl_mi_sxb = ReadAmode ∷ Imm (Simm8 SignExtendLong) ∷ []
signature_of row.lock_adcq_mi_sxb = ReadAmode ∷ Imm (Simm8 SignExtendQuad) ∷ []
signature_of row.lock_adcb_mr = ReadAmode ∷ ReadGpr Byte ∷ []
signature_of row.lock_adcw_mr = ReadAmode ∷ ReadGpr Word ∷ []
signature_of row.lock_adcl_mr = ReadAmode ∷ ReadGpr Doubleword ∷ []
signature_of row.lock_adcq_mr = ReadAmode ∷ ReadGpr Quadword ∷ []
signature_of row.lock_sbbb_mi = ReadAmode ∷ Imm Imm8 ∷ []
signature_of row.lock_sbbw_mi = ReadAmode ∷ Imm Imm16 ∷ []
signature_of row.lock_sbbl_mi = ReadAmode ∷ Imm Imm32 ∷ []
signature_of row.lock_sbbq_mi_sxl = ReadAmode ∷ Imm (Simm32 SignExtendQuad) ∷ []
signature_of row.lock_sbbl_mi_sxb = ReadAmode ∷ Imm (Simm8 SignExtendLong) ∷ []
signature_of row.lock_sbbq_mi_sxb = ReadAmode ∷ Imm (Simm8 SignExtendQuad) ∷ []
signature_of row.lock_sbbb_mr = ReadAmode ∷ ReadGpr Byte ∷ []
signature_of row.lock_sbbw_mr = ReadAmode ∷ ReadGpr Word ∷ []
signature_of row.lock_sbbl_mr = ReadAmode ∷ ReadGpr Doubleword ∷ []
signature_of row.lock_sbbq_mr = ReadAmode ∷ ReadGpr Quadword ∷ []
signature_of row.lock_andb_mi = ReadAmode ∷ Imm Imm8 ∷ []
signature_of row.lock_andw_mi = ReadAmode ∷ Imm Imm16 ∷ []
signature_of row.lock_andl_mi = ReadAmode ∷ Imm Imm32 ∷ []
signature_of row.lock_andq_mi_sxl = ReadAmode ∷ Imm (Simm32 SignExtendQuad) ∷ []
signature_of row.lock_andl_mi_sxb = ReadAmode ∷ Imm (Simm8 SignExtendLong) ∷ []
signature_of row.lock_andq_mi_sxb = ReadAmode ∷ Imm (Simm8 SignExtendQuad) ∷ []
signature_of row.lock_andb_mr = ReadAmode ∷ ReadGpr Byte ∷ []
signature_of row.lock_andw_mr = ReadAmode ∷ ReadGpr Word ∷ []
signature_of row.lock_andl_mr = ReadAmode ∷ ReadGpr Doubleword ∷ []
signature_of row.lock_andq_mr = ReadAmode ∷ ReadGpr Quadword ∷ []
signature_of row.lock_subb_mi = ReadAmode ∷ Imm Imm8 ∷ []
signature_of row.lock_subw_mi = ReadAmode ∷ Imm Imm16 ∷ []
signature_of row.lock_subl_mi = ReadAmode ∷ Imm Imm32 ∷ []
signature_of row.lock_subq_mi_sxl = ReadAmode ∷ Imm (Simm32 SignExtendQuad) ∷ []
signature_of row.lock_subl_mi_sxb = ReadAmode ∷ Imm (Simm8 SignExtendLong) ∷ []
signature_of row.lock_subq_mi_sxb = ReadAmode ∷ Imm (Simm8 SignExtendQuad) ∷ []
signature_of row.lock_subb_mr = ReadAmode ∷ ReadGpr Byte ∷ []
signature_of row.lock_subw_mr = ReadAmode ∷ ReadGpr Word ∷ []
signature_of row.lock_subl_mr = ReadAmode ∷ ReadGpr Doubleword ∷ []
signature_of row.lock_subq_mr = ReadAmode ∷ ReadGpr Quadword ∷ []
signature_of row.lock_xorb_mi = ReadAmode ∷ Imm Imm8 ∷ []
signature_of row.lock_xorw_mi = ReadAmode ∷ Imm Imm16 ∷ []
signature_of row.lock_xorl_mi = ReadAmode ∷ Imm Imm32 ∷ []
signature_of row.lock_xorq_mi_sxl = ReadAmode ∷ Imm (Simm32 SignExtendQuad) ∷ []
signature_of row.lock_xorl_mi_sxb = ReadAmode ∷ Imm (Simm8 SignExtendLong) ∷ []
signature_of row.lock_xorq_mi_sxb = ReadAmode ∷ Imm (Simm8 SignExtendQuad) ∷ []
signature_of row.lock_xorb_mr = ReadAmode ∷ ReadGpr Byte ∷ []
signature_of row.lock_xorw_mr = ReadAmode ∷ ReadGpr Word ∷ []
signature_of row.lock_xorl_mr = ReadAmode ∷ ReadGpr Doubleword ∷ []
signature_of row.lock_xorq_mr = ReadAmode ∷ ReadGpr Quadword ∷ []
signature_of row.lock_xaddb_mr = ReadWriteGpr Byte ∷ ReadAmode ∷ []
signature_of row.lock_xaddw_mr = ReadWriteGpr Word ∷ ReadAmode ∷ []
signature_of row.lock_xaddl_mr = ReadWriteGpr Doubleword ∷ ReadAmode ∷ []
signature_of row.lock_xaddq_mr = ReadWriteGpr Quadword ∷ ReadAmode ∷ []
signature_of row.lock_cmpxchgb_mr = ReadAmode ∷ ReadGpr Byte ∷ reads_and_writes rax ∷ []
signature_of row.lock_cmpxchgw_mr = ReadAmode ∷ ReadGpr Word ∷ reads_and_writes rax ∷ []
signature_of row.lock_cmpxchgl_mr = ReadAmode ∷ ReadGpr Doubleword ∷ reads_and_writes rax ∷ []
signature_of row.lock_cmpxchgq_mr = ReadAmode ∷ ReadGpr Quadword ∷ reads_and_writes rax ∷ []
signature_of row.lock_cmpxchg16b_m = ReadAmode ∷ reads_and_writes rax ∷ reads_and_writes rdx ∷ reads rcx ∷ reads rbx ∷ []
signature_of row.xchgb_rm = ReadWriteGpr Byte ∷ ReadAmode ∷ []
signature_of row.xchgw_rm = ReadWriteGpr Word ∷ ReadAmode ∷ []
signature_of row.xchgl_rm = ReadWriteGpr Doubleword ∷ ReadAmode ∷ []
signature_of row.xchgq_rm = ReadWriteGpr Quadword ∷ ReadAmode ∷ []
signature_of row.rolb_m1 = ReadWriteGprMem Byte ∷ []
signature_of row.rolw_m1 = ReadWriteGprMem Word ∷ []
signature_of row.roll_m1 = ReadWriteGprMem Doubleword ∷ []
signature_of row.rolq_m1 = ReadWriteGprMem Quadword ∷ []
signature_of row.rorb_m1 = ReadWriteGprMem Byte ∷ []
signature_of row.rorw_m1 = ReadWriteGprMem Word ∷ []
signature_of row.rorl_m1 = ReadWriteGprMem Doubleword ∷ []
signature_of row.rorq_m1 = ReadWriteGprMem Quadword ∷ []
signature_of row.shlb_m1 = ReadWriteGprMem Byte ∷ []
signature_of row.shlw_m1 = ReadWriteGprMem Word ∷ []
signature_of row.shll_m1 = ReadWriteGprMem Doubleword ∷ []
signature_of row.shlq_m1 = ReadWriteGprMem Quadword ∷ []
signature_of row.shrb_m1 = ReadWriteGprMem Byte ∷ []
signature_of row.shrw_m1 = ReadWriteGprMem Word ∷ []
signature_of row.shrl_m1 = ReadWriteGprMem Doubleword ∷ []
signature_of row.shrq_m1 = ReadWriteGprMem Quadword ∷ []
signature_of row.sarb_m1 = ReadWriteGprMem Byte ∷ []
signature_of row.sarw_m1 = ReadWriteGprMem Word ∷ []
signature_of row.sarl_m1 = ReadWriteGprMem Doubleword ∷ []
signature_of row.sarq_m1 = ReadWriteGprMem Quadword ∷ []
signature_of row.callq_m = ReadGprMem Quadword ∷ []
signature_of row.jmpq_m = ReadGprMem Quadword ∷ []
signature_of row.andps_a = ReadWriteXmm ∷ ReadXmmMem ∷ []
signature_of row.cmpps_a = ReadWriteXmm ∷ ReadXmmMem ∷ Imm Predicate ∷ []
signature_of row.cmppd_a = ReadWriteXmm ∷ ReadXmmMem ∷ Imm Predicate ∷ []
signature_of row.cmpss_a = ReadWriteXmm ∷ ReadXmmMem ∷ Imm Predicate ∷ []
signature_of row.cmpsd_a = ReadWriteXmm ∷ ReadXmmMem ∷ Imm Predicate ∷ []
signature_of row.andb_i = FixedReadWriteGpr rax (Some Byte) ∷ Imm Imm8 ∷ []
signature_of row.callq_d = Imm Distance32 ∷ []
signature_of row.jmp_d8 = Imm Distance8 ∷ []
signature_of row.jmp_d32 = Imm Distance32 ∷ []
signature_of row.jo_d8 = Imm Distance8 ∷ []
signature_of row.jno_d8 = Imm Distance8 ∷ []
signature_of row.jb_d8 = Imm Distance8 ∷ []
signature_of row.jae_d8 = Imm Distance8 ∷ []
signature_of row.je_d8 = Imm Distance8 ∷ []
signature_of row.jne_d8 = Imm Distance8 ∷ []
signature_of row.jbe_d8 = Imm Distance8 ∷ []
signature_of row.ja_d8 = Imm Distance8 ∷ []
signature_of row.js_d8 = Imm Distance8 ∷ []
signature_of row.jns_d8 = Imm Distance8 ∷ []
signature_of row.jp_d8 = Imm Distance8 ∷ []
signature_of row.jnp_d8 = Imm Distance8 ∷ []
signature_of row.jl_d8 = Imm Distance8 ∷ []
signature_of row.jge_d8 = Imm Distance8 ∷ []
signature_of row.jle_d8 = Imm Distance8 ∷ []
signature_of row.jg_d8 = Imm Distance8 ∷ []
signature_of row.jo_d32 = Imm Distance32 ∷ []
signature_of row.jno_d32 = Imm Distance32 ∷ []
signature_of row.jb_d32 = Imm Distance32 ∷ []
signature_of row.jae_d32 = Imm Distance32 ∷ []
signature_of row.je_d32 = Imm Distance32 ∷ []
signature_of row.jne_d32 = Imm Distance32 ∷ []
signature_of row.jbe_d32 = Imm Distance32 ∷ []
signature_of row.ja_d32 = Imm Distance32 ∷ []
signature_of row.js_d32 = Imm Distance32 ∷ []
signature_of row.jns_d32 = Imm Distance32 ∷ []
signature_of row.jp_d32 = Imm Distance32 ∷ []
signature_of row.jnp_d32 = Imm Distance32 ∷ []
signature_of row.jl_d32 = Imm Distance32 ∷ []
signature_of row.jge_d32 = Imm Distance32 ∷ []
signature_of row.jle_d32 = Imm Distance32 ∷ []
signature_of row.jg_d32 = Imm Distance32 ∷ []
signature_of row.vcmpps_b = WriteXmm ∷ ReadXmm ∷ ReadXmmMem ∷ Imm VexPredicate ∷ []
signature_of row.vcmppd_b = WriteXmm ∷ ReadXmm ∷ ReadXmmMem ∷ Imm VexPredicate ∷ []
signature_of row.vcmpss_b = WriteXmm ∷ ReadXmm ∷ ReadXmmMem ∷ Imm VexPredicate ∷ []
signature_of row.vcmpsd_b = WriteXmm ∷ ReadXmm ∷ ReadXmmMem ∷ Imm VexPredicate ∷ []
signature_of row.vcvtpd2ps_a = WriteXmm ∷ ReadXmmMem ∷ []
signature_of row.vcvttpd2dq_a = WriteXmm ∷ ReadXmmMem ∷ []
signature_of row.mulxl_rvm = WriteTwoGprs Doubleword ∷ ReadGprMem Doubleword ∷ reads rdx ∷ []
signature_of row.mulxq_rvm = WriteTwoGprs Quadword ∷ ReadGprMem Quadword ∷ reads rdx ∷ []
signature_of row.nop_1b = []
signature_of row.nop_2b = []
signature_of row.nopl_rm = ReadGprMem Doubleword ∷ []
signature_of row.nopw_rm = ReadGprMem Word ∷ []

-- An instruction of a row has the row's operands: those of its signature, each immediate within the range of its type. A
-- no-operation is of its own row.
abbrev pub HasSignature : {R A B C D E F : Type 0} → Row → Operands R A B C D E F → Type 0
HasSignature r operands = MatchOption (nop_of operands) ((kinds_of (list_of operands) ≡ signature_of r) × (imms_in_range (list_of operands) ≡ true)) (λ nop. r ≡ nop_row nop)
