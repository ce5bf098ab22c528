use Rattle.std.specs.Prelude.{ℕ, true, false, Option, Some, None, List, [], ◌∷◌, codes}
use Rattle.cax64_machine_code.specs.Prefix.{no_legacy}
use Rattle.cax64_machine_code.specs.declared.line.LegacySet.{LegacySet}
use Rattle.cax64_machine_code.specs.declared.line.Opcode.{Opcode}
use Rattle.cax64_machine_code.specs.declared.line.Line.{Line}
use Rattle.cax64_machine_code.specs.declared.line.VvvvField.{VvvvField}
use Rattle.cax64_machine_code.specs.declared.line.TailField.{TailField}
use Rattle.cax64_machine_code.specs.declared.line.ImmField.{ImmField}
use Rattle.cax64_machine_code.specs.declared.line.VvvvField.TheVariants.{VvvvRegister, Stored1111}
use Rattle.cax64_machine_code.specs.declared.line.PrefixField.TheVariants.{LegacyField, VexField}
use Rattle.cax64_machine_code.specs.declared.line.RegField.TheVariants.{Digit, Register8, Register}
use Rattle.cax64_machine_code.specs.declared.line.PlaceField.TheVariants.{Memory, RegisterOrMemory, Register8OrMemory}
use Rattle.cax64_machine_code.specs.declared.line.TailField.TheVariants.{NoTail, Modrm}
use Rattle.cax64_machine_code.specs.declared.line.ImmField.TheVariants.{NoImm, Imm, Simm}
use Rattle.cax64_machine_code.specs.declared.row.Row.{Row}
use Rattle.cax64_machine_code.specs.declared.row.Row.TheVariants as row

-- the sets of legacy prefixes that rows ask for
abbrev pub F0 : LegacySet
F0 = record { lock = true; operand_size = false; repne = false; rep = false }

abbrev pub F0_66 : LegacySet
F0_66 = record { lock = true; operand_size = true; repne = false; rep = false }

abbrev pub only_66 : LegacySet
only_66 = record { lock = false; operand_size = true; repne = false; rep = false }

abbrev pub only_F2 : LegacySet
only_F2 = record { lock = false; operand_size = false; repne = true; rep = false }

abbrev pub only_F3 : LegacySet
only_F3 = record { lock = false; operand_size = false; repne = false; rep = true }

-- what a row asks of W
abbrev pub any : Option ℕ
any = None

abbrev pub W0 : Option ℕ
W0 = Some 0

abbrev pub W1 : Option ℕ
W1 = Some 1

-- an opcode of one byte, and one behind 0F
abbrev pub byte : ℕ → Opcode
byte last = record { escape = false; byte = last }

abbrev pub escaped : ℕ → Opcode
escaped last = record { escape = true; byte = last }

-- a row of legacy prefixes, in which a REX byte may stand
abbrev pub plain : LegacySet → Option ℕ → Opcode → TailField → ImmField → Line
plain set w opcode tail immediate = record { prefix = LegacyField set true; w = w; opcode = opcode; tail = tail; imm = immediate }

-- a row of legacy prefixes, in which none may stand
abbrev pub without_rex : LegacySet → Option ℕ → Opcode → TailField → ImmField → Line
without_rex set w opcode tail immediate = record { prefix = LegacyField set false; w = w; opcode = opcode; tail = tail; imm = immediate }

-- a row of VEX fields pp, map and L, whose tail has a register in reg and a register or memory
abbrev pub vex_row : ℕ → ℕ → ℕ → Option ℕ → VvvvField → Opcode → ImmField → Line
vex_row pp map l w vvvv opcode immediate = record { prefix = VexField pp map l vvvv; w = w; opcode = opcode; tail = Modrm Register RegisterOrMemory; imm = immediate }

-- The table: the prefixes, W, the opcode, what the tail holds, the immediate. (Intel SDM, volume 2, chapters 3 to 5,
-- the pages of the named instructions.)
unfoldable pub line_of : Row → Line
line_of row.lock_addb_mi = plain F0 any (byte 0x80) (Modrm (Digit 0) Memory) (Imm 1)
line_of row.lock_addw_mi = plain F0_66 W0 (byte 0x81) (Modrm (Digit 0) Memory) (Imm 2)
line_of row.lock_addl_mi = plain F0 W0 (byte 0x81) (Modrm (Digit 0) Memory) (Imm 4)
line_of row.lock_addq_mi_sxl = plain F0 W1 (byte 0x81) (Modrm (Digit 0) Memory) (Simm 4)
line_of row.lock_addl_mi_sxb = plain F0 W0 (byte 0x83) (Modrm (Digit 0) Memory) (Simm 1)
line_of row.lock_addq_mi_sxb = plain F0 W1 (byte 0x83) (Modrm (Digit 0) Memory) (Simm 1)
line_of row.lock_addb_mr = plain F0 any (byte 0x00) (Modrm Register8 Memory) NoImm
line_of row.lock_addw_mr = plain F0_66 W0 (byte 0x01) (Modrm Register Memory) NoImm
line_of row.lock_addl_mr = plain F0 W0 (byte 0x01) (Modrm Register Memory) NoImm
line_of row.lock_addq_mr = plain F0 W1 (byte 0x01) (Modrm Register Memory) NoImm
line_of row.lock_orb_mi = plain F0 any (byte 0x80) (Modrm (Digit 1) Memory) (Imm 1)
line_of row.lock_orw_mi = plain F0_66 W0 (byte 0x81) (Modrm (Digit 1) Memory) (Imm 2)
line_of row.lock_orl_mi = plain F0 W0 (byte 0x81) (Modrm (Digit 1) Memory) (Imm 4)
line_of row.lock_orq_mi_sxl = plain F0 W1 (byte 0x81) (Modrm (Digit 1) Memory) (Simm 4)
line_of row.lock_orl_mi_sxb = plain F0 W0 (byte 0x83) (Modrm (Digit 1) Memory) (Simm 1)
line_of row.lock_orq_mi_sxb = plain F0 W1 (byte 0x83) (Modrm (Digit 1) Memory) (Simm 1)
line_of row.lock_orb_mr = plain F0 any (byte 0x08) (Modrm Register8 Memory) NoImm
line_of row.lock_orw_mr = plain F0_66 W0 (byte 0x09) (Modrm Register Memory) NoImm
line_of row.lock_orl_mr = plain F0 W0 (byte 0x09) (Modrm Register Memory) NoImm
line_of row.lock_orq_mr = plain F0 W1 (byte 0x09) (Modrm Register Memory) NoImm
line_of row.lock_adcb_mi = plain F0 any (byte 0x80) (Modrm (Digit 2) Memory) (Imm 1)
line_of row.lock_adcw_mi = plain F0_66 W0 (byte 0x81) (Modrm (Digit 2) Memory) (Imm 2)
line_of row.lock_adcl_mi = plain F0 W0 (byte 0x81) (Modrm (Digit 2) Memory) (Imm 4)
line_of row.lock_adcq_mi_sxl = plain F0 W1 (byte 0x81) (Modrm (Digit 2) Memory) (Simm 4)
line_of row.lock_adcl_mi_sxb = plain F0 W0 (byte 0x83) (Modrm (Digit 2) Memory) (Simm 1)
line_of row.lock_adcq_mi_sxb = plain F0 W1 (byte 0x83) (Modrm (Digit 2) Memory) (Simm 1)
line_of row.lock_adcb_mr = plain F0 any (byte 0x10) (Modrm Register8 Memory) NoImm
line_of row.lock_adcw_mr = plain F0_66 W0 (byte 0x11) (Modrm Register Memory) NoImm
line_of row.lock_adcl_mr = plain F0 W0 (byte 0x11) (Modrm Register Memory) NoImm
line_of row.lock_adcq_mr = plain F0 W1 (byte 0x11) (Modrm Register Memory) NoImm
line_of row.lock_sbbb_mi = plain F0 any (byte 0x80) (Modrm (Digit 3) Memory) (Imm 1)
line_of row.lock_sbbw_mi = plain F0_66 W0 (byte 0x81) (Modrm (Digit 3) Memory) (Imm 2)
line_of row.lock_sbbl_mi = plain F0 W0 (byte 0x81) (Modrm (Digit 3) Memory) (Imm 4)
line_of row.lock_sbbq_mi_sxl = plain F0 W1 (byte 0x81) (Modrm (Digit 3) Memory) (Simm 4)
line_of row.lock_sbbl_mi_sxb = plain F0 W0 (byte 0x83) (Modrm (Digit 3) Memory) (Simm 1)
line_of row.lock_sbbq_mi_sxb = plain F0 W1 (byte 0x83) (Modrm (Digit 3) Memory) (Simm 1)
line_of row.lock_sbbb_mr = plain F0 any (byte 0x18) (Modrm Register8 Memory) NoImm
line_of row.lock_sbbw_mr = plain F0_66 W0 (byte 0x19) (Modrm Register Memory) NoImm
line_of row.lock_sbbl_mr = plain F0 W0 (byte 0x19) (Modrm Register Memory) NoImm
line_of row.lock_sbbq_mr = plain F0 W1 (byte 0x19) (Modrm Register Memory) NoImm
line_of row.lock_andb_mi = plain F0 any (byte 0x80) (Modrm (Digit 4) Memory) (Imm 1)
line_of row.lock_andw_mi = plain F0_66 W0 (byte 0x81) (Modrm (Digit 4) Memory) (Imm 2)
line_of row.lock_andl_mi = plain F0 W0 (byte 0x81) (Modrm (Digit 4) Memory) (Imm 4)
line_of row.lock_andq_mi_sxl = plain F0 W1 (byte 0x81) (Modrm (Digit 4) Memory) (Simm 4)
line_of row.lock_andl_mi_sxb = plain F0 W0 (byte 0x83) (Modrm (Digit 4) Memory) (Simm 1)
line_of row.lock_andq_mi_sxb = plain F0 W1 (byte 0x83) (Modrm (Digit 4) Memory) (Simm 1)
line_of row.lock_andb_mr = plain F0 any (byte 0x20) (Modrm Register8 Memory) NoImm
line_of row.lock_andw_mr = plain F0_66 W0 (byte 0x21) (Modrm Register Memory) NoImm
line_of row.lock_andl_mr = plain F0 W0 (byte 0x21) (Modrm Register Memory) NoImm
line_of row.lock_andq_mr = plain F0 W1 (byte 0x21) (Modrm Register Memory) NoImm
line_of row.lock_subb_mi = plain F0 any (byte 0x80) (Modrm (Digit 5) Memory) (Imm 1)
line_of row.lock_subw_mi = plain F0_66 W0 (byte 0x81) (Modrm (Digit 5) Memory) (Imm 2)
line_of row.lock_subl_mi = plain F0 W0 (byte 0x81) (Modrm (Digit 5) Memory) (Imm 4)
line_of row.lock_subq_mi_sxl = plain F0 W1 (byte 0x81) (Modrm (Digit 5) Memory) (Simm 4)
line_of row.lock_subl_mi_sxb = plain F0 W0 (byte 0x83) (Modrm (Digit 5) Memory) (Simm 1)
line_of row.lock_subq_mi_sxb = plain F0 W1 (byte 0x83) (Modrm (Digit 5) Memory) (Simm 1)
line_of row.lock_subb_mr = plain F0 any (byte 0x28) (Modrm Register8 Memory) NoImm
line_of row.lock_subw_mr = plain F0_66 W0 (byte 0x29) (Modrm Register Memory) NoImm
line_of row.lock_subl_mr = plain F0 W0 (byte 0x29) (Modrm Register Memory) NoImm
line_of row.lock_subq_mr = plain F0 W1 (byte 0x29) (Modrm Register Memory) NoImm
line_of row.lock_xorb_mi = plain F0 any (byte 0x80) (Modrm (Digit 6) Memory) (Imm 1)
line_of row.lock_xorw_mi = plain F0_66 W0 (byte 0x81) (Modrm (Digit 6) Memory) (Imm 2)
line_of row.lock_xorl_mi = plain F0 W0 (byte 0x81) (Modrm (Digit 6) Memory) (Imm 4)
line_of row.lock_xorq_mi_sxl = plain F0 W1 (byte 0x81) (Modrm (Digit 6) Memory) (Simm 4)
line_of row.lock_xorl_mi_sxb = plain F0 W0 (byte 0x83) (Modrm (Digit 6) Memory) (Simm 1)
line_of row.lock_xorq_mi_sxb = plain F0 W1 (byte 0x83) (Modrm (Digit 6) Memory) (Simm 1)
line_of row.lock_xorb_mr = plain F0 any (byte 0x30) (Modrm Register8 Memory) NoImm
line_of row.lock_xorw_mr = plain F0_66 W0 (byte 0x31) (Modrm Register Memory) NoImm
line_of row.lock_xorl_mr = plain F0 W0 (byte 0x31) (Modrm Register Memory) NoImm
line_of row.lock_xorq_mr = plain F0 W1 (byte 0x31) (Modrm Register Memory) NoImm
line_of row.lock_xaddb_mr = plain F0 any (escaped 0xC0) (Modrm Register8 Memory) NoImm
line_of row.lock_xaddw_mr = plain F0_66 W0 (escaped 0xC1) (Modrm Register Memory) NoImm
line_of row.lock_xaddl_mr = plain F0 W0 (escaped 0xC1) (Modrm Register Memory) NoImm
line_of row.lock_xaddq_mr = plain F0 W1 (escaped 0xC1) (Modrm Register Memory) NoImm
line_of row.lock_cmpxchgb_mr = plain F0 any (escaped 0xB0) (Modrm Register8 Memory) NoImm
line_of row.lock_cmpxchgw_mr = plain F0_66 W0 (escaped 0xB1) (Modrm Register Memory) NoImm
line_of row.lock_cmpxchgl_mr = plain F0 W0 (escaped 0xB1) (Modrm Register Memory) NoImm
line_of row.lock_cmpxchgq_mr = plain F0 W1 (escaped 0xB1) (Modrm Register Memory) NoImm
line_of row.lock_cmpxchg16b_m = plain F0 W1 (escaped 0xC7) (Modrm (Digit 1) Memory) NoImm
line_of row.xchgb_rm = plain no_legacy any (byte 0x86) (Modrm Register8 Memory) NoImm
line_of row.xchgw_rm = plain only_66 W0 (byte 0x87) (Modrm Register Memory) NoImm
line_of row.xchgl_rm = plain no_legacy W0 (byte 0x87) (Modrm Register Memory) NoImm
line_of row.xchgq_rm = plain no_legacy W1 (byte 0x87) (Modrm Register Memory) NoImm
line_of row.rolb_m1 = plain no_legacy any (byte 0xD0) (Modrm (Digit 0) Register8OrMemory) NoImm
line_of row.rolw_m1 = plain only_66 W0 (byte 0xD1) (Modrm (Digit 0) RegisterOrMemory) NoImm
line_of row.roll_m1 = plain no_legacy W0 (byte 0xD1) (Modrm (Digit 0) RegisterOrMemory) NoImm
line_of row.rolq_m1 = plain no_legacy W1 (byte 0xD1) (Modrm (Digit 0) RegisterOrMemory) NoImm
line_of row.rorb_m1 = plain no_legacy any (byte 0xD0) (Modrm (Digit 1) Register8OrMemory) NoImm
line_of row.rorw_m1 = plain only_66 W0 (byte 0xD1) (Modrm (Digit 1) RegisterOrMemory) NoImm
line_of row.rorl_m1 = plain no_legacy W0 (byte 0xD1) (Modrm (Digit 1) RegisterOrMemory) NoImm
line_of row.rorq_m1 = plain no_legacy W1 (byte 0xD1) (Modrm (Digit 1) RegisterOrMemory) NoImm
line_of row.shlb_m1 = plain no_legacy any (byte 0xD0) (Modrm (Digit 4) Register8OrMemory) NoImm
line_of row.shlw_m1 = plain only_66 W0 (byte 0xD1) (Modrm (Digit 4) RegisterOrMemory) NoImm
line_of row.shll_m1 = plain no_legacy W0 (byte 0xD1) (Modrm (Digit 4) RegisterOrMemory) NoImm
line_of row.shlq_m1 = plain no_legacy W1 (byte 0xD1) (Modrm (Digit 4) RegisterOrMemory) NoImm
line_of row.shrb_m1 = plain no_legacy any (byte 0xD0) (Modrm (Digit 5) Register8OrMemory) NoImm
line_of row.shrw_m1 = plain only_66 W0 (byte 0xD1) (Modrm (Digit 5) RegisterOrMemory) NoImm
line_of row.shrl_m1 = plain no_legacy W0 (byte 0xD1) (Modrm (Digit 5) RegisterOrMemory) NoImm
line_of row.shrq_m1 = plain no_legacy W1 (byte 0xD1) (Modrm (Digit 5) RegisterOrMemory) NoImm
line_of row.sarb_m1 = plain no_legacy any (byte 0xD0) (Modrm (Digit 7) Register8OrMemory) NoImm
line_of row.sarw_m1 = plain only_66 W0 (byte 0xD1) (Modrm (Digit 7) RegisterOrMemory) NoImm
line_of row.sarl_m1 = plain no_legacy W0 (byte 0xD1) (Modrm (Digit 7) RegisterOrMemory) NoImm
line_of row.sarq_m1 = plain no_legacy W1 (byte 0xD1) (Modrm (Digit 7) RegisterOrMemory) NoImm
line_of row.callq_m = plain no_legacy any (byte 0xFF) (Modrm (Digit 2) RegisterOrMemory) NoImm
line_of row.jmpq_m = plain no_legacy any (byte 0xFF) (Modrm (Digit 4) RegisterOrMemory) NoImm
line_of row.andps_a = plain no_legacy any (escaped 0x54) (Modrm Register RegisterOrMemory) NoImm
line_of row.cmpps_a = plain no_legacy any (escaped 0xC2) (Modrm Register RegisterOrMemory) (Imm 1)
line_of row.cmppd_a = plain only_66 any (escaped 0xC2) (Modrm Register RegisterOrMemory) (Imm 1)
line_of row.cmpss_a = plain only_F3 any (escaped 0xC2) (Modrm Register RegisterOrMemory) (Imm 1)
line_of row.cmpsd_a = plain only_F2 any (escaped 0xC2) (Modrm Register RegisterOrMemory) (Imm 1)
line_of row.andb_i = plain no_legacy any (byte 0x24) NoTail (Imm 1)
line_of row.callq_d = plain no_legacy any (byte 0xE8) NoTail (Simm 4)
line_of row.jmp_d8 = plain no_legacy any (byte 0xEB) NoTail (Simm 1)
line_of row.jmp_d32 = plain no_legacy any (byte 0xE9) NoTail (Simm 4)
line_of row.jo_d8 = plain no_legacy any (byte 0x70) NoTail (Simm 1)
line_of row.jno_d8 = plain no_legacy any (byte 0x71) NoTail (Simm 1)
line_of row.jb_d8 = plain no_legacy any (byte 0x72) NoTail (Simm 1)
line_of row.jae_d8 = plain no_legacy any (byte 0x73) NoTail (Simm 1)
line_of row.je_d8 = plain no_legacy any (byte 0x74) NoTail (Simm 1)
line_of row.jne_d8 = plain no_legacy any (byte 0x75) NoTail (Simm 1)
line_of row.jbe_d8 = plain no_legacy any (byte 0x76) NoTail (Simm 1)
line_of row.ja_d8 = plain no_legacy any (byte 0x77) NoTail (Simm 1)
line_of row.js_d8 = plain no_legacy any (byte 0x78) NoTail (Simm 1)
line_of row.jns_d8 = plain no_legacy any (byte 0x79) NoTail (Simm 1)
line_of row.jp_d8 = plain no_legacy any (byte 0x7A) NoTail (Simm 1)
line_of row.jnp_d8 = plain no_legacy any (byte 0x7B) NoTail (Simm 1)
line_of row.jl_d8 = plain no_legacy any (byte 0x7C) NoTail (Simm 1)
line_of row.jge_d8 = plain no_legacy any (byte 0x7D) NoTail (Simm 1)
line_of row.jle_d8 = plain no_legacy any (byte 0x7E) NoTail (Simm 1)
line_of row.jg_d8 = plain no_legacy any (byte 0x7F) NoTail (Simm 1)
line_of row.jo_d32 = plain no_legacy any (escaped 0x80) NoTail (Simm 4)
line_of row.jno_d32 = plain no_legacy any (escaped 0x81) NoTail (Simm 4)
line_of row.jb_d32 = plain no_legacy any (escaped 0x82) NoTail (Simm 4)
line_of row.jae_d32 = plain no_legacy any (escaped 0x83) NoTail (Simm 4)
line_of row.je_d32 = plain no_legacy any (escaped 0x84) NoTail (Simm 4)
line_of row.jne_d32 = plain no_legacy any (escaped 0x85) NoTail (Simm 4)
line_of row.jbe_d32 = plain no_legacy any (escaped 0x86) NoTail (Simm 4)
line_of row.ja_d32 = plain no_legacy any (escaped 0x87) NoTail (Simm 4)
line_of row.js_d32 = plain no_legacy any (escaped 0x88) NoTail (Simm 4)
line_of row.jns_d32 = plain no_legacy any (escaped 0x89) NoTail (Simm 4)
line_of row.jp_d32 = plain no_legacy any (escaped 0x8A) NoTail (Simm 4)
line_of row.jnp_d32 = plain no_legacy any (escaped 0x8B) NoTail (Simm 4)
line_of row.jl_d32 = plain no_legacy any (escaped 0x8C) NoTail (Simm 4)
line_of row.jge_d32 = plain no_legacy any (escaped 0x8D) NoTail (Simm 4)
line_of row.jle_d32 = plain no_legacy any (escaped 0x8E) NoTail (Simm 4)
line_of row.jg_d32 = plain no_legacy any (escaped 0x8F) NoTail (Simm 4)
line_of row.vcmpps_b = vex_row 0 1 0 W0 VvvvRegister (byte 0xC2) (Imm 1)
line_of row.vcmppd_b = vex_row 1 1 0 W0 VvvvRegister (byte 0xC2) (Imm 1)
line_of row.vcmpss_b = vex_row 2 1 0 W0 VvvvRegister (byte 0xC2) (Imm 1)
line_of row.vcmpsd_b = vex_row 3 1 0 W0 VvvvRegister (byte 0xC2) (Imm 1)
line_of row.vcvtpd2ps_a = vex_row 1 1 0 W0 Stored1111 (byte 0x5A) NoImm
line_of row.vcvttpd2dq_a = vex_row 1 1 0 W0 Stored1111 (byte 0xE6) NoImm
line_of row.mulxl_rvm = vex_row 3 2 0 W0 VvvvRegister (byte 0xF6) NoImm
line_of row.mulxq_rvm = vex_row 3 2 0 W1 VvvvRegister (byte 0xF6) NoImm
line_of row.nop_1b = without_rex no_legacy any (byte 0x90) NoTail NoImm
line_of row.nop_2b = without_rex only_66 any (byte 0x90) NoTail NoImm
line_of row.nopl_rm = plain no_legacy W0 (escaped 0x1F) (Modrm (Digit 0) RegisterOrMemory) NoImm
line_of row.nopw_rm = plain only_66 W0 (escaped 0x1F) (Modrm (Digit 0) RegisterOrMemory) NoImm

-- all rows, in the order of the table
unfoldable pub all_rows : List Row
all_rows =
    row.lock_addb_mi ∷ row.lock_addw_mi ∷ row.lock_addl_mi ∷ row.lock_addq_mi_sxl ∷ row.lock_addl_mi_sxb ∷
    row.lock_addq_mi_sxb ∷ row.lock_addb_mr ∷ row.lock_addw_mr ∷ row.lock_addl_mr ∷ row.lock_addq_mr ∷
    row.lock_orb_mi ∷ row.lock_orw_mi ∷ row.lock_orl_mi ∷ row.lock_orq_mi_sxl ∷ row.lock_orl_mi_sxb ∷
    row.lock_orq_mi_sxb ∷ row.lock_orb_mr ∷ row.lock_orw_mr ∷ row.lock_orl_mr ∷ row.lock_orq_mr ∷ row.lock_adcb_mi ∷
    row.lock_adcw_mi ∷ row.lock_adcl_mi ∷ row.lock_adcq_mi_sxl ∷ row.lock_adcl_mi_sxb ∷ row.lock_adcq_mi_sxb ∷
    row.lock_adcb_mr ∷ row.lock_adcw_mr ∷ row.lock_adcl_mr ∷ row.lock_adcq_mr ∷ row.lock_sbbb_mi ∷ row.lock_sbbw_mi ∷
    row.lock_sbbl_mi ∷ row.lock_sbbq_mi_sxl ∷ row.lock_sbbl_mi_sxb ∷ row.lock_sbbq_mi_sxb ∷ row.lock_sbbb_mr ∷
    row.lock_sbbw_mr ∷ row.lock_sbbl_mr ∷ row.lock_sbbq_mr ∷ row.lock_andb_mi ∷ row.lock_andw_mi ∷ row.lock_andl_mi ∷
    row.lock_andq_mi_sxl ∷ row.lock_andl_mi_sxb ∷ row.lock_andq_mi_sxb ∷ row.lock_andb_mr ∷ row.lock_andw_mr ∷
    row.lock_andl_mr ∷ row.lock_andq_mr ∷ row.lock_subb_mi ∷ row.lock_subw_mi ∷ row.lock_subl_mi ∷
    row.lock_subq_mi_sxl ∷ row.lock_subl_mi_sxb ∷ row.lock_subq_mi_sxb ∷ row.lock_subb_mr ∷ row.lock_subw_mr ∷
    row.lock_subl_mr ∷ row.lock_subq_mr ∷ row.lock_xorb_mi ∷ row.lock_xorw_mi ∷ row.lock_xorl_mi ∷
    row.lock_xorq_mi_sxl ∷ row.lock_xorl_mi_sxb ∷ row.lock_xorq_mi_sxb ∷ row.lock_xorb_mr ∷ row.lock_xorw_mr ∷
    row.lock_xorl_mr ∷ row.lock_xorq_mr ∷ row.lock_xaddb_mr ∷ row.lock_xaddw_mr ∷ row.lock_xaddl_mr ∷
    row.lock_xaddq_mr ∷ row.lock_cmpxchgb_mr ∷ row.lock_cmpxchgw_mr ∷ row.lock_cmpxchgl_mr ∷ row.lock_cmpxchgq_mr ∷
    row.lock_cmpxchg16b_m ∷ row.xchgb_rm ∷ row.xchgw_rm ∷ row.xchgl_rm ∷ row.xchgq_rm ∷ row.rolb_m1 ∷ row.rolw_m1 ∷
    row.roll_m1 ∷ row.rolq_m1 ∷ row.rorb_m1 ∷ row.rorw_m1 ∷ row.rorl_m1 ∷ row.rorq_m1 ∷ row.shlb_m1 ∷ row.shlw_m1 ∷
    row.shll_m1 ∷ row.shlq_m1 ∷ row.shrb_m1 ∷ row.shrw_m1 ∷ row.shrl_m1 ∷ row.shrq_m1 ∷ row.sarb_m1 ∷ row.sarw_m1 ∷
    row.sarl_m1 ∷ row.sarq_m1 ∷ row.callq_m ∷ row.jmpq_m ∷ row.andps_a ∷ row.cmpps_a ∷ row.cmppd_a ∷ row.cmpss_a ∷
    row.cmpsd_a ∷ row.andb_i ∷ row.callq_d ∷ row.jmp_d8 ∷ row.jmp_d32 ∷ row.jo_d8 ∷ row.jno_d8 ∷ row.jb_d8 ∷
    row.jae_d8 ∷ row.je_d8 ∷ row.jne_d8 ∷ row.jbe_d8 ∷ row.ja_d8 ∷ row.js_d8 ∷ row.jns_d8 ∷ row.jp_d8 ∷ row.jnp_d8 ∷
    row.jl_d8 ∷ row.jge_d8 ∷ row.jle_d8 ∷ row.jg_d8 ∷ row.jo_d32 ∷ row.jno_d32 ∷ row.jb_d32 ∷ row.jae_d32 ∷
    row.je_d32 ∷ row.jne_d32 ∷ row.jbe_d32 ∷ row.ja_d32 ∷ row.js_d32 ∷ row.jns_d32 ∷ row.jp_d32 ∷ row.jnp_d32 ∷
    row.jl_d32 ∷ row.jge_d32 ∷ row.jle_d32 ∷ row.jg_d32 ∷ row.vcmpps_b ∷ row.vcmppd_b ∷ row.vcmpss_b ∷ row.vcmpsd_b ∷
    row.vcvtpd2ps_a ∷ row.vcvttpd2dq_a ∷ row.mulxl_rvm ∷ row.mulxq_rvm ∷ row.nop_1b ∷ row.nop_2b ∷ row.nopl_rm ∷
    row.nopw_rm ∷ []

-- the name of a row
abbrev pub name_of : Row → List ℕ
name_of row.lock_addb_mi = codes "lock_addb_mi"
name_of row.lock_addw_mi = codes "lock_addw_mi"
name_of row.lock_addl_mi = codes "lock_addl_mi"
name_of row.lock_addq_mi_sxl = codes "lock_addq_mi_sxl"
name_of row.lock_addl_mi_sxb = codes "lock_addl_mi_sxb"
name_of row.lock_addq_mi_sxb = codes "lock_addq_mi_sxb"
name_of row.lock_addb_mr = codes "lock_addb_mr"
name_of row.lock_addw_mr = codes "lock_addw_mr"
name_of row.lock_addl_mr = codes "lock_addl_mr"
name_of row.lock_addq_mr = codes "lock_addq_mr"
name_of row.lock_orb_mi = codes "lock_orb_mi"
name_of row.lock_orw_mi = codes "lock_orw_mi"
name_of row.lock_orl_mi = codes "lock_orl_mi"
name_of row.lock_orq_mi_sxl = codes "lock_orq_mi_sxl"
name_of row.lock_orl_mi_sxb = codes "lock_orl_mi_sxb"
name_of row.lock_orq_mi_sxb = codes "lock_orq_mi_sxb"
name_of row.lock_orb_mr = codes "lock_orb_mr"
name_of row.lock_orw_mr = codes "lock_orw_mr"
name_of row.lock_orl_mr = codes "lock_orl_mr"
name_of row.lock_orq_mr = codes "lock_orq_mr"
name_of row.lock_adcb_mi = codes "lock_adcb_mi"
name_of row.lock_adcw_mi = codes "lock_adcw_mi"
name_of row.lock_adcl_mi = codes "lock_adcl_mi"
name_of row.lock_adcq_mi_sxl = codes "lock_adcq_mi_sxl"
name_of row.lock_adcl_mi_sxb = codes "lock_adcl_mi_sxb"
name_of row.lock_adcq_mi_sxb = codes "lock_adcq_mi_sxb"
name_of row.lock_adcb_mr = codes "lock_adcb_mr"
name_of row.lock_adcw_mr = codes "lock_adcw_mr"
name_of row.lock_adcl_mr = codes "lock_adcl_mr"
name_of row.lock_adcq_mr = codes "lock_adcq_mr"
name_of row.lock_sbbb_mi = codes "lock_sbbb_mi"
name_of row.lock_sbbw_mi = codes "lock_sbbw_mi"
name_of row.lock_sbbl_mi = codes "lock_sbbl_mi"
name_of row.lock_sbbq_mi_sxl = codes "lock_sbbq_mi_sxl"
name_of row.lock_sbbl_mi_sxb = codes "lock_sbbl_mi_sxb"
name_of row.lock_sbbq_mi_sxb = codes "lock_sbbq_mi_sxb"
name_of row.lock_sbbb_mr = codes "lock_sbbb_mr"
name_of row.lock_sbbw_mr = codes "lock_sbbw_mr"
name_of row.lock_sbbl_mr = codes "lock_sbbl_mr"
name_of row.lock_sbbq_mr = codes "lock_sbbq_mr"
name_of row.lock_andb_mi = codes "lock_andb_mi"
name_of row.lock_andw_mi = codes "lock_andw_mi"
name_of row.lock_andl_mi = codes "lock_andl_mi"
name_of row.lock_andq_mi_sxl = codes "lock_andq_mi_sxl"
name_of row.lock_andl_mi_sxb = codes "lock_andl_mi_sxb"
name_of row.lock_andq_mi_sxb = codes "lock_andq_mi_sxb"
name_of row.lock_andb_mr = codes "lock_andb_mr"
name_of row.lock_andw_mr = codes "lock_andw_mr"
name_of row.lock_andl_mr = codes "lock_andl_mr"
name_of row.lock_andq_mr = codes "lock_andq_mr"
name_of row.lock_subb_mi = codes "lock_subb_mi"
name_of row.lock_subw_mi = codes "lock_subw_mi"
name_of row.lock_subl_mi = codes "lock_subl_mi"
name_of row.lock_subq_mi_sxl = codes "lock_subq_mi_sxl"
name_of row.lock_subl_mi_sxb = codes "lock_subl_mi_sxb"
name_of row.lock_subq_mi_sxb = codes "lock_subq_mi_sxb"
name_of row.lock_subb_mr = codes "lock_subb_mr"
name_of row.lock_subw_mr = codes "lock_subw_mr"
name_of row.lock_subl_mr = codes "lock_subl_mr"
name_of row.lock_subq_mr = codes "lock_subq_mr"
name_of row.lock_xorb_mi = codes "lock_xorb_mi"
name_of row.lock_xorw_mi = codes "lock_xorw_mi"
name_of row.lock_xorl_mi = codes "lock_xorl_mi"
name_of row.lock_xorq_mi_sxl = codes "lock_xorq_mi_sxl"
name_of row.lock_xorl_mi_sxb = codes "lock_xorl_mi_sxb"
name_of row.lock_xorq_mi_sxb = codes "lock_xorq_mi_sxb"
name_of row.lock_xorb_mr = codes "lock_xorb_mr"
name_of row.lock_xorw_mr = codes "lock_xorw_mr"
name_of row.lock_xorl_mr = codes "lock_xorl_mr"
name_of row.lock_xorq_mr = codes "lock_xorq_mr"
name_of row.lock_xaddb_mr = codes "lock_xaddb_mr"
name_of row.lock_xaddw_mr = codes "lock_xaddw_mr"
name_of row.lock_xaddl_mr = codes "lock_xaddl_mr"
name_of row.lock_xaddq_mr = codes "lock_xaddq_mr"
name_of row.lock_cmpxchgb_mr = codes "lock_cmpxchgb_mr"
name_of row.lock_cmpxchgw_mr = codes "lock_cmpxchgw_mr"
name_of row.lock_cmpxchgl_mr = codes "lock_cmpxchgl_mr"
name_of row.lock_cmpxchgq_mr = codes "lock_cmpxchgq_mr"
name_of row.lock_cmpxchg16b_m = codes "lock_cmpxchg16b_m"
name_of row.xchgb_rm = codes "xchgb_rm"
name_of row.xchgw_rm = codes "xchgw_rm"
name_of row.xchgl_rm = codes "xchgl_rm"
name_of row.xchgq_rm = codes "xchgq_rm"
name_of row.rolb_m1 = codes "rolb_m1"
name_of row.rolw_m1 = codes "rolw_m1"
name_of row.roll_m1 = codes "roll_m1"
name_of row.rolq_m1 = codes "rolq_m1"
name_of row.rorb_m1 = codes "rorb_m1"
name_of row.rorw_m1 = codes "rorw_m1"
name_of row.rorl_m1 = codes "rorl_m1"
name_of row.rorq_m1 = codes "rorq_m1"
name_of row.shlb_m1 = codes "shlb_m1"
name_of row.shlw_m1 = codes "shlw_m1"
name_of row.shll_m1 = codes "shll_m1"
name_of row.shlq_m1 = codes "shlq_m1"
name_of row.shrb_m1 = codes "shrb_m1"
name_of row.shrw_m1 = codes "shrw_m1"
name_of row.shrl_m1 = codes "shrl_m1"
name_of row.shrq_m1 = codes "shrq_m1"
name_of row.sarb_m1 = codes "sarb_m1"
name_of row.sarw_m1 = codes "sarw_m1"
name_of row.sarl_m1 = codes "sarl_m1"
name_of row.sarq_m1 = codes "sarq_m1"
name_of row.callq_m = codes "callq_m"
name_of row.jmpq_m = codes "jmpq_m"
name_of row.andps_a = codes "andps_a"
name_of row.cmpps_a = codes "cmpps_a"
name_of row.cmppd_a = codes "cmppd_a"
name_of row.cmpss_a = codes "cmpss_a"
name_of row.cmpsd_a = codes "cmpsd_a"
name_of row.andb_i = codes "andb_i"
name_of row.callq_d = codes "callq_d"
name_of row.jmp_d8 = codes "jmp_d8"
name_of row.jmp_d32 = codes "jmp_d32"
name_of row.jo_d8 = codes "jo_d8"
name_of row.jno_d8 = codes "jno_d8"
name_of row.jb_d8 = codes "jb_d8"
name_of row.jae_d8 = codes "jae_d8"
name_of row.je_d8 = codes "je_d8"
name_of row.jne_d8 = codes "jne_d8"
name_of row.jbe_d8 = codes "jbe_d8"
name_of row.ja_d8 = codes "ja_d8"
name_of row.js_d8 = codes "js_d8"
name_of row.jns_d8 = codes "jns_d8"
name_of row.jp_d8 = codes "jp_d8"
name_of row.jnp_d8 = codes "jnp_d8"
name_of row.jl_d8 = codes "jl_d8"
name_of row.jge_d8 = codes "jge_d8"
name_of row.jle_d8 = codes "jle_d8"
name_of row.jg_d8 = codes "jg_d8"
name_of row.jo_d32 = codes "jo_d32"
name_of row.jno_d32 = codes "jno_d32"
name_of row.jb_d32 = codes "jb_d32"
name_of row.jae_d32 = codes "jae_d32"
name_of row.je_d32 = codes "je_d32"
name_of row.jne_d32 = codes "jne_d32"
name_of row.jbe_d32 = codes "jbe_d32"
name_of row.ja_d32 = codes "ja_d32"
name_of row.js_d32 = codes "js_d32"
name_of row.jns_d32 = codes "jns_d32"
name_of row.jp_d32 = codes "jp_d32"
name_of row.jnp_d32 = codes "jnp_d32"
name_of row.jl_d32 = codes "jl_d32"
name_of row.jge_d32 = codes "jge_d32"
name_of row.jle_d32 = codes "jle_d32"
name_of row.jg_d32 = codes "jg_d32"
name_of row.vcmpps_b = codes "vcmpps_b"
name_of row.vcmppd_b = codes "vcmppd_b"
name_of row.vcmpss_b = codes "vcmpss_b"
name_of row.vcmpsd_b = codes "vcmpsd_b"
name_of row.vcvtpd2ps_a = codes "vcvtpd2ps_a"
name_of row.vcvttpd2dq_a = codes "vcvttpd2dq_a"
name_of row.mulxl_rvm = codes "mulxl_rvm"
name_of row.mulxq_rvm = codes "mulxq_rvm"
name_of row.nop_1b = codes "nop_1b"
name_of row.nop_2b = codes "nop_2b"
name_of row.nopl_rm = codes "nopl_rm"
name_of row.nopw_rm = codes "nopw_rm"
