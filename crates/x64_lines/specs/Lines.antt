-- Written by table/write.py from table/core.txt.
use Rattle.std.specs.Prelude.{true, false, List, [], ◌∷◌, ◌++◌}
use Rattle.cax64_machine_code.specs.Prefix.{no_legacy}
use Rattle.cax64_machine_code.specs.ReadLine.{lines_of}
use Rattle.cax64_machine_code.specs.Rows.{all_rows, plain, any, W0, W1, only_66, only_F2, only_F3, byte, escaped}
use Rattle.cax64_machine_code.specs.declared.line.LegacySet.{LegacySet}
use Rattle.cax64_machine_code.specs.declared.line.Line.{Line}
use Rattle.cax64_machine_code.specs.declared.line.ImmField.TheVariants.{NoImm, Imm, Simm}
use Rattle.cax64_machine_code.specs.declared.line.PlaceField.TheVariants.{Memory, RegisterOrMemory, Register8OrMemory}
use Rattle.cax64_machine_code.specs.declared.line.RegField.TheVariants.{Digit, Register8, Register}
use Rattle.cax64_machine_code.specs.declared.line.TailField.TheVariants.{NoTail, Modrm}

-- The lines of the core: those of all rows, in the order of `all_rows`, and behind them a line for each instruction of
-- the core, in the words of the rows' own table. (Intel SDM, volume 2, chapters 3 to 5, the pages of the named
-- instructions.)

-- the prefixes 66 and F3
abbrev pub with_66_F3 : LegacySet
with_66_F3 = record { lock = false; operand_size = true; repne = false; rep = true }

unfoldable pub arithmetic_lines : List Line
arithmetic_lines =
    plain no_legacy any (byte 0x04) NoTail (Imm 1) ∷  -- addb_i
    plain no_legacy any (byte 0x80) (Modrm (Digit 0) Register8OrMemory) (Imm 1) ∷  -- addb_mi
    plain no_legacy any (byte 0x00) (Modrm Register8 Memory) NoImm ∷  -- addb_mr
    plain no_legacy any (byte 0x02) (Modrm Register8 Memory) NoImm ∷  -- addb_rm
    plain only_66 W0 (byte 0x05) NoTail (Imm 2) ∷  -- addw_i
    plain only_66 W0 (byte 0x81) (Modrm (Digit 0) RegisterOrMemory) (Imm 2) ∷  -- addw_mi
    plain only_66 W0 (byte 0x01) (Modrm Register RegisterOrMemory) NoImm ∷  -- addw_mr
    plain only_66 W0 (byte 0x03) (Modrm Register RegisterOrMemory) NoImm ∷  -- addw_rm
    plain no_legacy W0 (byte 0x05) NoTail (Imm 4) ∷  -- addl_i
    plain no_legacy W0 (byte 0x81) (Modrm (Digit 0) RegisterOrMemory) (Imm 4) ∷  -- addl_mi
    plain no_legacy W0 (byte 0x83) (Modrm (Digit 0) RegisterOrMemory) (Simm 1) ∷  -- addl_mi_sxb
    plain no_legacy W0 (byte 0x01) (Modrm Register RegisterOrMemory) NoImm ∷  -- addl_mr
    plain no_legacy W0 (byte 0x03) (Modrm Register RegisterOrMemory) NoImm ∷  -- addl_rm
    plain no_legacy W1 (byte 0x81) (Modrm (Digit 0) RegisterOrMemory) (Simm 4) ∷  -- addq_mi_sxl
    plain no_legacy W1 (byte 0x83) (Modrm (Digit 0) RegisterOrMemory) (Simm 1) ∷  -- addq_mi_sxb
    plain no_legacy W1 (byte 0x01) (Modrm Register RegisterOrMemory) NoImm ∷  -- addq_mr
    plain no_legacy W1 (byte 0x03) (Modrm Register RegisterOrMemory) NoImm ∷  -- addq_rm
    plain no_legacy any (byte 0x0C) NoTail (Imm 1) ∷  -- orb_i
    plain no_legacy any (byte 0x80) (Modrm (Digit 1) Register8OrMemory) (Imm 1) ∷  -- orb_mi
    plain no_legacy any (byte 0x08) (Modrm Register8 Memory) NoImm ∷  -- orb_mr
    plain no_legacy any (byte 0x0A) (Modrm Register8 Memory) NoImm ∷  -- orb_rm
    plain only_66 W0 (byte 0x0D) NoTail (Imm 2) ∷  -- orw_i
    plain only_66 W0 (byte 0x81) (Modrm (Digit 1) RegisterOrMemory) (Imm 2) ∷  -- orw_mi
    plain only_66 W0 (byte 0x09) (Modrm Register RegisterOrMemory) NoImm ∷  -- orw_mr
    plain only_66 W0 (byte 0x0B) (Modrm Register RegisterOrMemory) NoImm ∷  -- orw_rm
    plain no_legacy W0 (byte 0x0D) NoTail (Imm 4) ∷  -- orl_i
    plain no_legacy W0 (byte 0x81) (Modrm (Digit 1) RegisterOrMemory) (Imm 4) ∷  -- orl_mi
    plain no_legacy W0 (byte 0x83) (Modrm (Digit 1) RegisterOrMemory) (Simm 1) ∷  -- orl_mi_sxb
    plain no_legacy W0 (byte 0x09) (Modrm Register RegisterOrMemory) NoImm ∷  -- orl_mr
    plain no_legacy W0 (byte 0x0B) (Modrm Register RegisterOrMemory) NoImm ∷  -- orl_rm
    plain no_legacy W1 (byte 0x81) (Modrm (Digit 1) RegisterOrMemory) (Simm 4) ∷  -- orq_mi_sxl
    plain no_legacy W1 (byte 0x83) (Modrm (Digit 1) RegisterOrMemory) (Simm 1) ∷  -- orq_mi_sxb
    plain no_legacy W1 (byte 0x09) (Modrm Register RegisterOrMemory) NoImm ∷  -- orq_mr
    plain no_legacy W1 (byte 0x0B) (Modrm Register RegisterOrMemory) NoImm ∷  -- orq_rm
    plain no_legacy any (byte 0x14) NoTail (Imm 1) ∷  -- adcb_i
    plain no_legacy any (byte 0x80) (Modrm (Digit 2) Register8OrMemory) (Imm 1) ∷  -- adcb_mi
    plain no_legacy any (byte 0x10) (Modrm Register8 Memory) NoImm ∷  -- adcb_mr
    plain no_legacy any (byte 0x12) (Modrm Register8 Memory) NoImm ∷  -- adcb_rm
    plain only_66 W0 (byte 0x15) NoTail (Imm 2) ∷  -- adcw_i
    plain only_66 W0 (byte 0x81) (Modrm (Digit 2) RegisterOrMemory) (Imm 2) ∷  -- adcw_mi
    plain only_66 W0 (byte 0x11) (Modrm Register RegisterOrMemory) NoImm ∷  -- adcw_mr
    plain only_66 W0 (byte 0x13) (Modrm Register RegisterOrMemory) NoImm ∷  -- adcw_rm
    plain no_legacy W0 (byte 0x15) NoTail (Imm 4) ∷  -- adcl_i
    plain no_legacy W0 (byte 0x81) (Modrm (Digit 2) RegisterOrMemory) (Imm 4) ∷  -- adcl_mi
    plain no_legacy W0 (byte 0x83) (Modrm (Digit 2) RegisterOrMemory) (Simm 1) ∷  -- adcl_mi_sxb
    plain no_legacy W0 (byte 0x11) (Modrm Register RegisterOrMemory) NoImm ∷  -- adcl_mr
    plain no_legacy W0 (byte 0x13) (Modrm Register RegisterOrMemory) NoImm ∷  -- adcl_rm
    plain no_legacy W1 (byte 0x81) (Modrm (Digit 2) RegisterOrMemory) (Simm 4) ∷  -- adcq_mi_sxl
    plain no_legacy W1 (byte 0x83) (Modrm (Digit 2) RegisterOrMemory) (Simm 1) ∷  -- adcq_mi_sxb
    plain no_legacy W1 (byte 0x11) (Modrm Register RegisterOrMemory) NoImm ∷  -- adcq_mr
    plain no_legacy W1 (byte 0x13) (Modrm Register RegisterOrMemory) NoImm ∷  -- adcq_rm
    plain no_legacy any (byte 0x1C) NoTail (Imm 1) ∷  -- sbbb_i
    plain no_legacy any (byte 0x80) (Modrm (Digit 3) Register8OrMemory) (Imm 1) ∷  -- sbbb_mi
    plain no_legacy any (byte 0x18) (Modrm Register8 Memory) NoImm ∷  -- sbbb_mr
    plain no_legacy any (byte 0x1A) (Modrm Register8 Memory) NoImm ∷  -- sbbb_rm
    plain only_66 W0 (byte 0x1D) NoTail (Imm 2) ∷  -- sbbw_i
    plain only_66 W0 (byte 0x81) (Modrm (Digit 3) RegisterOrMemory) (Imm 2) ∷  -- sbbw_mi
    plain only_66 W0 (byte 0x19) (Modrm Register RegisterOrMemory) NoImm ∷  -- sbbw_mr
    plain only_66 W0 (byte 0x1B) (Modrm Register RegisterOrMemory) NoImm ∷  -- sbbw_rm
    plain no_legacy W0 (byte 0x1D) NoTail (Imm 4) ∷  -- sbbl_i
    plain no_legacy W0 (byte 0x81) (Modrm (Digit 3) RegisterOrMemory) (Imm 4) ∷  -- sbbl_mi
    plain no_legacy W0 (byte 0x83) (Modrm (Digit 3) RegisterOrMemory) (Simm 1) ∷  -- sbbl_mi_sxb
    plain no_legacy W0 (byte 0x19) (Modrm Register RegisterOrMemory) NoImm ∷  -- sbbl_mr
    plain no_legacy W0 (byte 0x1B) (Modrm Register RegisterOrMemory) NoImm ∷  -- sbbl_rm
    plain no_legacy W1 (byte 0x81) (Modrm (Digit 3) RegisterOrMemory) (Simm 4) ∷  -- sbbq_mi_sxl
    plain no_legacy W1 (byte 0x83) (Modrm (Digit 3) RegisterOrMemory) (Simm 1) ∷  -- sbbq_mi_sxb
    plain no_legacy W1 (byte 0x19) (Modrm Register RegisterOrMemory) NoImm ∷  -- sbbq_mr
    plain no_legacy W1 (byte 0x1B) (Modrm Register RegisterOrMemory) NoImm ∷  -- sbbq_rm
    plain no_legacy any (byte 0x80) (Modrm (Digit 4) Register8OrMemory) (Imm 1) ∷  -- andb_mi
    plain no_legacy any (byte 0x20) (Modrm Register8 Memory) NoImm ∷  -- andb_mr
    plain no_legacy any (byte 0x22) (Modrm Register8 Memory) NoImm ∷  -- andb_rm
    plain only_66 W0 (byte 0x25) NoTail (Imm 2) ∷  -- andw_i
    plain only_66 W0 (byte 0x81) (Modrm (Digit 4) RegisterOrMemory) (Imm 2) ∷  -- andw_mi
    plain only_66 W0 (byte 0x21) (Modrm Register RegisterOrMemory) NoImm ∷  -- andw_mr
    plain only_66 W0 (byte 0x23) (Modrm Register RegisterOrMemory) NoImm ∷  -- andw_rm
    plain no_legacy W0 (byte 0x25) NoTail (Imm 4) ∷  -- andl_i
    plain no_legacy W0 (byte 0x81) (Modrm (Digit 4) RegisterOrMemory) (Imm 4) ∷  -- andl_mi
    plain no_legacy W0 (byte 0x83) (Modrm (Digit 4) RegisterOrMemory) (Simm 1) ∷  -- andl_mi_sxb
    plain no_legacy W0 (byte 0x21) (Modrm Register RegisterOrMemory) NoImm ∷  -- andl_mr
    plain no_legacy W0 (byte 0x23) (Modrm Register RegisterOrMemory) NoImm ∷  -- andl_rm
    plain no_legacy W1 (byte 0x81) (Modrm (Digit 4) RegisterOrMemory) (Simm 4) ∷  -- andq_mi_sxl
    plain no_legacy W1 (byte 0x83) (Modrm (Digit 4) RegisterOrMemory) (Simm 1) ∷  -- andq_mi_sxb
    plain no_legacy W1 (byte 0x21) (Modrm Register RegisterOrMemory) NoImm ∷  -- andq_mr
    plain no_legacy W1 (byte 0x23) (Modrm Register RegisterOrMemory) NoImm ∷  -- andq_rm
    plain no_legacy any (byte 0x2C) NoTail (Imm 1) ∷  -- subb_i
    plain no_legacy any (byte 0x80) (Modrm (Digit 5) Register8OrMemory) (Imm 1) ∷  -- subb_mi
    plain no_legacy any (byte 0x28) (Modrm Register8 Memory) NoImm ∷  -- subb_mr
    plain no_legacy any (byte 0x2A) (Modrm Register8 Memory) NoImm ∷  -- subb_rm
    plain only_66 W0 (byte 0x2D) NoTail (Imm 2) ∷  -- subw_i
    plain only_66 W0 (byte 0x81) (Modrm (Digit 5) RegisterOrMemory) (Imm 2) ∷  -- subw_mi
    plain only_66 W0 (byte 0x29) (Modrm Register RegisterOrMemory) NoImm ∷  -- subw_mr
    plain only_66 W0 (byte 0x2B) (Modrm Register RegisterOrMemory) NoImm ∷  -- subw_rm
    plain no_legacy W0 (byte 0x2D) NoTail (Imm 4) ∷  -- subl_i
    plain no_legacy W0 (byte 0x81) (Modrm (Digit 5) RegisterOrMemory) (Imm 4) ∷  -- subl_mi
    plain no_legacy W0 (byte 0x83) (Modrm (Digit 5) RegisterOrMemory) (Simm 1) ∷  -- subl_mi_sxb
    plain no_legacy W0 (byte 0x29) (Modrm Register RegisterOrMemory) NoImm ∷  -- subl_mr
    plain no_legacy W0 (byte 0x2B) (Modrm Register RegisterOrMemory) NoImm ∷  -- subl_rm
    plain no_legacy W1 (byte 0x81) (Modrm (Digit 5) RegisterOrMemory) (Simm 4) ∷  -- subq_mi_sxl
    plain no_legacy W1 (byte 0x83) (Modrm (Digit 5) RegisterOrMemory) (Simm 1) ∷  -- subq_mi_sxb
    plain no_legacy W1 (byte 0x29) (Modrm Register RegisterOrMemory) NoImm ∷  -- subq_mr
    plain no_legacy W1 (byte 0x2B) (Modrm Register RegisterOrMemory) NoImm ∷  -- subq_rm
    plain no_legacy any (byte 0x34) NoTail (Imm 1) ∷  -- xorb_i
    plain no_legacy any (byte 0x80) (Modrm (Digit 6) Register8OrMemory) (Imm 1) ∷  -- xorb_mi
    plain no_legacy any (byte 0x30) (Modrm Register8 Memory) NoImm ∷  -- xorb_mr
    plain no_legacy any (byte 0x32) (Modrm Register8 Memory) NoImm ∷  -- xorb_rm
    plain only_66 W0 (byte 0x35) NoTail (Imm 2) ∷  -- xorw_i
    plain only_66 W0 (byte 0x81) (Modrm (Digit 6) RegisterOrMemory) (Imm 2) ∷  -- xorw_mi
    plain only_66 W0 (byte 0x31) (Modrm Register RegisterOrMemory) NoImm ∷  -- xorw_mr
    plain only_66 W0 (byte 0x33) (Modrm Register RegisterOrMemory) NoImm ∷  -- xorw_rm
    plain no_legacy W0 (byte 0x35) NoTail (Imm 4) ∷  -- xorl_i
    plain no_legacy W0 (byte 0x81) (Modrm (Digit 6) RegisterOrMemory) (Imm 4) ∷  -- xorl_mi
    plain no_legacy W0 (byte 0x83) (Modrm (Digit 6) RegisterOrMemory) (Simm 1) ∷  -- xorl_mi_sxb
    plain no_legacy W0 (byte 0x31) (Modrm Register RegisterOrMemory) NoImm ∷  -- xorl_mr
    plain no_legacy W0 (byte 0x33) (Modrm Register RegisterOrMemory) NoImm ∷  -- xorl_rm
    plain no_legacy W1 (byte 0x81) (Modrm (Digit 6) RegisterOrMemory) (Simm 4) ∷  -- xorq_mi_sxl
    plain no_legacy W1 (byte 0x83) (Modrm (Digit 6) RegisterOrMemory) (Simm 1) ∷  -- xorq_mi_sxb
    plain no_legacy W1 (byte 0x31) (Modrm Register RegisterOrMemory) NoImm ∷  -- xorq_mr
    plain no_legacy W1 (byte 0x33) (Modrm Register RegisterOrMemory) NoImm ∷  -- xorq_rm
    plain no_legacy any (byte 0x3C) NoTail (Imm 1) ∷  -- cmpb_i
    plain no_legacy any (byte 0x80) (Modrm (Digit 7) Register8OrMemory) (Imm 1) ∷  -- cmpb_mi
    plain no_legacy any (byte 0x38) (Modrm Register8 Memory) NoImm ∷  -- cmpb_mr
    plain no_legacy any (byte 0x3A) (Modrm Register8 Memory) NoImm ∷  -- cmpb_rm
    plain only_66 W0 (byte 0x3D) NoTail (Imm 2) ∷  -- cmpw_i
    plain only_66 W0 (byte 0x81) (Modrm (Digit 7) RegisterOrMemory) (Imm 2) ∷  -- cmpw_mi
    plain only_66 W0 (byte 0x39) (Modrm Register RegisterOrMemory) NoImm ∷  -- cmpw_mr
    plain only_66 W0 (byte 0x3B) (Modrm Register RegisterOrMemory) NoImm ∷  -- cmpw_rm
    plain no_legacy W0 (byte 0x3D) NoTail (Imm 4) ∷  -- cmpl_i
    plain no_legacy W0 (byte 0x81) (Modrm (Digit 7) RegisterOrMemory) (Imm 4) ∷  -- cmpl_mi
    plain no_legacy W0 (byte 0x83) (Modrm (Digit 7) RegisterOrMemory) (Simm 1) ∷  -- cmpl_mi_sxb
    plain no_legacy W0 (byte 0x39) (Modrm Register RegisterOrMemory) NoImm ∷  -- cmpl_mr
    plain no_legacy W0 (byte 0x3B) (Modrm Register RegisterOrMemory) NoImm ∷  -- cmpl_rm
    plain no_legacy W1 (byte 0x81) (Modrm (Digit 7) RegisterOrMemory) (Simm 4) ∷  -- cmpq_mi_sxl
    plain no_legacy W1 (byte 0x83) (Modrm (Digit 7) RegisterOrMemory) (Simm 1) ∷  -- cmpq_mi_sxb
    plain no_legacy W1 (byte 0x39) (Modrm Register RegisterOrMemory) NoImm ∷  -- cmpq_mr
    plain no_legacy W1 (byte 0x3B) (Modrm Register RegisterOrMemory) NoImm ∷  -- cmpq_rm
    plain no_legacy any (byte 0xA8) NoTail (Imm 1) ∷  -- testb_i
    plain no_legacy any (byte 0xF6) (Modrm (Digit 0) Register8OrMemory) (Imm 1) ∷  -- testb_mi
    plain no_legacy any (byte 0x84) (Modrm Register8 Memory) NoImm ∷  -- testb_mr
    plain only_66 W0 (byte 0xA9) NoTail (Imm 2) ∷  -- testw_i
    plain only_66 W0 (byte 0xF7) (Modrm (Digit 0) RegisterOrMemory) (Imm 2) ∷  -- testw_mi
    plain only_66 W0 (byte 0x85) (Modrm Register RegisterOrMemory) NoImm ∷  -- testw_mr
    plain no_legacy W0 (byte 0xA9) NoTail (Imm 4) ∷  -- testl_i
    plain no_legacy W0 (byte 0xF7) (Modrm (Digit 0) RegisterOrMemory) (Imm 4) ∷  -- testl_mi
    plain no_legacy W0 (byte 0x85) (Modrm Register RegisterOrMemory) NoImm ∷  -- testl_mr
    plain no_legacy W1 (byte 0xF7) (Modrm (Digit 0) RegisterOrMemory) (Simm 4) ∷  -- testq_mi_sxl
    plain no_legacy W1 (byte 0x85) (Modrm Register RegisterOrMemory) NoImm ∷  -- testq_mr
    []

unfoldable pub moves_lines : List Line
moves_lines =
    plain no_legacy any (byte 0x88) (Modrm Register8 Memory) NoImm ∷  -- movb_mr
    plain no_legacy any (byte 0x8A) (Modrm Register8 Memory) NoImm ∷  -- movb_rm
    plain no_legacy any (byte 0xC6) (Modrm (Digit 0) Register8OrMemory) (Imm 1) ∷  -- movb_mi
    plain only_66 W0 (byte 0x89) (Modrm Register RegisterOrMemory) NoImm ∷  -- movw_mr
    plain only_66 W0 (byte 0x8B) (Modrm Register RegisterOrMemory) NoImm ∷  -- movw_rm
    plain only_66 W0 (byte 0xC7) (Modrm (Digit 0) RegisterOrMemory) (Imm 2) ∷  -- movw_mi
    plain no_legacy W0 (byte 0x89) (Modrm Register RegisterOrMemory) NoImm ∷  -- movl_mr
    plain no_legacy W0 (byte 0x8B) (Modrm Register RegisterOrMemory) NoImm ∷  -- movl_rm
    plain no_legacy W0 (byte 0xC7) (Modrm (Digit 0) RegisterOrMemory) (Imm 4) ∷  -- movl_mi
    plain no_legacy W1 (byte 0x89) (Modrm Register RegisterOrMemory) NoImm ∷  -- movq_mr
    plain no_legacy W1 (byte 0x8B) (Modrm Register RegisterOrMemory) NoImm ∷  -- movq_rm
    plain no_legacy W1 (byte 0xC7) (Modrm (Digit 0) RegisterOrMemory) (Simm 4) ∷  -- movq_mi_sxl
    plain only_66 W0 (escaped 0xBE) (Modrm Register Memory) NoImm ∷  -- movsbw_rm
    plain no_legacy W0 (escaped 0xBE) (Modrm Register Memory) NoImm ∷  -- movsbl_rm
    plain no_legacy W1 (escaped 0xBE) (Modrm Register Memory) NoImm ∷  -- movsbq_rm
    plain no_legacy W0 (escaped 0xBF) (Modrm Register RegisterOrMemory) NoImm ∷  -- movswl_rm
    plain no_legacy W1 (escaped 0xBF) (Modrm Register RegisterOrMemory) NoImm ∷  -- movswq_rm
    plain no_legacy W1 (byte 0x63) (Modrm Register RegisterOrMemory) NoImm ∷  -- movslq_rm
    plain only_66 W0 (escaped 0xB6) (Modrm Register Memory) NoImm ∷  -- movzbw_rm
    plain no_legacy W0 (escaped 0xB6) (Modrm Register Memory) NoImm ∷  -- movzbl_rm
    plain no_legacy W1 (escaped 0xB6) (Modrm Register Memory) NoImm ∷  -- movzbq_rm
    plain no_legacy W0 (escaped 0xB7) (Modrm Register RegisterOrMemory) NoImm ∷  -- movzwl_rm
    plain no_legacy W1 (escaped 0xB7) (Modrm Register RegisterOrMemory) NoImm ∷  -- movzwq_rm
    plain only_66 W0 (byte 0x8D) (Modrm Register Memory) NoImm ∷  -- leaw_rm
    plain no_legacy W0 (byte 0x8D) (Modrm Register Memory) NoImm ∷  -- leal_rm
    plain no_legacy W1 (byte 0x8D) (Modrm Register Memory) NoImm ∷  -- leaq_rm
    []

unfoldable pub multiplication_lines : List Line
multiplication_lines =
    plain no_legacy any (byte 0xF6) (Modrm (Digit 4) Register8OrMemory) NoImm ∷  -- mulb_m
    plain only_66 W0 (byte 0xF7) (Modrm (Digit 4) RegisterOrMemory) NoImm ∷  -- mulw_m
    plain no_legacy W0 (byte 0xF7) (Modrm (Digit 4) RegisterOrMemory) NoImm ∷  -- mull_m
    plain no_legacy W1 (byte 0xF7) (Modrm (Digit 4) RegisterOrMemory) NoImm ∷  -- mulq_m
    plain no_legacy any (byte 0xF6) (Modrm (Digit 5) Register8OrMemory) NoImm ∷  -- imulb_m
    plain only_66 W0 (byte 0xF7) (Modrm (Digit 5) RegisterOrMemory) NoImm ∷  -- imulw_m
    plain no_legacy W0 (byte 0xF7) (Modrm (Digit 5) RegisterOrMemory) NoImm ∷  -- imull_m
    plain no_legacy W1 (byte 0xF7) (Modrm (Digit 5) RegisterOrMemory) NoImm ∷  -- imulq_m
    plain only_66 W0 (escaped 0xAF) (Modrm Register RegisterOrMemory) NoImm ∷  -- imulw_rm
    plain only_66 W0 (byte 0x6B) (Modrm Register RegisterOrMemory) (Simm 1) ∷  -- imulw_rmi_sxb
    plain only_66 W0 (byte 0x69) (Modrm Register RegisterOrMemory) (Imm 2) ∷  -- imulw_rmi
    plain no_legacy W0 (escaped 0xAF) (Modrm Register RegisterOrMemory) NoImm ∷  -- imull_rm
    plain no_legacy W0 (byte 0x6B) (Modrm Register RegisterOrMemory) (Simm 1) ∷  -- imull_rmi_sxb
    plain no_legacy W0 (byte 0x69) (Modrm Register RegisterOrMemory) (Imm 4) ∷  -- imull_rmi
    plain no_legacy W1 (escaped 0xAF) (Modrm Register RegisterOrMemory) NoImm ∷  -- imulq_rm
    plain no_legacy W1 (byte 0x6B) (Modrm Register RegisterOrMemory) (Simm 1) ∷  -- imulq_rmi_sxb
    plain no_legacy W1 (byte 0x69) (Modrm Register RegisterOrMemory) (Simm 4) ∷  -- imulq_rmi_sxl
    plain no_legacy any (byte 0xF6) (Modrm (Digit 6) Register8OrMemory) NoImm ∷  -- divb_m
    plain only_66 W0 (byte 0xF7) (Modrm (Digit 6) RegisterOrMemory) NoImm ∷  -- divw_m
    plain no_legacy W0 (byte 0xF7) (Modrm (Digit 6) RegisterOrMemory) NoImm ∷  -- divl_m
    plain no_legacy W1 (byte 0xF7) (Modrm (Digit 6) RegisterOrMemory) NoImm ∷  -- divq_m
    plain no_legacy any (byte 0xF6) (Modrm (Digit 7) Register8OrMemory) NoImm ∷  -- idivb_m
    plain only_66 W0 (byte 0xF7) (Modrm (Digit 7) RegisterOrMemory) NoImm ∷  -- idivw_m
    plain no_legacy W0 (byte 0xF7) (Modrm (Digit 7) RegisterOrMemory) NoImm ∷  -- idivl_m
    plain no_legacy W1 (byte 0xF7) (Modrm (Digit 7) RegisterOrMemory) NoImm ∷  -- idivq_m
    plain no_legacy any (byte 0xF6) (Modrm (Digit 2) Register8OrMemory) NoImm ∷  -- notb_m
    plain only_66 W0 (byte 0xF7) (Modrm (Digit 2) RegisterOrMemory) NoImm ∷  -- notw_m
    plain no_legacy W0 (byte 0xF7) (Modrm (Digit 2) RegisterOrMemory) NoImm ∷  -- notl_m
    plain no_legacy W1 (byte 0xF7) (Modrm (Digit 2) RegisterOrMemory) NoImm ∷  -- notq_m
    plain no_legacy any (byte 0xF6) (Modrm (Digit 3) Register8OrMemory) NoImm ∷  -- negb_m
    plain only_66 W0 (byte 0xF7) (Modrm (Digit 3) RegisterOrMemory) NoImm ∷  -- negw_m
    plain no_legacy W0 (byte 0xF7) (Modrm (Digit 3) RegisterOrMemory) NoImm ∷  -- negl_m
    plain no_legacy W1 (byte 0xF7) (Modrm (Digit 3) RegisterOrMemory) NoImm ∷  -- negq_m
    plain only_66 W0 (byte 0x98) NoTail NoImm ∷  -- cbtw_zo
    plain no_legacy W0 (byte 0x98) NoTail NoImm ∷  -- cwtl_zo
    plain only_66 W0 (byte 0x99) NoTail NoImm ∷  -- cwtd_zo
    plain no_legacy W0 (byte 0x99) NoTail NoImm ∷  -- cltd_zo
    []

unfoldable pub shifts_lines : List Line
shifts_lines =
    plain no_legacy any (byte 0xD2) (Modrm (Digit 0) Register8OrMemory) NoImm ∷  -- rolb_mc
    plain no_legacy any (byte 0xC0) (Modrm (Digit 0) Register8OrMemory) (Imm 1) ∷  -- rolb_mi
    plain only_66 W0 (byte 0xD3) (Modrm (Digit 0) RegisterOrMemory) NoImm ∷  -- rolw_mc
    plain only_66 W0 (byte 0xC1) (Modrm (Digit 0) RegisterOrMemory) (Imm 1) ∷  -- rolw_mi
    plain no_legacy W0 (byte 0xD3) (Modrm (Digit 0) RegisterOrMemory) NoImm ∷  -- roll_mc
    plain no_legacy W0 (byte 0xC1) (Modrm (Digit 0) RegisterOrMemory) (Imm 1) ∷  -- roll_mi
    plain no_legacy W1 (byte 0xD3) (Modrm (Digit 0) RegisterOrMemory) NoImm ∷  -- rolq_mc
    plain no_legacy W1 (byte 0xC1) (Modrm (Digit 0) RegisterOrMemory) (Imm 1) ∷  -- rolq_mi
    plain no_legacy any (byte 0xD2) (Modrm (Digit 1) Register8OrMemory) NoImm ∷  -- rorb_mc
    plain no_legacy any (byte 0xC0) (Modrm (Digit 1) Register8OrMemory) (Imm 1) ∷  -- rorb_mi
    plain only_66 W0 (byte 0xD3) (Modrm (Digit 1) RegisterOrMemory) NoImm ∷  -- rorw_mc
    plain only_66 W0 (byte 0xC1) (Modrm (Digit 1) RegisterOrMemory) (Imm 1) ∷  -- rorw_mi
    plain no_legacy W0 (byte 0xD3) (Modrm (Digit 1) RegisterOrMemory) NoImm ∷  -- rorl_mc
    plain no_legacy W0 (byte 0xC1) (Modrm (Digit 1) RegisterOrMemory) (Imm 1) ∷  -- rorl_mi
    plain no_legacy W1 (byte 0xD3) (Modrm (Digit 1) RegisterOrMemory) NoImm ∷  -- rorq_mc
    plain no_legacy W1 (byte 0xC1) (Modrm (Digit 1) RegisterOrMemory) (Imm 1) ∷  -- rorq_mi
    plain no_legacy any (byte 0xD2) (Modrm (Digit 4) Register8OrMemory) NoImm ∷  -- shlb_mc
    plain no_legacy any (byte 0xC0) (Modrm (Digit 4) Register8OrMemory) (Imm 1) ∷  -- shlb_mi
    plain only_66 W0 (byte 0xD3) (Modrm (Digit 4) RegisterOrMemory) NoImm ∷  -- shlw_mc
    plain only_66 W0 (byte 0xC1) (Modrm (Digit 4) RegisterOrMemory) (Imm 1) ∷  -- shlw_mi
    plain no_legacy W0 (byte 0xD3) (Modrm (Digit 4) RegisterOrMemory) NoImm ∷  -- shll_mc
    plain no_legacy W0 (byte 0xC1) (Modrm (Digit 4) RegisterOrMemory) (Imm 1) ∷  -- shll_mi
    plain no_legacy W1 (byte 0xD3) (Modrm (Digit 4) RegisterOrMemory) NoImm ∷  -- shlq_mc
    plain no_legacy W1 (byte 0xC1) (Modrm (Digit 4) RegisterOrMemory) (Imm 1) ∷  -- shlq_mi
    plain no_legacy any (byte 0xD2) (Modrm (Digit 5) Register8OrMemory) NoImm ∷  -- shrb_mc
    plain no_legacy any (byte 0xC0) (Modrm (Digit 5) Register8OrMemory) (Imm 1) ∷  -- shrb_mi
    plain only_66 W0 (byte 0xD3) (Modrm (Digit 5) RegisterOrMemory) NoImm ∷  -- shrw_mc
    plain only_66 W0 (byte 0xC1) (Modrm (Digit 5) RegisterOrMemory) (Imm 1) ∷  -- shrw_mi
    plain no_legacy W0 (byte 0xD3) (Modrm (Digit 5) RegisterOrMemory) NoImm ∷  -- shrl_mc
    plain no_legacy W0 (byte 0xC1) (Modrm (Digit 5) RegisterOrMemory) (Imm 1) ∷  -- shrl_mi
    plain no_legacy W1 (byte 0xD3) (Modrm (Digit 5) RegisterOrMemory) NoImm ∷  -- shrq_mc
    plain no_legacy W1 (byte 0xC1) (Modrm (Digit 5) RegisterOrMemory) (Imm 1) ∷  -- shrq_mi
    plain no_legacy any (byte 0xD2) (Modrm (Digit 7) Register8OrMemory) NoImm ∷  -- sarb_mc
    plain no_legacy any (byte 0xC0) (Modrm (Digit 7) Register8OrMemory) (Imm 1) ∷  -- sarb_mi
    plain only_66 W0 (byte 0xD3) (Modrm (Digit 7) RegisterOrMemory) NoImm ∷  -- sarw_mc
    plain only_66 W0 (byte 0xC1) (Modrm (Digit 7) RegisterOrMemory) (Imm 1) ∷  -- sarw_mi
    plain no_legacy W0 (byte 0xD3) (Modrm (Digit 7) RegisterOrMemory) NoImm ∷  -- sarl_mc
    plain no_legacy W0 (byte 0xC1) (Modrm (Digit 7) RegisterOrMemory) (Imm 1) ∷  -- sarl_mi
    plain no_legacy W1 (byte 0xD3) (Modrm (Digit 7) RegisterOrMemory) NoImm ∷  -- sarq_mc
    plain no_legacy W1 (byte 0xC1) (Modrm (Digit 7) RegisterOrMemory) (Imm 1) ∷  -- sarq_mi
    plain only_66 W0 (escaped 0xA4) (Modrm Register RegisterOrMemory) (Imm 1) ∷  -- shldw_mri
    plain only_66 W0 (escaped 0xA5) (Modrm Register RegisterOrMemory) NoImm ∷  -- shldw_mrc
    plain no_legacy W0 (escaped 0xA4) (Modrm Register RegisterOrMemory) (Imm 1) ∷  -- shldl_mri
    plain no_legacy W0 (escaped 0xA5) (Modrm Register RegisterOrMemory) NoImm ∷  -- shldl_mrc
    plain no_legacy W1 (escaped 0xA4) (Modrm Register RegisterOrMemory) (Imm 1) ∷  -- shldq_mri
    plain no_legacy W1 (escaped 0xA5) (Modrm Register RegisterOrMemory) NoImm ∷  -- shldq_mrc
    []

unfoldable pub conditions_lines : List Line
conditions_lines =
    plain no_legacy any (escaped 0x90) (Modrm (Digit 0) Register8OrMemory) NoImm ∷  -- seto_m
    plain no_legacy any (escaped 0x91) (Modrm (Digit 0) Register8OrMemory) NoImm ∷  -- setno_m
    plain no_legacy any (escaped 0x92) (Modrm (Digit 0) Register8OrMemory) NoImm ∷  -- setb_m
    plain no_legacy any (escaped 0x93) (Modrm (Digit 0) Register8OrMemory) NoImm ∷  -- setae_m
    plain no_legacy any (escaped 0x94) (Modrm (Digit 0) Register8OrMemory) NoImm ∷  -- sete_m
    plain no_legacy any (escaped 0x95) (Modrm (Digit 0) Register8OrMemory) NoImm ∷  -- setne_m
    plain no_legacy any (escaped 0x96) (Modrm (Digit 0) Register8OrMemory) NoImm ∷  -- setbe_m
    plain no_legacy any (escaped 0x97) (Modrm (Digit 0) Register8OrMemory) NoImm ∷  -- seta_m
    plain no_legacy any (escaped 0x98) (Modrm (Digit 0) Register8OrMemory) NoImm ∷  -- sets_m
    plain no_legacy any (escaped 0x99) (Modrm (Digit 0) Register8OrMemory) NoImm ∷  -- setns_m
    plain no_legacy any (escaped 0x9A) (Modrm (Digit 0) Register8OrMemory) NoImm ∷  -- setp_m
    plain no_legacy any (escaped 0x9B) (Modrm (Digit 0) Register8OrMemory) NoImm ∷  -- setnp_m
    plain no_legacy any (escaped 0x9C) (Modrm (Digit 0) Register8OrMemory) NoImm ∷  -- setl_m
    plain no_legacy any (escaped 0x9D) (Modrm (Digit 0) Register8OrMemory) NoImm ∷  -- setge_m
    plain no_legacy any (escaped 0x9E) (Modrm (Digit 0) Register8OrMemory) NoImm ∷  -- setle_m
    plain no_legacy any (escaped 0x9F) (Modrm (Digit 0) Register8OrMemory) NoImm ∷  -- setg_m
    plain only_66 W0 (escaped 0x40) (Modrm Register RegisterOrMemory) NoImm ∷  -- cmovow_rm
    plain no_legacy W0 (escaped 0x40) (Modrm Register RegisterOrMemory) NoImm ∷  -- cmovol_rm
    plain no_legacy W1 (escaped 0x40) (Modrm Register RegisterOrMemory) NoImm ∷  -- cmovoq_rm
    plain only_66 W0 (escaped 0x41) (Modrm Register RegisterOrMemory) NoImm ∷  -- cmovnow_rm
    plain no_legacy W0 (escaped 0x41) (Modrm Register RegisterOrMemory) NoImm ∷  -- cmovnol_rm
    plain no_legacy W1 (escaped 0x41) (Modrm Register RegisterOrMemory) NoImm ∷  -- cmovnoq_rm
    plain only_66 W0 (escaped 0x42) (Modrm Register RegisterOrMemory) NoImm ∷  -- cmovbw_rm
    plain no_legacy W0 (escaped 0x42) (Modrm Register RegisterOrMemory) NoImm ∷  -- cmovbl_rm
    plain no_legacy W1 (escaped 0x42) (Modrm Register RegisterOrMemory) NoImm ∷  -- cmovbq_rm
    plain only_66 W0 (escaped 0x43) (Modrm Register RegisterOrMemory) NoImm ∷  -- cmovaew_rm
    plain no_legacy W0 (escaped 0x43) (Modrm Register RegisterOrMemory) NoImm ∷  -- cmovael_rm
    plain no_legacy W1 (escaped 0x43) (Modrm Register RegisterOrMemory) NoImm ∷  -- cmovaeq_rm
    plain only_66 W0 (escaped 0x44) (Modrm Register RegisterOrMemory) NoImm ∷  -- cmovew_rm
    plain no_legacy W0 (escaped 0x44) (Modrm Register RegisterOrMemory) NoImm ∷  -- cmovel_rm
    plain no_legacy W1 (escaped 0x44) (Modrm Register RegisterOrMemory) NoImm ∷  -- cmoveq_rm
    plain only_66 W0 (escaped 0x45) (Modrm Register RegisterOrMemory) NoImm ∷  -- cmovnew_rm
    plain no_legacy W0 (escaped 0x45) (Modrm Register RegisterOrMemory) NoImm ∷  -- cmovnel_rm
    plain no_legacy W1 (escaped 0x45) (Modrm Register RegisterOrMemory) NoImm ∷  -- cmovneq_rm
    plain only_66 W0 (escaped 0x46) (Modrm Register RegisterOrMemory) NoImm ∷  -- cmovbew_rm
    plain no_legacy W0 (escaped 0x46) (Modrm Register RegisterOrMemory) NoImm ∷  -- cmovbel_rm
    plain no_legacy W1 (escaped 0x46) (Modrm Register RegisterOrMemory) NoImm ∷  -- cmovbeq_rm
    plain only_66 W0 (escaped 0x47) (Modrm Register RegisterOrMemory) NoImm ∷  -- cmovaw_rm
    plain no_legacy W0 (escaped 0x47) (Modrm Register RegisterOrMemory) NoImm ∷  -- cmoval_rm
    plain no_legacy W1 (escaped 0x47) (Modrm Register RegisterOrMemory) NoImm ∷  -- cmovaq_rm
    plain only_66 W0 (escaped 0x48) (Modrm Register RegisterOrMemory) NoImm ∷  -- cmovsw_rm
    plain no_legacy W0 (escaped 0x48) (Modrm Register RegisterOrMemory) NoImm ∷  -- cmovsl_rm
    plain no_legacy W1 (escaped 0x48) (Modrm Register RegisterOrMemory) NoImm ∷  -- cmovsq_rm
    plain only_66 W0 (escaped 0x49) (Modrm Register RegisterOrMemory) NoImm ∷  -- cmovnsw_rm
    plain no_legacy W0 (escaped 0x49) (Modrm Register RegisterOrMemory) NoImm ∷  -- cmovnsl_rm
    plain no_legacy W1 (escaped 0x49) (Modrm Register RegisterOrMemory) NoImm ∷  -- cmovnsq_rm
    plain only_66 W0 (escaped 0x4A) (Modrm Register RegisterOrMemory) NoImm ∷  -- cmovpw_rm
    plain no_legacy W0 (escaped 0x4A) (Modrm Register RegisterOrMemory) NoImm ∷  -- cmovpl_rm
    plain no_legacy W1 (escaped 0x4A) (Modrm Register RegisterOrMemory) NoImm ∷  -- cmovpq_rm
    plain only_66 W0 (escaped 0x4B) (Modrm Register RegisterOrMemory) NoImm ∷  -- cmovnpw_rm
    plain no_legacy W0 (escaped 0x4B) (Modrm Register RegisterOrMemory) NoImm ∷  -- cmovnpl_rm
    plain no_legacy W1 (escaped 0x4B) (Modrm Register RegisterOrMemory) NoImm ∷  -- cmovnpq_rm
    plain only_66 W0 (escaped 0x4C) (Modrm Register RegisterOrMemory) NoImm ∷  -- cmovlw_rm
    plain no_legacy W0 (escaped 0x4C) (Modrm Register RegisterOrMemory) NoImm ∷  -- cmovll_rm
    plain no_legacy W1 (escaped 0x4C) (Modrm Register RegisterOrMemory) NoImm ∷  -- cmovlq_rm
    plain only_66 W0 (escaped 0x4D) (Modrm Register RegisterOrMemory) NoImm ∷  -- cmovgew_rm
    plain no_legacy W0 (escaped 0x4D) (Modrm Register RegisterOrMemory) NoImm ∷  -- cmovgel_rm
    plain no_legacy W1 (escaped 0x4D) (Modrm Register RegisterOrMemory) NoImm ∷  -- cmovgeq_rm
    plain only_66 W0 (escaped 0x4E) (Modrm Register RegisterOrMemory) NoImm ∷  -- cmovlew_rm
    plain no_legacy W0 (escaped 0x4E) (Modrm Register RegisterOrMemory) NoImm ∷  -- cmovlel_rm
    plain no_legacy W1 (escaped 0x4E) (Modrm Register RegisterOrMemory) NoImm ∷  -- cmovleq_rm
    plain only_66 W0 (escaped 0x4F) (Modrm Register RegisterOrMemory) NoImm ∷  -- cmovgw_rm
    plain no_legacy W0 (escaped 0x4F) (Modrm Register RegisterOrMemory) NoImm ∷  -- cmovgl_rm
    plain no_legacy W1 (escaped 0x4F) (Modrm Register RegisterOrMemory) NoImm ∷  -- cmovgq_rm
    []

unfoldable pub control_lines : List Line
control_lines =
    plain only_66 W0 (byte 0xFF) (Modrm (Digit 6) RegisterOrMemory) NoImm ∷  -- pushw_m
    plain no_legacy any (byte 0xFF) (Modrm (Digit 6) RegisterOrMemory) NoImm ∷  -- pushq_m
    plain no_legacy any (byte 0x6A) NoTail (Simm 1) ∷  -- pushq_i8
    plain only_66 W0 (byte 0x68) NoTail (Imm 2) ∷  -- pushw_i16
    plain no_legacy any (byte 0x68) NoTail (Simm 4) ∷  -- pushq_i32
    plain only_66 W0 (byte 0x8F) (Modrm (Digit 0) RegisterOrMemory) NoImm ∷  -- popw_m
    plain no_legacy any (byte 0x8F) (Modrm (Digit 0) RegisterOrMemory) NoImm ∷  -- popq_m
    plain no_legacy any (byte 0xC3) NoTail NoImm ∷  -- retq_zo
    plain no_legacy any (byte 0xC2) NoTail (Imm 2) ∷  -- retq_i
    plain no_legacy any (byte 0xC9) NoTail NoImm ∷  -- leaveq_zo
    plain no_legacy any (escaped 0x0B) NoTail NoImm ∷  -- ud2_zo
    plain no_legacy any (byte 0xCC) NoTail NoImm ∷  -- int3_zo
    plain no_legacy any (byte 0xF4) NoTail NoImm ∷  -- hlt_zo
    []

unfoldable pub bits_lines : List Line
bits_lines =
    plain only_66 W0 (escaped 0xBC) (Modrm Register RegisterOrMemory) NoImm ∷  -- bsfw_rm
    plain only_66 W0 (escaped 0xBD) (Modrm Register RegisterOrMemory) NoImm ∷  -- bsrw_rm
    plain no_legacy W0 (escaped 0xBC) (Modrm Register RegisterOrMemory) NoImm ∷  -- bsfl_rm
    plain no_legacy W0 (escaped 0xBD) (Modrm Register RegisterOrMemory) NoImm ∷  -- bsrl_rm
    plain no_legacy W1 (escaped 0xBC) (Modrm Register RegisterOrMemory) NoImm ∷  -- bsfq_rm
    plain no_legacy W1 (escaped 0xBD) (Modrm Register RegisterOrMemory) NoImm ∷  -- bsrq_rm
    plain with_66_F3 W0 (escaped 0xBC) (Modrm Register RegisterOrMemory) NoImm ∷  -- tzcntw_rm
    plain with_66_F3 W0 (escaped 0xBD) (Modrm Register RegisterOrMemory) NoImm ∷  -- lzcntw_rm
    plain with_66_F3 W0 (escaped 0xB8) (Modrm Register RegisterOrMemory) NoImm ∷  -- popcntw_rm
    plain only_F3 W0 (escaped 0xBC) (Modrm Register RegisterOrMemory) NoImm ∷  -- tzcntl_rm
    plain only_F3 W0 (escaped 0xBD) (Modrm Register RegisterOrMemory) NoImm ∷  -- lzcntl_rm
    plain only_F3 W0 (escaped 0xB8) (Modrm Register RegisterOrMemory) NoImm ∷  -- popcntl_rm
    plain only_F3 W1 (escaped 0xBC) (Modrm Register RegisterOrMemory) NoImm ∷  -- tzcntq_rm
    plain only_F3 W1 (escaped 0xBD) (Modrm Register RegisterOrMemory) NoImm ∷  -- lzcntq_rm
    plain only_F3 W1 (escaped 0xB8) (Modrm Register RegisterOrMemory) NoImm ∷  -- popcntq_rm
    plain only_66 W0 (escaped 0xA3) (Modrm Register RegisterOrMemory) NoImm ∷  -- btw_mr
    plain only_66 W0 (escaped 0xBA) (Modrm (Digit 4) RegisterOrMemory) (Imm 1) ∷  -- btw_mi
    plain no_legacy W0 (escaped 0xA3) (Modrm Register RegisterOrMemory) NoImm ∷  -- btl_mr
    plain no_legacy W0 (escaped 0xBA) (Modrm (Digit 4) RegisterOrMemory) (Imm 1) ∷  -- btl_mi
    plain no_legacy W1 (escaped 0xA3) (Modrm Register RegisterOrMemory) NoImm ∷  -- btq_mr
    plain no_legacy W1 (escaped 0xBA) (Modrm (Digit 4) RegisterOrMemory) (Imm 1) ∷  -- btq_mi
    plain no_legacy any (escaped 0xC0) (Modrm Register8 Memory) NoImm ∷  -- xaddb_mr
    plain no_legacy any (escaped 0xB0) (Modrm Register8 Memory) NoImm ∷  -- cmpxchgb_mr
    plain only_66 W0 (escaped 0xC1) (Modrm Register Memory) NoImm ∷  -- xaddw_mr
    plain only_66 W0 (escaped 0xB1) (Modrm Register Memory) NoImm ∷  -- cmpxchgw_mr
    plain no_legacy W0 (escaped 0xC1) (Modrm Register Memory) NoImm ∷  -- xaddl_mr
    plain no_legacy W0 (escaped 0xB1) (Modrm Register Memory) NoImm ∷  -- cmpxchgl_mr
    plain no_legacy W1 (escaped 0xC1) (Modrm Register Memory) NoImm ∷  -- xaddq_mr
    plain no_legacy W1 (escaped 0xB1) (Modrm Register Memory) NoImm ∷  -- cmpxchgq_mr
    plain no_legacy W1 (escaped 0xC7) (Modrm (Digit 1) Memory) NoImm ∷  -- cmpxchg16b_m
    []

unfoldable pub scalar_lines : List Line
scalar_lines =
    plain only_F3 any (escaped 0x58) (Modrm Register RegisterOrMemory) NoImm ∷  -- addss_a
    plain only_F2 any (escaped 0x58) (Modrm Register RegisterOrMemory) NoImm ∷  -- addsd_a
    plain only_F3 any (escaped 0x59) (Modrm Register RegisterOrMemory) NoImm ∷  -- mulss_a
    plain only_F2 any (escaped 0x59) (Modrm Register RegisterOrMemory) NoImm ∷  -- mulsd_a
    plain only_F3 any (escaped 0x5C) (Modrm Register RegisterOrMemory) NoImm ∷  -- subss_a
    plain only_F2 any (escaped 0x5C) (Modrm Register RegisterOrMemory) NoImm ∷  -- subsd_a
    plain only_F3 any (escaped 0x5D) (Modrm Register RegisterOrMemory) NoImm ∷  -- minss_a
    plain only_F2 any (escaped 0x5D) (Modrm Register RegisterOrMemory) NoImm ∷  -- minsd_a
    plain only_F3 any (escaped 0x5E) (Modrm Register RegisterOrMemory) NoImm ∷  -- divss_a
    plain only_F2 any (escaped 0x5E) (Modrm Register RegisterOrMemory) NoImm ∷  -- divsd_a
    plain only_F3 any (escaped 0x5F) (Modrm Register RegisterOrMemory) NoImm ∷  -- maxss_a
    plain only_F2 any (escaped 0x5F) (Modrm Register RegisterOrMemory) NoImm ∷  -- maxsd_a
    plain only_F3 any (escaped 0x51) (Modrm Register RegisterOrMemory) NoImm ∷  -- sqrtss_a
    plain only_F2 any (escaped 0x51) (Modrm Register RegisterOrMemory) NoImm ∷  -- sqrtsd_a
    plain no_legacy any (escaped 0x2E) (Modrm Register RegisterOrMemory) NoImm ∷  -- ucomiss_a
    plain only_66 any (escaped 0x2E) (Modrm Register RegisterOrMemory) NoImm ∷  -- ucomisd_a
    plain only_66 any (escaped 0x54) (Modrm Register RegisterOrMemory) NoImm ∷  -- andpd_a
    plain no_legacy any (escaped 0x55) (Modrm Register RegisterOrMemory) NoImm ∷  -- andnps_a
    plain only_66 any (escaped 0x55) (Modrm Register RegisterOrMemory) NoImm ∷  -- andnpd_a
    plain no_legacy any (escaped 0x56) (Modrm Register RegisterOrMemory) NoImm ∷  -- orps_a
    plain only_66 any (escaped 0x56) (Modrm Register RegisterOrMemory) NoImm ∷  -- orpd_a
    plain no_legacy any (escaped 0x57) (Modrm Register RegisterOrMemory) NoImm ∷  -- xorps_a
    plain only_66 any (escaped 0x57) (Modrm Register RegisterOrMemory) NoImm ∷  -- xorpd_a
    plain only_66 any (escaped 0xEF) (Modrm Register RegisterOrMemory) NoImm ∷  -- pxor_a
    plain only_F3 any (escaped 0x10) (Modrm Register Memory) NoImm ∷  -- movss_a_m
    plain only_F3 any (escaped 0x11) (Modrm Register Memory) NoImm ∷  -- movss_c_m
    plain only_F2 any (escaped 0x10) (Modrm Register Memory) NoImm ∷  -- movsd_a_m
    plain only_F2 any (escaped 0x11) (Modrm Register Memory) NoImm ∷  -- movsd_c_m
    plain no_legacy any (escaped 0x28) (Modrm Register RegisterOrMemory) NoImm ∷  -- movaps_a
    plain no_legacy any (escaped 0x29) (Modrm Register RegisterOrMemory) NoImm ∷  -- movaps_b
    plain only_66 any (escaped 0x28) (Modrm Register RegisterOrMemory) NoImm ∷  -- movapd_a
    plain only_66 any (escaped 0x29) (Modrm Register RegisterOrMemory) NoImm ∷  -- movapd_b
    plain no_legacy any (escaped 0x10) (Modrm Register RegisterOrMemory) NoImm ∷  -- movups_a
    plain no_legacy any (escaped 0x11) (Modrm Register RegisterOrMemory) NoImm ∷  -- movups_b
    plain only_66 any (escaped 0x10) (Modrm Register RegisterOrMemory) NoImm ∷  -- movupd_a
    plain only_66 any (escaped 0x11) (Modrm Register RegisterOrMemory) NoImm ∷  -- movupd_b
    plain only_66 any (escaped 0x6F) (Modrm Register RegisterOrMemory) NoImm ∷  -- movdqa_a
    plain only_66 any (escaped 0x7F) (Modrm Register RegisterOrMemory) NoImm ∷  -- movdqa_b
    plain only_F3 any (escaped 0x6F) (Modrm Register RegisterOrMemory) NoImm ∷  -- movdqu_a
    plain only_F3 any (escaped 0x7F) (Modrm Register RegisterOrMemory) NoImm ∷  -- movdqu_b
    plain only_66 W0 (escaped 0x6E) (Modrm Register RegisterOrMemory) NoImm ∷  -- movd_a
    plain only_66 W1 (escaped 0x6E) (Modrm Register RegisterOrMemory) NoImm ∷  -- movq_a
    plain only_66 W0 (escaped 0x7E) (Modrm Register RegisterOrMemory) NoImm ∷  -- movd_b
    plain only_66 W1 (escaped 0x7E) (Modrm Register RegisterOrMemory) NoImm ∷  -- movq_b
    plain only_F3 W0 (escaped 0x2A) (Modrm Register RegisterOrMemory) NoImm ∷  -- cvtsi2ssl_a
    plain only_F3 W0 (escaped 0x2D) (Modrm Register RegisterOrMemory) NoImm ∷  -- cvtss2sil_a
    plain only_F3 W0 (escaped 0x2C) (Modrm Register RegisterOrMemory) NoImm ∷  -- cvttss2sil_a
    plain only_F3 W1 (escaped 0x2A) (Modrm Register RegisterOrMemory) NoImm ∷  -- cvtsi2ssq_a
    plain only_F3 W1 (escaped 0x2D) (Modrm Register RegisterOrMemory) NoImm ∷  -- cvtss2siq_a
    plain only_F3 W1 (escaped 0x2C) (Modrm Register RegisterOrMemory) NoImm ∷  -- cvttss2siq_a
    plain only_F2 W0 (escaped 0x2A) (Modrm Register RegisterOrMemory) NoImm ∷  -- cvtsi2sdl_a
    plain only_F2 W0 (escaped 0x2D) (Modrm Register RegisterOrMemory) NoImm ∷  -- cvtsd2sil_a
    plain only_F2 W0 (escaped 0x2C) (Modrm Register RegisterOrMemory) NoImm ∷  -- cvttsd2sil_a
    plain only_F2 W1 (escaped 0x2A) (Modrm Register RegisterOrMemory) NoImm ∷  -- cvtsi2sdq_a
    plain only_F2 W1 (escaped 0x2D) (Modrm Register RegisterOrMemory) NoImm ∷  -- cvtsd2siq_a
    plain only_F2 W1 (escaped 0x2C) (Modrm Register RegisterOrMemory) NoImm ∷  -- cvttsd2siq_a
    plain only_F3 any (escaped 0x5A) (Modrm Register RegisterOrMemory) NoImm ∷  -- cvtss2sd_a
    plain only_F2 any (escaped 0x5A) (Modrm Register RegisterOrMemory) NoImm ∷  -- cvtsd2ss_a
    plain no_legacy any (escaped 0x5A) (Modrm Register RegisterOrMemory) NoImm ∷  -- cvtps2pd_a
    plain only_66 any (escaped 0x5A) (Modrm Register RegisterOrMemory) NoImm ∷  -- cvtpd2ps_a
    plain no_legacy any (escaped 0x5B) (Modrm Register RegisterOrMemory) NoImm ∷  -- cvtdq2ps_a
    plain only_F3 any (escaped 0x5B) (Modrm Register RegisterOrMemory) NoImm ∷  -- cvttps2dq_a
    plain only_F3 any (escaped 0xE6) (Modrm Register RegisterOrMemory) NoImm ∷  -- cvtdq2pd_a
    plain only_66 any (escaped 0xE6) (Modrm Register RegisterOrMemory) NoImm ∷  -- cvttpd2dq_a
    []

-- all of them
unfoldable pub core_lines : List Line
core_lines = lines_of all_rows ++ (arithmetic_lines ++ (moves_lines ++ (multiplication_lines ++ (shifts_lines ++ (conditions_lines ++ (control_lines ++ (bits_lines ++ (scalar_lines))))))))
