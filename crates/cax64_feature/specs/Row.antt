-- The features that the instructions of a row ask for.
use Rattle.std.specs.Prelude.{ℕ, ◌==◌, Bool, true, false, if◌then◌else◌, Option, Some, None}
use Rattle.cax64_machine_code.specs.Rows.{line_of}
use Rattle.cax64_machine_code.specs.declared.row.Row.{Row}
use Rattle.cax64_machine_code.specs.declared.row.Row.TheVariants as row
use Rattle.cax64_feature.specs.Term.{Term, both, either, has}
use Rattle.cax64_feature.specs.declared.feature.Feature.{Feature}
use Rattle.cax64_feature.specs.declared.feature.Feature.TheVariants.{_64b, compat, sse, sse2, avx, bmi2, cmpxchg16b}

abbrev pub is_one : Option ℕ → Bool
is_one None = false
is_one (Some w) = w == 1

-- A row that stands in 64-bit mode alone: one with W 1, and the near jump and call through a register or memory.
abbrev pub is_64_bit : Row → Bool
is_64_bit row.callq_m = true
is_64_bit row.jmpq_m = true
is_64_bit r = is_one (line_of r).w

-- the mode that a row asks for
abbrev pub mode_of : Row → Term
mode_of r = if is_64_bit r then has _64b else either (has _64b) (has compat)

-- what it asks for besides
abbrev pub second_feature : Row → Option Feature
second_feature row.lock_addb_mi = None
second_feature row.lock_addw_mi = None
second_feature row.lock_addl_mi = None
second_feature row.lock_addq_mi_sxl = None
second_feature row.lock_addl_mi_sxb = None
second_feature row.lock_addq_mi_sxb = None
second_feature row.lock_addb_mr = None
second_feature row.lock_addw_mr = None
second_feature row.lock_addl_mr = None
second_feature row.lock_addq_mr = None
second_feature row.lock_orb_mi = None
second_feature row.lock_orw_mi = None
second_feature row.lock_orl_mi = None
second_feature row.lock_orq_mi_sxl = None
second_feature row.lock_orl_mi_sxb = None
second_feature row.lock_orq_mi_sxb = None
second_feature row.lock_orb_mr = None
second_feature row.lock_orw_mr = None
second_feature row.lock_orl_mr = None
second_feature row.lock_orq_mr = None
second_feature row.lock_adcb_mi = None
second_feature row.lock_adcw_mi = None
second_feature row.lock_adcl_mi = None
second_feature row.lock_adcq_mi_sxl = None
second_feature row.lock_adcl_mi_sxb = None
second_feature row.lock_adcq_mi_sxb = None
second_feature row.lock_adcb_mr = None
second_feature row.lock_adcw_mr = None
second_feature row.lock_adcl_mr = None
second_feature row.lock_adcq_mr = None
second_feature row.lock_sbbb_mi = None
second_feature row.lock_sbbw_mi = None
second_feature row.lock_sbbl_mi = None
second_feature row.lock_sbbq_mi_sxl = None
second_feature row.lock_sbbl_mi_sxb = None
second_feature row.lock_sbbq_mi_sxb = None
second_feature row.lock_sbbb_mr = None
second_feature row.lock_sbbw_mr = None
second_feature row.lock_sbbl_mr = None
second_feature row.lock_sbbq_mr = None
second_feature row.lock_andb_mi = None
second_feature row.lock_andw_mi = None
second_feature row.lock_andl_mi = None
second_feature row.lock_andq_mi_sxl = None
second_feature row.lock_andl_mi_sxb = None
second_feature row.lock_andq_mi_sxb = None
second_feature row.lock_andb_mr = None
second_feature row.lock_andw_mr = None
second_feature row.lock_andl_mr = None
second_feature row.lock_andq_mr = None
second_feature row.lock_subb_mi = None
second_feature row.lock_subw_mi = None
second_feature row.lock_subl_mi = None
second_feature row.lock_subq_mi_sxl = None
second_feature row.lock_subl_mi_sxb = None
second_feature row.lock_subq_mi_sxb = None
second_feature row.lock_subb_mr = None
second_feature row.lock_subw_mr = None
second_feature row.lock_subl_mr = None
second_feature row.lock_subq_mr = None
second_feature row.lock_xorb_mi = None
second_feature row.lock_xorw_mi = None
second_feature row.lock_xorl_mi = None
second_feature row.lock_xorq_mi_sxl = None
second_feature row.lock_xorl_mi_sxb = None
second_feature row.lock_xorq_mi_sxb = None
second_feature row.lock_xorb_mr = None
second_feature row.lock_xorw_mr = None
second_feature row.lock_xorl_mr = None
second_feature row.lock_xorq_mr = None
second_feature row.lock_xaddb_mr = None
second_feature row.lock_xaddw_mr = None
second_feature row.lock_xaddl_mr = None
second_feature row.lock_xaddq_mr = None
second_feature row.lock_cmpxchgb_mr = None
second_feature row.lock_cmpxchgw_mr = None
second_feature row.lock_cmpxchgl_mr = None
second_feature row.lock_cmpxchgq_mr = None
second_feature row.lock_cmpxchg16b_m = Some cmpxchg16b
second_feature row.xchgb_rm = None
second_feature row.xchgw_rm = None
second_feature row.xchgl_rm = None
second_feature row.xchgq_rm = None
second_feature row.rolb_m1 = None
second_feature row.rolw_m1 = None
second_feature row.roll_m1 = None
second_feature row.rolq_m1 = None
second_feature row.rorb_m1 = None
second_feature row.rorw_m1 = None
second_feature row.rorl_m1 = None
second_feature row.rorq_m1 = None
second_feature row.shlb_m1 = None
second_feature row.shlw_m1 = None
second_feature row.shll_m1 = None
second_feature row.shlq_m1 = None
second_feature row.shrb_m1 = None
second_feature row.shrw_m1 = None
second_feature row.shrl_m1 = None
second_feature row.shrq_m1 = None
second_feature row.sarb_m1 = None
second_feature row.sarw_m1 = None
second_feature row.sarl_m1 = None
second_feature row.sarq_m1 = None
second_feature row.callq_m = None
second_feature row.jmpq_m = None
second_feature row.andps_a = Some sse
second_feature row.cmpps_a = Some sse
second_feature row.cmppd_a = Some sse2
second_feature row.cmpss_a = Some sse
second_feature row.cmpsd_a = Some sse2
second_feature row.andb_i = None
second_feature row.callq_d = None
second_feature row.jmp_d8 = None
second_feature row.jmp_d32 = None
second_feature row.jo_d8 = None
second_feature row.jno_d8 = None
second_feature row.jb_d8 = None
second_feature row.jae_d8 = None
second_feature row.je_d8 = None
second_feature row.jne_d8 = None
second_feature row.jbe_d8 = None
second_feature row.ja_d8 = None
second_feature row.js_d8 = None
second_feature row.jns_d8 = None
second_feature row.jp_d8 = None
second_feature row.jnp_d8 = None
second_feature row.jl_d8 = None
second_feature row.jge_d8 = None
second_feature row.jle_d8 = None
second_feature row.jg_d8 = None
second_feature row.jo_d32 = None
second_feature row.jno_d32 = None
second_feature row.jb_d32 = None
second_feature row.jae_d32 = None
second_feature row.je_d32 = None
second_feature row.jne_d32 = None
second_feature row.jbe_d32 = None
second_feature row.ja_d32 = None
second_feature row.js_d32 = None
second_feature row.jns_d32 = None
second_feature row.jp_d32 = None
second_feature row.jnp_d32 = None
second_feature row.jl_d32 = None
second_feature row.jge_d32 = None
second_feature row.jle_d32 = None
second_feature row.jg_d32 = None
second_feature row.vcmpps_b = Some avx
second_feature row.vcmppd_b = Some avx
second_feature row.vcmpss_b = Some avx
second_feature row.vcmpsd_b = Some avx
second_feature row.vcvtpd2ps_a = Some avx
second_feature row.vcvttpd2dq_a = Some avx
second_feature row.mulxl_rvm = Some bmi2
second_feature row.mulxq_rvm = Some bmi2
second_feature row.nop_1b = None
second_feature row.nop_2b = None
second_feature row.nopl_rm = None
second_feature row.nopw_rm = None

abbrev pub with_second : Term → Option Feature → Term
with_second mode None = mode
with_second mode (Some second) = both mode (has second)

-- the features of a row
abbrev pub features_of : Row → Term
features_of r = with_second (mode_of r) (second_feature r)
