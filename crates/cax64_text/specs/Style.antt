-- How the instructions of a row print.
use Rattle.std.specs.Prelude.{ℕ, Bool, true, false, List, codes}
use Rattle.cax64_machine_code.specs.declared.row.Row.{Row}
use Rattle.cax64_machine_code.specs.declared.row.Row.TheVariants as row
use Rattle.cax64_text.specs.declared.style.Elements.{Elements}
use Rattle.cax64_text.specs.declared.style.Elements.TheVariants.{PackedSingle, PackedDouble, ScalarSingle, ScalarDouble}
use Rattle.cax64_text.specs.declared.style.Style.{Style}
use Rattle.cax64_text.specs.declared.style.Style.TheVariants.{Plain, Forward, Exchange, Shift, Call, Jump, Branch, Compare, VexCompare}

abbrev pub style_of : Row → Style
style_of row.lock_addb_mi = Plain
style_of row.lock_addw_mi = Plain
style_of row.lock_addl_mi = Plain
style_of row.lock_addq_mi_sxl = Plain
style_of row.lock_addl_mi_sxb = Plain
style_of row.lock_addq_mi_sxb = Plain
style_of row.lock_addb_mr = Plain
style_of row.lock_addw_mr = Plain
style_of row.lock_addl_mr = Plain
style_of row.lock_addq_mr = Plain
style_of row.lock_orb_mi = Plain
style_of row.lock_orw_mi = Plain
style_of row.lock_orl_mi = Plain
style_of row.lock_orq_mi_sxl = Plain
style_of row.lock_orl_mi_sxb = Plain
style_of row.lock_orq_mi_sxb = Plain
style_of row.lock_orb_mr = Plain
style_of row.lock_orw_mr = Plain
style_of row.lock_orl_mr = Plain
style_of row.lock_orq_mr = Plain
style_of row.lock_adcb_mi = Plain
style_of row.lock_adcw_mi = Plain
style_of row.lock_adcl_mi = Plain
style_of row.lock_adcq_mi_sxl = Plain
style_of row.lock_adcl_mi_sxb = Plain
style_of row.lock_adcq_mi_sxb = Plain
style_of row.lock_adcb_mr = Plain
style_of row.lock_adcw_mr = Plain
style_of row.lock_adcl_mr = Plain
style_of row.lock_adcq_mr = Plain
style_of row.lock_sbbb_mi = Plain
style_of row.lock_sbbw_mi = Plain
style_of row.lock_sbbl_mi = Plain
style_of row.lock_sbbq_mi_sxl = Plain
style_of row.lock_sbbl_mi_sxb = Plain
style_of row.lock_sbbq_mi_sxb = Plain
style_of row.lock_sbbb_mr = Plain
style_of row.lock_sbbw_mr = Plain
style_of row.lock_sbbl_mr = Plain
style_of row.lock_sbbq_mr = Plain
style_of row.lock_andb_mi = Plain
style_of row.lock_andw_mi = Plain
style_of row.lock_andl_mi = Plain
style_of row.lock_andq_mi_sxl = Plain
style_of row.lock_andl_mi_sxb = Plain
style_of row.lock_andq_mi_sxb = Plain
style_of row.lock_andb_mr = Plain
style_of row.lock_andw_mr = Plain
style_of row.lock_andl_mr = Plain
style_of row.lock_andq_mr = Plain
style_of row.lock_subb_mi = Plain
style_of row.lock_subw_mi = Plain
style_of row.lock_subl_mi = Plain
style_of row.lock_subq_mi_sxl = Plain
style_of row.lock_subl_mi_sxb = Plain
style_of row.lock_subq_mi_sxb = Plain
style_of row.lock_subb_mr = Plain
style_of row.lock_subw_mr = Plain
style_of row.lock_subl_mr = Plain
style_of row.lock_subq_mr = Plain
style_of row.lock_xorb_mi = Plain
style_of row.lock_xorw_mi = Plain
style_of row.lock_xorl_mi = Plain
style_of row.lock_xorq_mi_sxl = Plain
style_of row.lock_xorl_mi_sxb = Plain
style_of row.lock_xorq_mi_sxb = Plain
style_of row.lock_xorb_mr = Plain
style_of row.lock_xorw_mr = Plain
style_of row.lock_xorl_mr = Plain
style_of row.lock_xorq_mr = Plain
style_of row.lock_xaddb_mr = Forward
style_of row.lock_xaddw_mr = Forward
style_of row.lock_xaddl_mr = Forward
style_of row.lock_xaddq_mr = Forward
style_of row.lock_cmpxchgb_mr = Plain
style_of row.lock_cmpxchgw_mr = Plain
style_of row.lock_cmpxchgl_mr = Plain
style_of row.lock_cmpxchgq_mr = Plain
style_of row.lock_cmpxchg16b_m = Plain
style_of row.xchgb_rm = Exchange
style_of row.xchgw_rm = Exchange
style_of row.xchgl_rm = Exchange
style_of row.xchgq_rm = Exchange
style_of row.rolb_m1 = Shift
style_of row.rolw_m1 = Shift
style_of row.roll_m1 = Shift
style_of row.rolq_m1 = Shift
style_of row.rorb_m1 = Shift
style_of row.rorw_m1 = Shift
style_of row.rorl_m1 = Shift
style_of row.rorq_m1 = Shift
style_of row.shlb_m1 = Shift
style_of row.shlw_m1 = Shift
style_of row.shll_m1 = Shift
style_of row.shlq_m1 = Shift
style_of row.shrb_m1 = Shift
style_of row.shrw_m1 = Shift
style_of row.shrl_m1 = Shift
style_of row.shrq_m1 = Shift
style_of row.sarb_m1 = Shift
style_of row.sarw_m1 = Shift
style_of row.sarl_m1 = Shift
style_of row.sarq_m1 = Shift
style_of row.callq_m = Call
style_of row.jmpq_m = Jump
style_of row.andps_a = Plain
style_of row.cmpps_a = Compare PackedSingle
style_of row.cmppd_a = Compare PackedDouble
style_of row.cmpss_a = Compare ScalarSingle
style_of row.cmpsd_a = Compare ScalarDouble
style_of row.andb_i = Plain
style_of row.callq_d = Branch
style_of row.jmp_d8 = Branch
style_of row.jmp_d32 = Branch
style_of row.jo_d8 = Plain
style_of row.jno_d8 = Plain
style_of row.jb_d8 = Plain
style_of row.jae_d8 = Plain
style_of row.je_d8 = Plain
style_of row.jne_d8 = Plain
style_of row.jbe_d8 = Plain
style_of row.ja_d8 = Plain
style_of row.js_d8 = Plain
style_of row.jns_d8 = Plain
style_of row.jp_d8 = Plain
style_of row.jnp_d8 = Plain
style_of row.jl_d8 = Plain
style_of row.jge_d8 = Plain
style_of row.jle_d8 = Plain
style_of row.jg_d8 = Plain
style_of row.jo_d32 = Plain
style_of row.jno_d32 = Plain
style_of row.jb_d32 = Plain
style_of row.jae_d32 = Plain
style_of row.je_d32 = Plain
style_of row.jne_d32 = Plain
style_of row.jbe_d32 = Plain
style_of row.ja_d32 = Plain
style_of row.js_d32 = Plain
style_of row.jns_d32 = Plain
style_of row.jp_d32 = Plain
style_of row.jnp_d32 = Plain
style_of row.jl_d32 = Plain
style_of row.jge_d32 = Plain
style_of row.jle_d32 = Plain
style_of row.jg_d32 = Plain
style_of row.vcmpps_b = VexCompare PackedSingle
style_of row.vcmppd_b = VexCompare PackedDouble
style_of row.vcmpss_b = VexCompare ScalarSingle
style_of row.vcmpsd_b = VexCompare ScalarDouble
style_of row.vcvtpd2ps_a = Plain
style_of row.vcvttpd2dq_a = Plain
style_of row.mulxl_rvm = Plain
style_of row.mulxq_rvm = Plain
style_of row.nop_1b = Plain
style_of row.nop_2b = Plain
style_of row.nopl_rm = Plain
style_of row.nopw_rm = Plain

-- Operands print from the last to the first, and here from the first to the last.
abbrev pub is_forward : Style → Bool
is_forward Plain = false
is_forward Forward = true
is_forward Exchange = true
is_forward Shift = false
is_forward Call = false
is_forward Jump = false
is_forward Branch = false
is_forward (Compare elements) = false
is_forward (VexCompare elements) = false

-- whether there is a text as XED prints it, beside the ordinary one
abbrev pub has_xed_text : Style → Bool
has_xed_text Plain = false
has_xed_text Forward = false
has_xed_text Exchange = true
has_xed_text Shift = true
has_xed_text Call = true
has_xed_text Jump = true
has_xed_text Branch = true
has_xed_text (Compare elements) = true
has_xed_text (VexCompare elements) = true

-- what stands after the name of a comparison's predicate
abbrev pub after_predicate : Elements → List ℕ
after_predicate PackedSingle = codes "ps"
after_predicate PackedDouble = codes "pd"
after_predicate ScalarSingle = codes "ss"
after_predicate ScalarDouble = codes "sd"

-- what marks the width of a comparison's memory for XED
abbrev pub marker : Elements → List ℕ
marker PackedSingle = codes "x"
marker PackedDouble = codes "x"
marker ScalarSingle = codes "l"
marker ScalarDouble = codes "q"
