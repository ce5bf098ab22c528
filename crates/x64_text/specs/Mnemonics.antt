-- Written by table/write.py from table/core.txt.
use Rattle.std.specs.Prelude.{ℕ, List, [], ◌∷◌, codes}

-- The mnemonics of the core's lines, by their numbers: those of all rows, and behind them of `table/core.txt`, in AT&T's
-- form. Each is the line's name up to its first underscore, or behind `lock_` up to the next one.
unfoldable pub mnemonics : List (List ℕ)
mnemonics =
    codes "lock addb" ∷  -- lock_addb_mi
    codes "lock addw" ∷  -- lock_addw_mi
    codes "lock addl" ∷  -- lock_addl_mi
    codes "lock addq" ∷  -- lock_addq_mi_sxl
    codes "lock addl" ∷  -- lock_addl_mi_sxb
    codes "lock addq" ∷  -- lock_addq_mi_sxb
    codes "lock addb" ∷  -- lock_addb_mr
    codes "lock addw" ∷  -- lock_addw_mr
    codes "lock addl" ∷  -- lock_addl_mr
    codes "lock addq" ∷  -- lock_addq_mr
    codes "lock orb" ∷  -- lock_orb_mi
    codes "lock orw" ∷  -- lock_orw_mi
    codes "lock orl" ∷  -- lock_orl_mi
    codes "lock orq" ∷  -- lock_orq_mi_sxl
    codes "lock orl" ∷  -- lock_orl_mi_sxb
    codes "lock orq" ∷  -- lock_orq_mi_sxb
    codes "lock orb" ∷  -- lock_orb_mr
    codes "lock orw" ∷  -- lock_orw_mr
    codes "lock orl" ∷  -- lock_orl_mr
    codes "lock orq" ∷  -- lock_orq_mr
    codes "lock adcb" ∷  -- lock_adcb_mi
    codes "lock adcw" ∷  -- lock_adcw_mi
    codes "lock adcl" ∷  -- lock_adcl_mi
    codes "lock adcq" ∷  -- lock_adcq_mi_sxl
    codes "lock adcl" ∷  -- lock_adcl_mi_sxb
    codes "lock adcq" ∷  -- lock_adcq_mi_sxb
    codes "lock adcb" ∷  -- lock_adcb_mr
    codes "lock adcw" ∷  -- lock_adcw_mr
    codes "lock adcl" ∷  -- lock_adcl_mr
    codes "lock adcq" ∷  -- lock_adcq_mr
    codes "lock sbbb" ∷  -- lock_sbbb_mi
    codes "lock sbbw" ∷  -- lock_sbbw_mi
    codes "lock sbbl" ∷  -- lock_sbbl_mi
    codes "lock sbbq" ∷  -- lock_sbbq_mi_sxl
    codes "lock sbbl" ∷  -- lock_sbbl_mi_sxb
    codes "lock sbbq" ∷  -- lock_sbbq_mi_sxb
    codes "lock sbbb" ∷  -- lock_sbbb_mr
    codes "lock sbbw" ∷  -- lock_sbbw_mr
    codes "lock sbbl" ∷  -- lock_sbbl_mr
    codes "lock sbbq" ∷  -- lock_sbbq_mr
    codes "lock andb" ∷  -- lock_andb_mi
    codes "lock andw" ∷  -- lock_andw_mi
    codes "lock andl" ∷  -- lock_andl_mi
    codes "lock andq" ∷  -- lock_andq_mi_sxl
    codes "lock andl" ∷  -- lock_andl_mi_sxb
    codes "lock andq" ∷  -- lock_andq_mi_sxb
    codes "lock andb" ∷  -- lock_andb_mr
    codes "lock andw" ∷  -- lock_andw_mr
    codes "lock andl" ∷  -- lock_andl_mr
    codes "lock andq" ∷  -- lock_andq_mr
    codes "lock subb" ∷  -- lock_subb_mi
    codes "lock subw" ∷  -- lock_subw_mi
    codes "lock subl" ∷  -- lock_subl_mi
    codes "lock subq" ∷  -- lock_subq_mi_sxl
    codes "lock subl" ∷  -- lock_subl_mi_sxb
    codes "lock subq" ∷  -- lock_subq_mi_sxb
    codes "lock subb" ∷  -- lock_subb_mr
    codes "lock subw" ∷  -- lock_subw_mr
    codes "lock subl" ∷  -- lock_subl_mr
    codes "lock subq" ∷  -- lock_subq_mr
    codes "lock xorb" ∷  -- lock_xorb_mi
    codes "lock xorw" ∷  -- lock_xorw_mi
    codes "lock xorl" ∷  -- lock_xorl_mi
    codes "lock xorq" ∷  -- lock_xorq_mi_sxl
    codes "lock xorl" ∷  -- lock_xorl_mi_sxb
    codes "lock xorq" ∷  -- lock_xorq_mi_sxb
    codes "lock xorb" ∷  -- lock_xorb_mr
    codes "lock xorw" ∷  -- lock_xorw_mr
    codes "lock xorl" ∷  -- lock_xorl_mr
    codes "lock xorq" ∷  -- lock_xorq_mr
    codes "lock xaddb" ∷  -- lock_xaddb_mr
    codes "lock xaddw" ∷  -- lock_xaddw_mr
    codes "lock xaddl" ∷  -- lock_xaddl_mr
    codes "lock xaddq" ∷  -- lock_xaddq_mr
    codes "lock cmpxchgb" ∷  -- lock_cmpxchgb_mr
    codes "lock cmpxchgw" ∷  -- lock_cmpxchgw_mr
    codes "lock cmpxchgl" ∷  -- lock_cmpxchgl_mr
    codes "lock cmpxchgq" ∷  -- lock_cmpxchgq_mr
    codes "lock cmpxchg16b" ∷  -- lock_cmpxchg16b_m
    codes "xchgb" ∷  -- xchgb_rm
    codes "xchgw" ∷  -- xchgw_rm
    codes "xchgl" ∷  -- xchgl_rm
    codes "xchgq" ∷  -- xchgq_rm
    codes "rolb" ∷  -- rolb_m1
    codes "rolw" ∷  -- rolw_m1
    codes "roll" ∷  -- roll_m1
    codes "rolq" ∷  -- rolq_m1
    codes "rorb" ∷  -- rorb_m1
    codes "rorw" ∷  -- rorw_m1
    codes "rorl" ∷  -- rorl_m1
    codes "rorq" ∷  -- rorq_m1
    codes "shlb" ∷  -- shlb_m1
    codes "shlw" ∷  -- shlw_m1
    codes "shll" ∷  -- shll_m1
    codes "shlq" ∷  -- shlq_m1
    codes "shrb" ∷  -- shrb_m1
    codes "shrw" ∷  -- shrw_m1
    codes "shrl" ∷  -- shrl_m1
    codes "shrq" ∷  -- shrq_m1
    codes "sarb" ∷  -- sarb_m1
    codes "sarw" ∷  -- sarw_m1
    codes "sarl" ∷  -- sarl_m1
    codes "sarq" ∷  -- sarq_m1
    codes "callq" ∷  -- callq_m
    codes "jmpq" ∷  -- jmpq_m
    codes "andps" ∷  -- andps_a
    codes "cmpps" ∷  -- cmpps_a
    codes "cmppd" ∷  -- cmppd_a
    codes "cmpss" ∷  -- cmpss_a
    codes "cmpsd" ∷  -- cmpsd_a
    codes "andb" ∷  -- andb_i
    codes "callq" ∷  -- callq_d
    codes "jmp" ∷  -- jmp_d8
    codes "jmp" ∷  -- jmp_d32
    codes "jo" ∷  -- jo_d8
    codes "jno" ∷  -- jno_d8
    codes "jb" ∷  -- jb_d8
    codes "jae" ∷  -- jae_d8
    codes "je" ∷  -- je_d8
    codes "jne" ∷  -- jne_d8
    codes "jbe" ∷  -- jbe_d8
    codes "ja" ∷  -- ja_d8
    codes "js" ∷  -- js_d8
    codes "jns" ∷  -- jns_d8
    codes "jp" ∷  -- jp_d8
    codes "jnp" ∷  -- jnp_d8
    codes "jl" ∷  -- jl_d8
    codes "jge" ∷  -- jge_d8
    codes "jle" ∷  -- jle_d8
    codes "jg" ∷  -- jg_d8
    codes "jo" ∷  -- jo_d32
    codes "jno" ∷  -- jno_d32
    codes "jb" ∷  -- jb_d32
    codes "jae" ∷  -- jae_d32
    codes "je" ∷  -- je_d32
    codes "jne" ∷  -- jne_d32
    codes "jbe" ∷  -- jbe_d32
    codes "ja" ∷  -- ja_d32
    codes "js" ∷  -- js_d32
    codes "jns" ∷  -- jns_d32
    codes "jp" ∷  -- jp_d32
    codes "jnp" ∷  -- jnp_d32
    codes "jl" ∷  -- jl_d32
    codes "jge" ∷  -- jge_d32
    codes "jle" ∷  -- jle_d32
    codes "jg" ∷  -- jg_d32
    codes "vcmpps" ∷  -- vcmpps_b
    codes "vcmppd" ∷  -- vcmppd_b
    codes "vcmpss" ∷  -- vcmpss_b
    codes "vcmpsd" ∷  -- vcmpsd_b
    codes "vcvtpd2ps" ∷  -- vcvtpd2ps_a
    codes "vcvttpd2dq" ∷  -- vcvttpd2dq_a
    codes "mulxl" ∷  -- mulxl_rvm
    codes "mulxq" ∷  -- mulxq_rvm
    codes "nop" ∷  -- nop_1b
    codes "nop" ∷  -- nop_2b
    codes "nopl" ∷  -- nopl_rm
    codes "nopw" ∷  -- nopw_rm
    codes "addb" ∷  -- addb_i
    codes "addb" ∷  -- addb_mi
    codes "addb" ∷  -- addb_mr
    codes "addb" ∷  -- addb_rm
    codes "addw" ∷  -- addw_i
    codes "addw" ∷  -- addw_mi
    codes "addw" ∷  -- addw_mr
    codes "addw" ∷  -- addw_rm
    codes "addl" ∷  -- addl_i
    codes "addl" ∷  -- addl_mi
    codes "addl" ∷  -- addl_mi_sxb
    codes "addl" ∷  -- addl_mr
    codes "addl" ∷  -- addl_rm
    codes "addq" ∷  -- addq_mi_sxl
    codes "addq" ∷  -- addq_mi_sxb
    codes "addq" ∷  -- addq_mr
    codes "addq" ∷  -- addq_rm
    codes "orb" ∷  -- orb_i
    codes "orb" ∷  -- orb_mi
    codes "orb" ∷  -- orb_mr
    codes "orb" ∷  -- orb_rm
    codes "orw" ∷  -- orw_i
    codes "orw" ∷  -- orw_mi
    codes "orw" ∷  -- orw_mr
    codes "orw" ∷  -- orw_rm
    codes "orl" ∷  -- orl_i
    codes "orl" ∷  -- orl_mi
    codes "orl" ∷  -- orl_mi_sxb
    codes "orl" ∷  -- orl_mr
    codes "orl" ∷  -- orl_rm
    codes "orq" ∷  -- orq_mi_sxl
    codes "orq" ∷  -- orq_mi_sxb
    codes "orq" ∷  -- orq_mr
    codes "orq" ∷  -- orq_rm
    codes "adcb" ∷  -- adcb_i
    codes "adcb" ∷  -- adcb_mi
    codes "adcb" ∷  -- adcb_mr
    codes "adcb" ∷  -- adcb_rm
    codes "adcw" ∷  -- adcw_i
    codes "adcw" ∷  -- adcw_mi
    codes "adcw" ∷  -- adcw_mr
    codes "adcw" ∷  -- adcw_rm
    codes "adcl" ∷  -- adcl_i
    codes "adcl" ∷  -- adcl_mi
    codes "adcl" ∷  -- adcl_mi_sxb
    codes "adcl" ∷  -- adcl_mr
    codes "adcl" ∷  -- adcl_rm
    codes "adcq" ∷  -- adcq_mi_sxl
    codes "adcq" ∷  -- adcq_mi_sxb
    codes "adcq" ∷  -- adcq_mr
    codes "adcq" ∷  -- adcq_rm
    codes "sbbb" ∷  -- sbbb_i
    codes "sbbb" ∷  -- sbbb_mi
    codes "sbbb" ∷  -- sbbb_mr
    codes "sbbb" ∷  -- sbbb_rm
    codes "sbbw" ∷  -- sbbw_i
    codes "sbbw" ∷  -- sbbw_mi
    codes "sbbw" ∷  -- sbbw_mr
    codes "sbbw" ∷  -- sbbw_rm
    codes "sbbl" ∷  -- sbbl_i
    codes "sbbl" ∷  -- sbbl_mi
    codes "sbbl" ∷  -- sbbl_mi_sxb
    codes "sbbl" ∷  -- sbbl_mr
    codes "sbbl" ∷  -- sbbl_rm
    codes "sbbq" ∷  -- sbbq_mi_sxl
    codes "sbbq" ∷  -- sbbq_mi_sxb
    codes "sbbq" ∷  -- sbbq_mr
    codes "sbbq" ∷  -- sbbq_rm
    codes "andb" ∷  -- andb_mi
    codes "andb" ∷  -- andb_mr
    codes "andb" ∷  -- andb_rm
    codes "andw" ∷  -- andw_i
    codes "andw" ∷  -- andw_mi
    codes "andw" ∷  -- andw_mr
    codes "andw" ∷  -- andw_rm
    codes "andl" ∷  -- andl_i
    codes "andl" ∷  -- andl_mi
    codes "andl" ∷  -- andl_mi_sxb
    codes "andl" ∷  -- andl_mr
    codes "andl" ∷  -- andl_rm
    codes "andq" ∷  -- andq_mi_sxl
    codes "andq" ∷  -- andq_mi_sxb
    codes "andq" ∷  -- andq_mr
    codes "andq" ∷  -- andq_rm
    codes "subb" ∷  -- subb_i
    codes "subb" ∷  -- subb_mi
    codes "subb" ∷  -- subb_mr
    codes "subb" ∷  -- subb_rm
    codes "subw" ∷  -- subw_i
    codes "subw" ∷  -- subw_mi
    codes "subw" ∷  -- subw_mr
    codes "subw" ∷  -- subw_rm
    codes "subl" ∷  -- subl_i
    codes "subl" ∷  -- subl_mi
    codes "subl" ∷  -- subl_mi_sxb
    codes "subl" ∷  -- subl_mr
    codes "subl" ∷  -- subl_rm
    codes "subq" ∷  -- subq_mi_sxl
    codes "subq" ∷  -- subq_mi_sxb
    codes "subq" ∷  -- subq_mr
    codes "subq" ∷  -- subq_rm
    codes "xorb" ∷  -- xorb_i
    codes "xorb" ∷  -- xorb_mi
    codes "xorb" ∷  -- xorb_mr
    codes "xorb" ∷  -- xorb_rm
    codes "xorw" ∷  -- xorw_i
    codes "xorw" ∷  -- xorw_mi
    codes "xorw" ∷  -- xorw_mr
    codes "xorw" ∷  -- xorw_rm
    codes "xorl" ∷  -- xorl_i
    codes "xorl" ∷  -- xorl_mi
    codes "xorl" ∷  -- xorl_mi_sxb
    codes "xorl" ∷  -- xorl_mr
    codes "xorl" ∷  -- xorl_rm
    codes "xorq" ∷  -- xorq_mi_sxl
    codes "xorq" ∷  -- xorq_mi_sxb
    codes "xorq" ∷  -- xorq_mr
    codes "xorq" ∷  -- xorq_rm
    codes "cmpb" ∷  -- cmpb_i
    codes "cmpb" ∷  -- cmpb_mi
    codes "cmpb" ∷  -- cmpb_mr
    codes "cmpb" ∷  -- cmpb_rm
    codes "cmpw" ∷  -- cmpw_i
    codes "cmpw" ∷  -- cmpw_mi
    codes "cmpw" ∷  -- cmpw_mr
    codes "cmpw" ∷  -- cmpw_rm
    codes "cmpl" ∷  -- cmpl_i
    codes "cmpl" ∷  -- cmpl_mi
    codes "cmpl" ∷  -- cmpl_mi_sxb
    codes "cmpl" ∷  -- cmpl_mr
    codes "cmpl" ∷  -- cmpl_rm
    codes "cmpq" ∷  -- cmpq_mi_sxl
    codes "cmpq" ∷  -- cmpq_mi_sxb
    codes "cmpq" ∷  -- cmpq_mr
    codes "cmpq" ∷  -- cmpq_rm
    codes "testb" ∷  -- testb_i
    codes "testb" ∷  -- testb_mi
    codes "testb" ∷  -- testb_mr
    codes "testw" ∷  -- testw_i
    codes "testw" ∷  -- testw_mi
    codes "testw" ∷  -- testw_mr
    codes "testl" ∷  -- testl_i
    codes "testl" ∷  -- testl_mi
    codes "testl" ∷  -- testl_mr
    codes "testq" ∷  -- testq_mi_sxl
    codes "testq" ∷  -- testq_mr
    codes "movb" ∷  -- movb_mr
    codes "movb" ∷  -- movb_rm
    codes "movb" ∷  -- movb_mi
    codes "movw" ∷  -- movw_mr
    codes "movw" ∷  -- movw_rm
    codes "movw" ∷  -- movw_mi
    codes "movl" ∷  -- movl_mr
    codes "movl" ∷  -- movl_rm
    codes "movl" ∷  -- movl_mi
    codes "movq" ∷  -- movq_mr
    codes "movq" ∷  -- movq_rm
    codes "movq" ∷  -- movq_mi_sxl
    codes "movsbw" ∷  -- movsbw_rm
    codes "movsbl" ∷  -- movsbl_rm
    codes "movsbq" ∷  -- movsbq_rm
    codes "movswl" ∷  -- movswl_rm
    codes "movswq" ∷  -- movswq_rm
    codes "movslq" ∷  -- movslq_rm
    codes "movzbw" ∷  -- movzbw_rm
    codes "movzbl" ∷  -- movzbl_rm
    codes "movzbq" ∷  -- movzbq_rm
    codes "movzwl" ∷  -- movzwl_rm
    codes "movzwq" ∷  -- movzwq_rm
    codes "leaw" ∷  -- leaw_rm
    codes "leal" ∷  -- leal_rm
    codes "leaq" ∷  -- leaq_rm
    codes "mulb" ∷  -- mulb_m
    codes "mulw" ∷  -- mulw_m
    codes "mull" ∷  -- mull_m
    codes "mulq" ∷  -- mulq_m
    codes "imulb" ∷  -- imulb_m
    codes "imulw" ∷  -- imulw_m
    codes "imull" ∷  -- imull_m
    codes "imulq" ∷  -- imulq_m
    codes "imulw" ∷  -- imulw_rm
    codes "imulw" ∷  -- imulw_rmi_sxb
    codes "imulw" ∷  -- imulw_rmi
    codes "imull" ∷  -- imull_rm
    codes "imull" ∷  -- imull_rmi_sxb
    codes "imull" ∷  -- imull_rmi
    codes "imulq" ∷  -- imulq_rm
    codes "imulq" ∷  -- imulq_rmi_sxb
    codes "imulq" ∷  -- imulq_rmi_sxl
    codes "divb" ∷  -- divb_m
    codes "divw" ∷  -- divw_m
    codes "divl" ∷  -- divl_m
    codes "divq" ∷  -- divq_m
    codes "idivb" ∷  -- idivb_m
    codes "idivw" ∷  -- idivw_m
    codes "idivl" ∷  -- idivl_m
    codes "idivq" ∷  -- idivq_m
    codes "notb" ∷  -- notb_m
    codes "notw" ∷  -- notw_m
    codes "notl" ∷  -- notl_m
    codes "notq" ∷  -- notq_m
    codes "negb" ∷  -- negb_m
    codes "negw" ∷  -- negw_m
    codes "negl" ∷  -- negl_m
    codes "negq" ∷  -- negq_m
    codes "cbtw" ∷  -- cbtw_zo
    codes "cwtl" ∷  -- cwtl_zo
    codes "cwtd" ∷  -- cwtd_zo
    codes "cltd" ∷  -- cltd_zo
    codes "rolb" ∷  -- rolb_mc
    codes "rolb" ∷  -- rolb_mi
    codes "rolw" ∷  -- rolw_mc
    codes "rolw" ∷  -- rolw_mi
    codes "roll" ∷  -- roll_mc
    codes "roll" ∷  -- roll_mi
    codes "rolq" ∷  -- rolq_mc
    codes "rolq" ∷  -- rolq_mi
    codes "rorb" ∷  -- rorb_mc
    codes "rorb" ∷  -- rorb_mi
    codes "rorw" ∷  -- rorw_mc
    codes "rorw" ∷  -- rorw_mi
    codes "rorl" ∷  -- rorl_mc
    codes "rorl" ∷  -- rorl_mi
    codes "rorq" ∷  -- rorq_mc
    codes "rorq" ∷  -- rorq_mi
    codes "shlb" ∷  -- shlb_mc
    codes "shlb" ∷  -- shlb_mi
    codes "shlw" ∷  -- shlw_mc
    codes "shlw" ∷  -- shlw_mi
    codes "shll" ∷  -- shll_mc
    codes "shll" ∷  -- shll_mi
    codes "shlq" ∷  -- shlq_mc
    codes "shlq" ∷  -- shlq_mi
    codes "shrb" ∷  -- shrb_mc
    codes "shrb" ∷  -- shrb_mi
    codes "shrw" ∷  -- shrw_mc
    codes "shrw" ∷  -- shrw_mi
    codes "shrl" ∷  -- shrl_mc
    codes "shrl" ∷  -- shrl_mi
    codes "shrq" ∷  -- shrq_mc
    codes "shrq" ∷  -- shrq_mi
    codes "sarb" ∷  -- sarb_mc
    codes "sarb" ∷  -- sarb_mi
    codes "sarw" ∷  -- sarw_mc
    codes "sarw" ∷  -- sarw_mi
    codes "sarl" ∷  -- sarl_mc
    codes "sarl" ∷  -- sarl_mi
    codes "sarq" ∷  -- sarq_mc
    codes "sarq" ∷  -- sarq_mi
    codes "shldw" ∷  -- shldw_mri
    codes "shldw" ∷  -- shldw_mrc
    codes "shldl" ∷  -- shldl_mri
    codes "shldl" ∷  -- shldl_mrc
    codes "shldq" ∷  -- shldq_mri
    codes "shldq" ∷  -- shldq_mrc
    codes "seto" ∷  -- seto_m
    codes "setno" ∷  -- setno_m
    codes "setb" ∷  -- setb_m
    codes "setae" ∷  -- setae_m
    codes "sete" ∷  -- sete_m
    codes "setne" ∷  -- setne_m
    codes "setbe" ∷  -- setbe_m
    codes "seta" ∷  -- seta_m
    codes "sets" ∷  -- sets_m
    codes "setns" ∷  -- setns_m
    codes "setp" ∷  -- setp_m
    codes "setnp" ∷  -- setnp_m
    codes "setl" ∷  -- setl_m
    codes "setge" ∷  -- setge_m
    codes "setle" ∷  -- setle_m
    codes "setg" ∷  -- setg_m
    codes "cmovow" ∷  -- cmovow_rm
    codes "cmovol" ∷  -- cmovol_rm
    codes "cmovoq" ∷  -- cmovoq_rm
    codes "cmovnow" ∷  -- cmovnow_rm
    codes "cmovnol" ∷  -- cmovnol_rm
    codes "cmovnoq" ∷  -- cmovnoq_rm
    codes "cmovbw" ∷  -- cmovbw_rm
    codes "cmovbl" ∷  -- cmovbl_rm
    codes "cmovbq" ∷  -- cmovbq_rm
    codes "cmovaew" ∷  -- cmovaew_rm
    codes "cmovael" ∷  -- cmovael_rm
    codes "cmovaeq" ∷  -- cmovaeq_rm
    codes "cmovew" ∷  -- cmovew_rm
    codes "cmovel" ∷  -- cmovel_rm
    codes "cmoveq" ∷  -- cmoveq_rm
    codes "cmovnew" ∷  -- cmovnew_rm
    codes "cmovnel" ∷  -- cmovnel_rm
    codes "cmovneq" ∷  -- cmovneq_rm
    codes "cmovbew" ∷  -- cmovbew_rm
    codes "cmovbel" ∷  -- cmovbel_rm
    codes "cmovbeq" ∷  -- cmovbeq_rm
    codes "cmovaw" ∷  -- cmovaw_rm
    codes "cmoval" ∷  -- cmoval_rm
    codes "cmovaq" ∷  -- cmovaq_rm
    codes "cmovsw" ∷  -- cmovsw_rm
    codes "cmovsl" ∷  -- cmovsl_rm
    codes "cmovsq" ∷  -- cmovsq_rm
    codes "cmovnsw" ∷  -- cmovnsw_rm
    codes "cmovnsl" ∷  -- cmovnsl_rm
    codes "cmovnsq" ∷  -- cmovnsq_rm
    codes "cmovpw" ∷  -- cmovpw_rm
    codes "cmovpl" ∷  -- cmovpl_rm
    codes "cmovpq" ∷  -- cmovpq_rm
    codes "cmovnpw" ∷  -- cmovnpw_rm
    codes "cmovnpl" ∷  -- cmovnpl_rm
    codes "cmovnpq" ∷  -- cmovnpq_rm
    codes "cmovlw" ∷  -- cmovlw_rm
    codes "cmovll" ∷  -- cmovll_rm
    codes "cmovlq" ∷  -- cmovlq_rm
    codes "cmovgew" ∷  -- cmovgew_rm
    codes "cmovgel" ∷  -- cmovgel_rm
    codes "cmovgeq" ∷  -- cmovgeq_rm
    codes "cmovlew" ∷  -- cmovlew_rm
    codes "cmovlel" ∷  -- cmovlel_rm
    codes "cmovleq" ∷  -- cmovleq_rm
    codes "cmovgw" ∷  -- cmovgw_rm
    codes "cmovgl" ∷  -- cmovgl_rm
    codes "cmovgq" ∷  -- cmovgq_rm
    codes "pushw" ∷  -- pushw_m
    codes "pushq" ∷  -- pushq_m
    codes "pushq" ∷  -- pushq_i8
    codes "pushw" ∷  -- pushw_i16
    codes "pushq" ∷  -- pushq_i32
    codes "popw" ∷  -- popw_m
    codes "popq" ∷  -- popq_m
    codes "retq" ∷  -- retq_zo
    codes "retq" ∷  -- retq_i
    codes "leaveq" ∷  -- leaveq_zo
    codes "ud2" ∷  -- ud2_zo
    codes "int3" ∷  -- int3_zo
    codes "hlt" ∷  -- hlt_zo
    codes "bsfw" ∷  -- bsfw_rm
    codes "bsrw" ∷  -- bsrw_rm
    codes "bsfl" ∷  -- bsfl_rm
    codes "bsrl" ∷  -- bsrl_rm
    codes "bsfq" ∷  -- bsfq_rm
    codes "bsrq" ∷  -- bsrq_rm
    codes "tzcntw" ∷  -- tzcntw_rm
    codes "lzcntw" ∷  -- lzcntw_rm
    codes "popcntw" ∷  -- popcntw_rm
    codes "tzcntl" ∷  -- tzcntl_rm
    codes "lzcntl" ∷  -- lzcntl_rm
    codes "popcntl" ∷  -- popcntl_rm
    codes "tzcntq" ∷  -- tzcntq_rm
    codes "lzcntq" ∷  -- lzcntq_rm
    codes "popcntq" ∷  -- popcntq_rm
    codes "btw" ∷  -- btw_mr
    codes "btw" ∷  -- btw_mi
    codes "btl" ∷  -- btl_mr
    codes "btl" ∷  -- btl_mi
    codes "btq" ∷  -- btq_mr
    codes "btq" ∷  -- btq_mi
    codes "xaddb" ∷  -- xaddb_mr
    codes "cmpxchgb" ∷  -- cmpxchgb_mr
    codes "xaddw" ∷  -- xaddw_mr
    codes "cmpxchgw" ∷  -- cmpxchgw_mr
    codes "xaddl" ∷  -- xaddl_mr
    codes "cmpxchgl" ∷  -- cmpxchgl_mr
    codes "xaddq" ∷  -- xaddq_mr
    codes "cmpxchgq" ∷  -- cmpxchgq_mr
    codes "cmpxchg16b" ∷  -- cmpxchg16b_m
    codes "addss" ∷  -- addss_a
    codes "addsd" ∷  -- addsd_a
    codes "mulss" ∷  -- mulss_a
    codes "mulsd" ∷  -- mulsd_a
    codes "subss" ∷  -- subss_a
    codes "subsd" ∷  -- subsd_a
    codes "minss" ∷  -- minss_a
    codes "minsd" ∷  -- minsd_a
    codes "divss" ∷  -- divss_a
    codes "divsd" ∷  -- divsd_a
    codes "maxss" ∷  -- maxss_a
    codes "maxsd" ∷  -- maxsd_a
    codes "sqrtss" ∷  -- sqrtss_a
    codes "sqrtsd" ∷  -- sqrtsd_a
    codes "ucomiss" ∷  -- ucomiss_a
    codes "ucomisd" ∷  -- ucomisd_a
    codes "andpd" ∷  -- andpd_a
    codes "andnps" ∷  -- andnps_a
    codes "andnpd" ∷  -- andnpd_a
    codes "orps" ∷  -- orps_a
    codes "orpd" ∷  -- orpd_a
    codes "xorps" ∷  -- xorps_a
    codes "xorpd" ∷  -- xorpd_a
    codes "pxor" ∷  -- pxor_a
    codes "movss" ∷  -- movss_a_m
    codes "movss" ∷  -- movss_c_m
    codes "movsd" ∷  -- movsd_a_m
    codes "movsd" ∷  -- movsd_c_m
    codes "movaps" ∷  -- movaps_a
    codes "movaps" ∷  -- movaps_b
    codes "movapd" ∷  -- movapd_a
    codes "movapd" ∷  -- movapd_b
    codes "movups" ∷  -- movups_a
    codes "movups" ∷  -- movups_b
    codes "movupd" ∷  -- movupd_a
    codes "movupd" ∷  -- movupd_b
    codes "movdqa" ∷  -- movdqa_a
    codes "movdqa" ∷  -- movdqa_b
    codes "movdqu" ∷  -- movdqu_a
    codes "movdqu" ∷  -- movdqu_b
    codes "movd" ∷  -- movd_a
    codes "movq" ∷  -- movq_a
    codes "movd" ∷  -- movd_b
    codes "movq" ∷  -- movq_b
    codes "cvtsi2ssl" ∷  -- cvtsi2ssl_a
    codes "cvtss2sil" ∷  -- cvtss2sil_a
    codes "cvttss2sil" ∷  -- cvttss2sil_a
    codes "cvtsi2ssq" ∷  -- cvtsi2ssq_a
    codes "cvtss2siq" ∷  -- cvtss2siq_a
    codes "cvttss2siq" ∷  -- cvttss2siq_a
    codes "cvtsi2sdl" ∷  -- cvtsi2sdl_a
    codes "cvtsd2sil" ∷  -- cvtsd2sil_a
    codes "cvttsd2sil" ∷  -- cvttsd2sil_a
    codes "cvtsi2sdq" ∷  -- cvtsi2sdq_a
    codes "cvtsd2siq" ∷  -- cvtsd2siq_a
    codes "cvttsd2siq" ∷  -- cvttsd2siq_a
    codes "cvtss2sd" ∷  -- cvtss2sd_a
    codes "cvtsd2ss" ∷  -- cvtsd2ss_a
    codes "cvtps2pd" ∷  -- cvtps2pd_a
    codes "cvtpd2ps" ∷  -- cvtpd2ps_a
    codes "cvtdq2ps" ∷  -- cvtdq2ps_a
    codes "cvttps2dq" ∷  -- cvttps2dq_a
    codes "cvtdq2pd" ∷  -- cvtdq2pd_a
    codes "cvttpd2dq" ∷  -- cvttpd2dq_a
    []
