use Rattle.std.proofs.Common.{◌≡◌, ℕ, zero, suc, List, [], ◌∷◌, refl, true, Some, slice_get}
use Rattle.cax64_machine_code.specs.Rows.{line_of, all_rows}
use Rattle.cax64_machine_code.proofs.Apart.{all_apart}
use Rattle.cax64_machine_code.specs.declared.row.Row.{Row}
-- table/write.py: variants
use Rattle.cax64_machine_code.specs.declared.row.Row.TheVariants.{lock_addb_mi, lock_addw_mi, lock_addl_mi, lock_addq_mi_sxl, lock_addl_mi_sxb, lock_addq_mi_sxb, lock_addb_mr, lock_addw_mr, lock_addl_mr, lock_addq_mr, lock_orb_mi, lock_orw_mi, lock_orl_mi, lock_orq_mi_sxl, lock_orl_mi_sxb, lock_orq_mi_sxb, lock_orb_mr, lock_orw_mr, lock_orl_mr, lock_orq_mr, lock_adcb_mi, lock_adcw_mi, lock_adcl_mi, lock_adcq_mi_sxl, lock_adcl_mi_sxb, lock_adcq_mi_sxb, lock_adcb_mr, lock_adcw_mr, lock_adcl_mr, lock_adcq_mr, lock_sbbb_mi, lock_sbbw_mi, lock_sbbl_mi, lock_sbbq_mi_sxl, lock_sbbl_mi_sxb, lock_sbbq_mi_sxb, lock_sbbb_mr, lock_sbbw_mr, lock_sbbl_mr, lock_sbbq_mr, lock_andb_mi, lock_andw_mi, lock_andl_mi, lock_andq_mi_sxl, lock_andl_mi_sxb, lock_andq_mi_sxb, lock_andb_mr, lock_andw_mr, lock_andl_mr, lock_andq_mr, lock_subb_mi, lock_subw_mi, lock_subl_mi, lock_subq_mi_sxl, lock_subl_mi_sxb, lock_subq_mi_sxb, lock_subb_mr, lock_subw_mr, lock_subl_mr, lock_subq_mr, lock_xorb_mi, lock_xorw_mi, lock_xorl_mi, lock_xorq_mi_sxl, lock_xorl_mi_sxb, lock_xorq_mi_sxb, lock_xorb_mr, lock_xorw_mr, lock_xorl_mr, lock_xorq_mr, lock_xaddb_mr, lock_xaddw_mr, lock_xaddl_mr, lock_xaddq_mr, lock_cmpxchgb_mr, lock_cmpxchgw_mr, lock_cmpxchgl_mr, lock_cmpxchgq_mr, lock_cmpxchg16b_m, xchgb_rm, xchgw_rm, xchgl_rm, xchgq_rm, rolb_m1, rolw_m1, roll_m1, rolq_m1, rorb_m1, rorw_m1, rorl_m1, rorq_m1, shlb_m1, shlw_m1, shll_m1, shlq_m1, shrb_m1, shrw_m1, shrl_m1, shrq_m1, sarb_m1, sarw_m1, sarl_m1, sarq_m1, callq_m, jmpq_m, andps_a, cmpps_a, cmppd_a, cmpss_a, cmpsd_a, andb_i, callq_d, jmp_d8, jmp_d32, jo_d8, jno_d8, jb_d8, jae_d8, je_d8, jne_d8, jbe_d8, ja_d8, js_d8, jns_d8, jp_d8, jnp_d8, jl_d8, jge_d8, jle_d8, jg_d8, jo_d32, jno_d32, jb_d32, jae_d32, je_d32, jne_d32, jbe_d32, ja_d32, js_d32, jns_d32, jp_d32, jnp_d32, jl_d32, jge_d32, jle_d32, jg_d32, vcmpps_b, vcmppd_b, vcmpss_b, vcmpsd_b, vcvtpd2ps_a, vcvttpd2dq_a, mulxl_rvm, mulxq_rvm, nop_1b, nop_2b, nopl_rm, nopw_rm}

-- table/write.py: end
-- each two rows of the table are apart
pub table_apart : all_apart all_rows ≡ true
unfolding line_of all_rows
table_apart = refl

-- a row of a list
pub data IsIn (row : Row) : List Row → Type 0 where
  here : {rows : List Row} → IsIn row (row ∷ rows)
  there : {other : Row} {rows : List Row} → IsIn row rows → IsIn row (other ∷ rows)

-- the place of a row in the list of all rows
unfoldable pub place_of : Row → ℕ
-- table/write.py: places
place_of lock_addb_mi = 0
place_of lock_addw_mi = 1
place_of lock_addl_mi = 2
place_of lock_addq_mi_sxl = 3
place_of lock_addl_mi_sxb = 4
place_of lock_addq_mi_sxb = 5
place_of lock_addb_mr = 6
place_of lock_addw_mr = 7
place_of lock_addl_mr = 8
place_of lock_addq_mr = 9
place_of lock_orb_mi = 10
place_of lock_orw_mi = 11
place_of lock_orl_mi = 12
place_of lock_orq_mi_sxl = 13
place_of lock_orl_mi_sxb = 14
place_of lock_orq_mi_sxb = 15
place_of lock_orb_mr = 16
place_of lock_orw_mr = 17
place_of lock_orl_mr = 18
place_of lock_orq_mr = 19
place_of lock_adcb_mi = 20
place_of lock_adcw_mi = 21
place_of lock_adcl_mi = 22
place_of lock_adcq_mi_sxl = 23
place_of lock_adcl_mi_sxb = 24
place_of lock_adcq_mi_sxb = 25
place_of lock_adcb_mr = 26
place_of lock_adcw_mr = 27
place_of lock_adcl_mr = 28
place_of lock_adcq_mr = 29
place_of lock_sbbb_mi = 30
place_of lock_sbbw_mi = 31
place_of lock_sbbl_mi = 32
place_of lock_sbbq_mi_sxl = 33
place_of lock_sbbl_mi_sxb = 34
place_of lock_sbbq_mi_sxb = 35
place_of lock_sbbb_mr = 36
place_of lock_sbbw_mr = 37
place_of lock_sbbl_mr = 38
place_of lock_sbbq_mr = 39
place_of lock_andb_mi = 40
place_of lock_andw_mi = 41
place_of lock_andl_mi = 42
place_of lock_andq_mi_sxl = 43
place_of lock_andl_mi_sxb = 44
place_of lock_andq_mi_sxb = 45
place_of lock_andb_mr = 46
place_of lock_andw_mr = 47
place_of lock_andl_mr = 48
place_of lock_andq_mr = 49
place_of lock_subb_mi = 50
place_of lock_subw_mi = 51
place_of lock_subl_mi = 52
place_of lock_subq_mi_sxl = 53
place_of lock_subl_mi_sxb = 54
place_of lock_subq_mi_sxb = 55
place_of lock_subb_mr = 56
place_of lock_subw_mr = 57
place_of lock_subl_mr = 58
place_of lock_subq_mr = 59
place_of lock_xorb_mi = 60
place_of lock_xorw_mi = 61
place_of lock_xorl_mi = 62
place_of lock_xorq_mi_sxl = 63
place_of lock_xorl_mi_sxb = 64
place_of lock_xorq_mi_sxb = 65
place_of lock_xorb_mr = 66
place_of lock_xorw_mr = 67
place_of lock_xorl_mr = 68
place_of lock_xorq_mr = 69
place_of lock_xaddb_mr = 70
place_of lock_xaddw_mr = 71
place_of lock_xaddl_mr = 72
place_of lock_xaddq_mr = 73
place_of lock_cmpxchgb_mr = 74
place_of lock_cmpxchgw_mr = 75
place_of lock_cmpxchgl_mr = 76
place_of lock_cmpxchgq_mr = 77
place_of lock_cmpxchg16b_m = 78
place_of xchgb_rm = 79
place_of xchgw_rm = 80
place_of xchgl_rm = 81
place_of xchgq_rm = 82
place_of rolb_m1 = 83
place_of rolw_m1 = 84
place_of roll_m1 = 85
place_of rolq_m1 = 86
place_of rorb_m1 = 87
place_of rorw_m1 = 88
place_of rorl_m1 = 89
place_of rorq_m1 = 90
place_of shlb_m1 = 91
place_of shlw_m1 = 92
place_of shll_m1 = 93
place_of shlq_m1 = 94
place_of shrb_m1 = 95
place_of shrw_m1 = 96
place_of shrl_m1 = 97
place_of shrq_m1 = 98
place_of sarb_m1 = 99
place_of sarw_m1 = 100
place_of sarl_m1 = 101
place_of sarq_m1 = 102
place_of callq_m = 103
place_of jmpq_m = 104
place_of andps_a = 105
place_of cmpps_a = 106
place_of cmppd_a = 107
place_of cmpss_a = 108
place_of cmpsd_a = 109
place_of andb_i = 110
place_of callq_d = 111
place_of jmp_d8 = 112
place_of jmp_d32 = 113
place_of jo_d8 = 114
place_of jno_d8 = 115
place_of jb_d8 = 116
place_of jae_d8 = 117
place_of je_d8 = 118
place_of jne_d8 = 119
place_of jbe_d8 = 120
place_of ja_d8 = 121
place_of js_d8 = 122
place_of jns_d8 = 123
place_of jp_d8 = 124
place_of jnp_d8 = 125
place_of jl_d8 = 126
place_of jge_d8 = 127
place_of jle_d8 = 128
place_of jg_d8 = 129
place_of jo_d32 = 130
place_of jno_d32 = 131
place_of jb_d32 = 132
place_of jae_d32 = 133
place_of je_d32 = 134
place_of jne_d32 = 135
place_of jbe_d32 = 136
place_of ja_d32 = 137
place_of js_d32 = 138
place_of jns_d32 = 139
place_of jp_d32 = 140
place_of jnp_d32 = 141
place_of jl_d32 = 142
place_of jge_d32 = 143
place_of jle_d32 = 144
place_of jg_d32 = 145
place_of vcmpps_b = 146
place_of vcmppd_b = 147
place_of vcmpss_b = 148
place_of vcmpsd_b = 149
place_of vcvtpd2ps_a = 150
place_of vcvttpd2dq_a = 151
place_of mulxl_rvm = 152
place_of mulxq_rvm = 153
place_of nop_1b = 154
place_of nop_2b = 155
place_of nopl_rm = 156
place_of nopw_rm = 157

-- table/write.py: end
pub stands_at : (row : Row) → slice_get all_rows (place_of row) ≡ Some row
unfolding all_rows place_of
stands_at lock_addb_mi = refl
stands_at _ = refl

found_in : (row : Row) (rows : List Row) (place : ℕ) → slice_get rows place ≡ Some row → IsIn row rows
found_in row [] zero h = cc
found_in row [] (suc place) h = cc
found_in row (other ∷ rows) zero h = let e : other ≡ row = cc in rw e here
found_in row (other ∷ rows) (suc place) h = there (found_in row rows place h)

-- each row is in the list of all rows
pub row_is_in : (row : Row) → IsIn row all_rows
row_is_in row = found_in row all_rows (place_of row) (stands_at row)
