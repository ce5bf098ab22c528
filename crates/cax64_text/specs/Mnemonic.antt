-- Mnemonics.
use Rattle.std.specs.Prelude.{ℕ, ◌==◌, ◌++◌, Bool, true, false, if◌then◌else◌, List, [], ◌∷◌, codes}
use Rattle.cax64_machine_code.specs.Rows.{name_of}
use Rattle.cax64_machine_code.specs.declared.row.Row.{Row}
use Rattle.cax64_machine_code.specs.declared.row.Row.TheVariants as row

-- what stands before and after the first underscore, which is 95
abbrev pub before_underscore : List ℕ → List ℕ
before_underscore [] = []
before_underscore (c ∷ cs) = if c == 95 then [] else c ∷ before_underscore cs

abbrev pub after_underscore : List ℕ → List ℕ
after_underscore [] = []
after_underscore (c ∷ cs) = if c == 95 then cs else after_underscore cs

abbrev pub begins : List ℕ → List ℕ → Bool
begins [] cs = true
begins (p ∷ ps) [] = false
begins (p ∷ ps) (c ∷ cs) = if p == c then begins ps cs else false

-- A name up to its first underscore; behind `lock_`, which is a prefix, up to the next one.
abbrev pub mnemonic_of_name : List ℕ → List ℕ
mnemonic_of_name name = if begins (codes "lock_") name then codes "lock " ++ before_underscore (after_underscore name) else before_underscore name

-- The mnemonic of a row's instructions. The rows `nopl_rm` and `nopw_rm` are those of no-operations.
abbrev pub row_mnemonic : Row → List ℕ
row_mnemonic row.nopl_rm = codes "nop"
row_mnemonic row.nopw_rm = codes "nop"
row_mnemonic r = mnemonic_of_name (name_of r)

-- The mnemonic where the rest of the tail names a register, or not: two conversions show that they read 128 bits.
abbrev pub mnemonic_for : Bool → Row → List ℕ
mnemonic_for false row.vcvtpd2ps_a = codes "vcvtpd2psx"
mnemonic_for false row.vcvttpd2dq_a = codes "vcvttpd2dqx"
mnemonic_for register r = row_mnemonic r

abbrev pub without_last : List ℕ → List ℕ
without_last [] = []
without_last (c ∷ []) = []
without_last (c ∷ d ∷ cs) = c ∷ without_last (d ∷ cs)
