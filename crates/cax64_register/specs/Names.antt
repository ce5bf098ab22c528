-- the names of registers, as assemblers print them with a percent sign
use Rattle.std.specs.Prelude.{ℕ, List, [], ◌∷◌, Option, Some, None, codes, slice_get, unwrap_or}
use Rattle.cax64_register.specs.declared.gpr.Size.{Size}
use Rattle.cax64_register.specs.declared.gpr.Size.TheVariants.{Byte, Word, Doubleword, Quadword}

-- the names of the general registers by number, at each size
unfoldable pub gpr_names : Size → List (List ℕ)
gpr_names Byte =
    codes "%al" ∷ codes "%cl" ∷ codes "%dl" ∷ codes "%bl" ∷
    codes "%spl" ∷ codes "%bpl" ∷ codes "%sil" ∷ codes "%dil" ∷
    codes "%r8b" ∷ codes "%r9b" ∷ codes "%r10b" ∷ codes "%r11b" ∷
    codes "%r12b" ∷ codes "%r13b" ∷ codes "%r14b" ∷ codes "%r15b" ∷ []
gpr_names Word =
    codes "%ax" ∷ codes "%cx" ∷ codes "%dx" ∷ codes "%bx" ∷
    codes "%sp" ∷ codes "%bp" ∷ codes "%si" ∷ codes "%di" ∷
    codes "%r8w" ∷ codes "%r9w" ∷ codes "%r10w" ∷ codes "%r11w" ∷
    codes "%r12w" ∷ codes "%r13w" ∷ codes "%r14w" ∷ codes "%r15w" ∷ []
gpr_names Doubleword =
    codes "%eax" ∷ codes "%ecx" ∷ codes "%edx" ∷ codes "%ebx" ∷
    codes "%esp" ∷ codes "%ebp" ∷ codes "%esi" ∷ codes "%edi" ∷
    codes "%r8d" ∷ codes "%r9d" ∷ codes "%r10d" ∷ codes "%r11d" ∷
    codes "%r12d" ∷ codes "%r13d" ∷ codes "%r14d" ∷ codes "%r15d" ∷ []
gpr_names Quadword =
    codes "%rax" ∷ codes "%rcx" ∷ codes "%rdx" ∷ codes "%rbx" ∷
    codes "%rsp" ∷ codes "%rbp" ∷ codes "%rsi" ∷ codes "%rdi" ∷
    codes "%r8" ∷ codes "%r9" ∷ codes "%r10" ∷ codes "%r11" ∷
    codes "%r12" ∷ codes "%r13" ∷ codes "%r14" ∷ codes "%r15" ∷ []

-- the name of a general register, by number below 16
abbrev pub gpr_name : ℕ → Size → List ℕ
gpr_name number size = unwrap_or (slice_get (gpr_names size) number) []

-- the names of the XMM registers, by number
unfoldable pub xmm_names : List (List ℕ)
xmm_names =
    codes "%xmm0" ∷ codes "%xmm1" ∷ codes "%xmm2" ∷ codes "%xmm3" ∷
    codes "%xmm4" ∷ codes "%xmm5" ∷ codes "%xmm6" ∷ codes "%xmm7" ∷
    codes "%xmm8" ∷ codes "%xmm9" ∷ codes "%xmm10" ∷ codes "%xmm11" ∷
    codes "%xmm12" ∷ codes "%xmm13" ∷ codes "%xmm14" ∷ codes "%xmm15" ∷ []

-- the name of an XMM register, by number below 16
abbrev pub xmm_name : ℕ → List ℕ
xmm_name number = unwrap_or (slice_get xmm_names number) []

-- a number's name as a general register of a size, or as an XMM register
abbrev pub register_name : ℕ → Option Size → List ℕ
register_name number (Some size) = gpr_name number size
register_name number None = xmm_name number
