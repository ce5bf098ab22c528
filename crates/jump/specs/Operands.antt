-- Written by table/write.py from table/instructions.txt.
use Rattle.cax64_operand.specs.declared.immediate.Immediate.TheVariants.{Distance8, Distance32}
use Rattle.cax64_operand.specs.declared.operand.Operand.TheVariants.{Imm}
use Rattle.cax64_operand.specs.declared.operand.Operands.{Operands}
use Rattle.cax64_operand.specs.declared.operand.Operands.TheVariants.{One}
use Rattle.jump.specs.declared.d8.jmp_d8.{jmp_d8}
use Rattle.jump.specs.declared.d8.jo_d8.{jo_d8}
use Rattle.jump.specs.declared.d8.jno_d8.{jno_d8}
use Rattle.jump.specs.declared.d8.jb_d8.{jb_d8}
use Rattle.jump.specs.declared.d8.jae_d8.{jae_d8}
use Rattle.jump.specs.declared.d8.je_d8.{je_d8}
use Rattle.jump.specs.declared.d8.jne_d8.{jne_d8}
use Rattle.jump.specs.declared.d8.jbe_d8.{jbe_d8}
use Rattle.jump.specs.declared.d8.ja_d8.{ja_d8}
use Rattle.jump.specs.declared.d8.js_d8.{js_d8}
use Rattle.jump.specs.declared.d8.jns_d8.{jns_d8}
use Rattle.jump.specs.declared.d8.jp_d8.{jp_d8}
use Rattle.jump.specs.declared.d8.jnp_d8.{jnp_d8}
use Rattle.jump.specs.declared.d8.jl_d8.{jl_d8}
use Rattle.jump.specs.declared.d8.jge_d8.{jge_d8}
use Rattle.jump.specs.declared.d8.jle_d8.{jle_d8}
use Rattle.jump.specs.declared.d8.jg_d8.{jg_d8}
use Rattle.jump.specs.declared.d32.callq_d.{callq_d}
use Rattle.jump.specs.declared.d32.jmp_d32.{jmp_d32}
use Rattle.jump.specs.declared.d32.jo_d32.{jo_d32}
use Rattle.jump.specs.declared.d32.jno_d32.{jno_d32}
use Rattle.jump.specs.declared.d32.jb_d32.{jb_d32}
use Rattle.jump.specs.declared.d32.jae_d32.{jae_d32}
use Rattle.jump.specs.declared.d32.je_d32.{je_d32}
use Rattle.jump.specs.declared.d32.jne_d32.{jne_d32}
use Rattle.jump.specs.declared.d32.jbe_d32.{jbe_d32}
use Rattle.jump.specs.declared.d32.ja_d32.{ja_d32}
use Rattle.jump.specs.declared.d32.js_d32.{js_d32}
use Rattle.jump.specs.declared.d32.jns_d32.{jns_d32}
use Rattle.jump.specs.declared.d32.jp_d32.{jp_d32}
use Rattle.jump.specs.declared.d32.jnp_d32.{jnp_d32}
use Rattle.jump.specs.declared.d32.jl_d32.{jl_d32}
use Rattle.jump.specs.declared.d32.jge_d32.{jge_d32}
use Rattle.jump.specs.declared.d32.jle_d32.{jle_d32}
use Rattle.jump.specs.declared.d32.jg_d32.{jg_d32}

-- The operands of each instruction, in the order of visits.

abbrev pub operands_jmp_d8 : {R A B C D E F : Type 0} → jmp_d8 → Operands R A B C D E F
operands_jmp_d8 i = One (Imm (Distance8 i.imm8))

abbrev pub operands_jo_d8 : {R A B C D E F : Type 0} → jo_d8 → Operands R A B C D E F
operands_jo_d8 i = One (Imm (Distance8 i.imm8))

abbrev pub operands_jno_d8 : {R A B C D E F : Type 0} → jno_d8 → Operands R A B C D E F
operands_jno_d8 i = One (Imm (Distance8 i.imm8))

abbrev pub operands_jb_d8 : {R A B C D E F : Type 0} → jb_d8 → Operands R A B C D E F
operands_jb_d8 i = One (Imm (Distance8 i.imm8))

abbrev pub operands_jae_d8 : {R A B C D E F : Type 0} → jae_d8 → Operands R A B C D E F
operands_jae_d8 i = One (Imm (Distance8 i.imm8))

abbrev pub operands_je_d8 : {R A B C D E F : Type 0} → je_d8 → Operands R A B C D E F
operands_je_d8 i = One (Imm (Distance8 i.imm8))

abbrev pub operands_jne_d8 : {R A B C D E F : Type 0} → jne_d8 → Operands R A B C D E F
operands_jne_d8 i = One (Imm (Distance8 i.imm8))

abbrev pub operands_jbe_d8 : {R A B C D E F : Type 0} → jbe_d8 → Operands R A B C D E F
operands_jbe_d8 i = One (Imm (Distance8 i.imm8))

abbrev pub operands_ja_d8 : {R A B C D E F : Type 0} → ja_d8 → Operands R A B C D E F
operands_ja_d8 i = One (Imm (Distance8 i.imm8))

abbrev pub operands_js_d8 : {R A B C D E F : Type 0} → js_d8 → Operands R A B C D E F
operands_js_d8 i = One (Imm (Distance8 i.imm8))

abbrev pub operands_jns_d8 : {R A B C D E F : Type 0} → jns_d8 → Operands R A B C D E F
operands_jns_d8 i = One (Imm (Distance8 i.imm8))

abbrev pub operands_jp_d8 : {R A B C D E F : Type 0} → jp_d8 → Operands R A B C D E F
operands_jp_d8 i = One (Imm (Distance8 i.imm8))

abbrev pub operands_jnp_d8 : {R A B C D E F : Type 0} → jnp_d8 → Operands R A B C D E F
operands_jnp_d8 i = One (Imm (Distance8 i.imm8))

abbrev pub operands_jl_d8 : {R A B C D E F : Type 0} → jl_d8 → Operands R A B C D E F
operands_jl_d8 i = One (Imm (Distance8 i.imm8))

abbrev pub operands_jge_d8 : {R A B C D E F : Type 0} → jge_d8 → Operands R A B C D E F
operands_jge_d8 i = One (Imm (Distance8 i.imm8))

abbrev pub operands_jle_d8 : {R A B C D E F : Type 0} → jle_d8 → Operands R A B C D E F
operands_jle_d8 i = One (Imm (Distance8 i.imm8))

abbrev pub operands_jg_d8 : {R A B C D E F : Type 0} → jg_d8 → Operands R A B C D E F
operands_jg_d8 i = One (Imm (Distance8 i.imm8))

abbrev pub operands_callq_d : {R A B C D E F : Type 0} → callq_d → Operands R A B C D E F
operands_callq_d i = One (Imm (Distance32 i.imm32))

abbrev pub operands_jmp_d32 : {R A B C D E F : Type 0} → jmp_d32 → Operands R A B C D E F
operands_jmp_d32 i = One (Imm (Distance32 i.imm32))

abbrev pub operands_jo_d32 : {R A B C D E F : Type 0} → jo_d32 → Operands R A B C D E F
operands_jo_d32 i = One (Imm (Distance32 i.imm32))

abbrev pub operands_jno_d32 : {R A B C D E F : Type 0} → jno_d32 → Operands R A B C D E F
operands_jno_d32 i = One (Imm (Distance32 i.imm32))

abbrev pub operands_jb_d32 : {R A B C D E F : Type 0} → jb_d32 → Operands R A B C D E F
operands_jb_d32 i = One (Imm (Distance32 i.imm32))

abbrev pub operands_jae_d32 : {R A B C D E F : Type 0} → jae_d32 → Operands R A B C D E F
operands_jae_d32 i = One (Imm (Distance32 i.imm32))

abbrev pub operands_je_d32 : {R A B C D E F : Type 0} → je_d32 → Operands R A B C D E F
operands_je_d32 i = One (Imm (Distance32 i.imm32))

abbrev pub operands_jne_d32 : {R A B C D E F : Type 0} → jne_d32 → Operands R A B C D E F
operands_jne_d32 i = One (Imm (Distance32 i.imm32))

abbrev pub operands_jbe_d32 : {R A B C D E F : Type 0} → jbe_d32 → Operands R A B C D E F
operands_jbe_d32 i = One (Imm (Distance32 i.imm32))

abbrev pub operands_ja_d32 : {R A B C D E F : Type 0} → ja_d32 → Operands R A B C D E F
operands_ja_d32 i = One (Imm (Distance32 i.imm32))

abbrev pub operands_js_d32 : {R A B C D E F : Type 0} → js_d32 → Operands R A B C D E F
operands_js_d32 i = One (Imm (Distance32 i.imm32))

abbrev pub operands_jns_d32 : {R A B C D E F : Type 0} → jns_d32 → Operands R A B C D E F
operands_jns_d32 i = One (Imm (Distance32 i.imm32))

abbrev pub operands_jp_d32 : {R A B C D E F : Type 0} → jp_d32 → Operands R A B C D E F
operands_jp_d32 i = One (Imm (Distance32 i.imm32))

abbrev pub operands_jnp_d32 : {R A B C D E F : Type 0} → jnp_d32 → Operands R A B C D E F
operands_jnp_d32 i = One (Imm (Distance32 i.imm32))

abbrev pub operands_jl_d32 : {R A B C D E F : Type 0} → jl_d32 → Operands R A B C D E F
operands_jl_d32 i = One (Imm (Distance32 i.imm32))

abbrev pub operands_jge_d32 : {R A B C D E F : Type 0} → jge_d32 → Operands R A B C D E F
operands_jge_d32 i = One (Imm (Distance32 i.imm32))

abbrev pub operands_jle_d32 : {R A B C D E F : Type 0} → jle_d32 → Operands R A B C D E F
operands_jle_d32 i = One (Imm (Distance32 i.imm32))

abbrev pub operands_jg_d32 : {R A B C D E F : Type 0} → jg_d32 → Operands R A B C D E F
operands_jg_d32 i = One (Imm (Distance32 i.imm32))
