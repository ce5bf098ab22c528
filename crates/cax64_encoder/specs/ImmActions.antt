use Rattle.std.specs.Prelude.{ℕ, ◌==◌, if◌then◌else◌, Option, Some, None, List, [], ◌∷◌}
use Rattle.std.specs.Int.{cast_signed, cast_unsigned, to_le_bytes, w8, w16, w32}
use Rattle.cax64_machine_code.specs.declared.line.ImmField.{ImmField}
use Rattle.cax64_machine_code.specs.declared.line.ImmField.TheVariants.{NoImm, Imm, Simm}
use Rattle.cax64_operand.specs.declared.immediate.ImmOperand.{ImmOperand}
use Rattle.cax64_operand.specs.declared.immediate.ImmOperand.TheVariants.{Imm8, Imm16, Imm32, Simm8, Simm32}
use Rattle.cax64_sink.specs.Call.{Action, put}

-- one put of its size
abbrev pub imm_actions : ImmOperand → List Action
imm_actions (Imm8 v) = put (v ∷ []) ∷ []
imm_actions (Imm16 v) = put (to_le_bytes w16 v) ∷ []
imm_actions (Imm32 v) = put (to_le_bytes w32 v) ∷ []
imm_actions (Simm8 v) = put (cast_unsigned w8 v ∷ []) ∷ []
imm_actions (Simm32 v) = put (to_le_bytes w32 (cast_unsigned w32 v)) ∷ []

abbrev pub optional_imm_actions : Option ImmOperand → List Action
optional_imm_actions None = []
optional_imm_actions (Some imm) = imm_actions imm

-- the same of the bytes as one word
abbrev pub imm_word : ImmOperand → ℕ
imm_word (Imm8 v) = v
imm_word (Imm16 v) = v
imm_word (Imm32 v) = v
imm_word (Simm8 v) = cast_unsigned w8 v
imm_word (Simm32 v) = cast_unsigned w32 v

abbrev pub optional_imm_word : Option ImmOperand → ℕ
optional_imm_word None = 0
optional_imm_word (Some imm) = imm_word imm

-- what a word stands for in a field
abbrev pub imm_named : ImmField → ℕ → Option ImmOperand
imm_named NoImm word = None
imm_named (Imm size) word = Some (if size == 1 then Imm8 word else (if size == 2 then Imm16 word else Imm32 word))
imm_named (Simm size) word = Some (if size == 1 then Simm8 (cast_signed w8 word) else Simm32 (cast_signed w32 word))
