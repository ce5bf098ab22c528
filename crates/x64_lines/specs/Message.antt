-- What a refusal of operands prints.
use Rattle.std.specs.Prelude.{ℕ, List, codes}
use Rattle.x64_lines.specs.declared.refused.OperandError.{OperandError}
use Rattle.x64_lines.specs.declared.refused.OperandError.TheVariants.{Register, Vvvv, Place, Immediate, Range}

abbrev pub operand_error_text : OperandError → List ℕ
operand_error_text Register = codes "the line has a register in reg and none is given, or the other way round"
operand_error_text Vvvv = codes "the line has a register in vvvv and none is given, or the other way round"
operand_error_text Place = codes "a register, memory or nothing is given where the line has another of these"
operand_error_text Immediate = codes "the line has an immediate and none is given, or the other way round"
operand_error_text Range = codes "the immediate is out of the line's range"
