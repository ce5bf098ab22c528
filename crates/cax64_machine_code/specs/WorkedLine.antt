use Rattle.std.specs.Prelude.{ℕ}
use Rattle.cax64_machine_code.specs.Prefix.{no_legacy}
use Rattle.cax64_machine_code.specs.Rows.{W1, byte, plain}
use Rattle.cax64_machine_code.specs.declared.line.Line.{Line}
use Rattle.cax64_machine_code.specs.declared.line.RegField.TheVariants.{Register}
use Rattle.cax64_machine_code.specs.declared.line.PlaceField.TheVariants.{RegisterOrMemory}
use Rattle.cax64_machine_code.specs.declared.line.TailField.TheVariants.{Modrm}
use Rattle.cax64_machine_code.specs.declared.line.ImmField.TheVariants.{NoImm}

-- For worked lines: REX.W, an opcode of one byte, a register in reg, a register or memory in the rest. (With 03 that is
-- `addq`, with 8B `movq`. Intel SDM, volume 2, chapters 3 and 4.)
abbrev pub reg_and_rm : ℕ → Line
reg_and_rm opcode = plain no_legacy W1 (byte opcode) (Modrm Register RegisterOrMemory) NoImm
