use Rattle.std.specs.Prelude.{ℕ, slice_index_or}
use Rattle.cax64_machine_code.specs.Prefix.{no_legacy}
use Rattle.cax64_machine_code.specs.Rows.{plain, any, byte}
use Rattle.cax64_machine_code.specs.declared.line.ImmField.TheVariants.{NoImm}
use Rattle.cax64_machine_code.specs.declared.line.Line.{Line}
use Rattle.cax64_machine_code.specs.declared.line.TailField.TheVariants.{NoTail}
use Rattle.x64_lines.specs.Lines.{core_lines}

-- The line of a number.

abbrev pub no_line : Line
no_line = plain no_legacy any (byte 0) NoTail NoImm

abbrev pub core_line : ℕ → Line
core_line number = slice_index_or core_lines number no_line
