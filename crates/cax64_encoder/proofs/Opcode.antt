use Rattle.std.specs.Prelude.{List}
use Rattle.cax64_machine_code.specs.Line.{opcode_bytes}
use Rattle.cax64_machine_code.specs.declared.line.Opcode.{Opcode}
use Rattle.cax64_sink.specs.Call.{Action}
use Rattle.cax64_sink.specs.Puts.{puts}

-- the bytes of an opcode, put one at a time
abbrev pub opcode_actions : Opcode → List Action
opcode_actions opcode = puts (opcode_bytes opcode)
