use Rattle.cax64_encoder.specs.Numbered.{plain, numbered_place}
use Rattle.cax64_encoder.specs.declared.numbered.NumberedForm.{NumberedForm}
use Rattle.cax64_table.specs.Numbers.{has_register, has_vvvv}
use Rattle.x64_lines.specs.Line.{core_line}
use Rattle.x64_core.specs.View.{place_operand, when}
use Rattle.x64_core.specs.Viewed.{viewed}
use Rattle.x64_core.specs.declared.instruction.Core.{Core}

-- What the encoder is given of an instruction of the core.
abbrev pub core_form : Core → NumberedForm
core_form c = record {
  reg = when (has_register (core_line c.op.number).tail) c.reg;
  vvvv = when (has_vvvv (core_line c.op.number).prefix) c.vvvv;
  place = numbered_place plain (place_operand (viewed c.place));
  imm = c.imm;
}
