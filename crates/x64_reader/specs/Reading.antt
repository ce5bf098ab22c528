use Rattle.cax64_machine_code.specs.ReadLine.{LineReading}
use Rattle.x64_lines.specs.Line.{core_line}
use Rattle.x64_reader.specs.declared.reading.CoreReading.{CoreReading}

-- A reading by the core's lines, with the line in the place of its number.
abbrev pub line_reading : CoreReading → LineReading
line_reading r = record {
  line = core_line r.op.number;
  length = r.length;
  tail = r.tail;
  reg = r.reg;
  vvvv = r.vvvv;
  place = r.place;
  imm = r.imm;
}
