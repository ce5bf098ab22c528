use Rattle.std.proofs.Common.{◌≡◌, ℕ, ap, ◌∙◌, refl, List, ◌++◌, Option, Some, None}
use Rattle.std.specs.Prelude.{option_map}
use Rattle.cax64_machine_code.specs.Reading.{PartsOf}
use Rattle.cax64_machine_code.specs.ReadLine.{LineReading, read_of}
use Rattle.cax64_machine_code.specs.declared.line.Line.{Line}
use Rattle.cax64_sink.specs.Sink.{State}
use Rattle.x64_lines.specs.Line.{core_line}
use Rattle.x64_lines.specs.Lines.{core_lines}
use Rattle.x64_lines.proofs.Table.{op_below}
use Rattle.x64_reader.specs.Reading.{line_reading}
use Rattle.x64_reader.specs.declared.reading.CoreReading.{CoreReading}
use Rattle.x64_reader.proofs.Distinct.{same_number}
use Rattle.x64_core.specs.Adds.{AddsCore}
use Rattle.x64_core.specs.Core.{core_meant}
use Rattle.x64_core.specs.ReadAs.{IsReadAs}
use Rattle.x64_core.specs.View.{core_view}
use Rattle.x64_core.specs.declared.instruction.Core.{Core}

-- What was put of an instruction is read as it.

read_as : (c : Core) (old new : State) (adds : AddsCore (core_view c) old new) (found : Option CoreReading) → option_map line_reading found ≡ Some adds.line.reads.reading → IsReadAs (core_view c) old.offsets adds.line.added found
read_as c old new adds None h = cc
read_as c old new adds (Some r) h =
    let same : line_reading r ≡ adds.line.reads.reading = cc in
    let parts : ◌≡◌ {A = PartsOf Line} (record { row = core_line r.op.number; reg = r.reg; vvvv = r.vvvv; place = r.place; imm = r.imm }) (core_meant (core_view c) old.offsets).parts =
    ap (λ (z : LineReading). record { row = z.line; reg = z.reg; vvvv = z.vvvv; place = z.place; imm = z.imm }) same ∙ adds.line.reads.same in
    record {
      reading = r;
      is = refl;
      op = same_number r.op.number c.op.number (op_below r.op) (op_below c.op) (ap (λ (z : PartsOf Line). z.row) parts);
      parts = parts;
      length = ap (λ (z : LineReading). z.length) same ∙ adds.line.reads.length;
    }

pub put_is_read : (c : Core) (old new : State) (adds : AddsCore (core_view c) old new) (rest : List ℕ) (found : Option CoreReading) → option_map line_reading found ≡ read_of core_lines (adds.line.added ++ rest) → IsReadAs (core_view c) old.offsets adds.line.added found
put_is_read c old new adds rest found h = read_as c old new adds found (h ∙ adds.alone rest)
