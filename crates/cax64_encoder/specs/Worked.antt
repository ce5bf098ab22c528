use Rattle.std.specs.Prelude.{◌≡◌, ◌++◌, ℕ, Some, None, List, length}
use Rattle.cax64_machine_code.specs.Reading.{PartsOf}
use Rattle.cax64_machine_code.specs.ReadLine.{LineReading, read_of}
use Rattle.cax64_machine_code.specs.WorkedLine.{reg_and_rm}
use Rattle.cax64_machine_code.specs.declared.line.Line.{Line}
use Rattle.cax64_machine_code.specs.declared.reading.Place.TheVariants.{Reg}
use Rattle.cax64_machine_code.specs.declared.reading.RegView.TheVariants.{Low}
use Rattle.cax64_sink.specs.Sink.{State}

-- For worked examples: a sink has got so many bytes, which a reader of these lines reads as this, whatever follows.
pub record GetsLine (lines : List Line) (parts : PartsOf Line) (len : ℕ) (old new : State) : Type 0 where
  pub added : List ℕ
  pub bytes : new.bytes ≡ old.bytes ++ added
  pub length : length added ≡ len
  pub reading : LineReading
  pub reads : (more : List ℕ) → read_of lines (added ++ more) ≡ Some reading
  pub same : ◌≡◌ {A = PartsOf Line} (record { row = reading.line; reg = reading.reg; vvvv = reading.vvvv; place = reading.place; imm = reading.imm }) parts

-- `add rax, rdi` by the line REX.W 03 /r
abbrev pub add_rax_rdi : PartsOf Line
add_rax_rdi = record { row = reg_and_rm 0x03; reg = Some (Low 0); vvvv = None; place = Some (Reg (Low 7)); imm = None }
