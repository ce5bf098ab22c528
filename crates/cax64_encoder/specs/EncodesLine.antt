use Rattle.std.specs.Prelude.{◌≡◌, ◌+◌, ◌-◌, ℕ, Option, Some, None, option_map, List, [], ◌∷◌, ℤ}
use Rattle.cax64_address.specs.declared.amode.Amode.{Amode}
use Rattle.cax64_address.specs.declared.amode.Amode.TheVariants.{ImmReg, ImmRegRegShift, RipRelative}
use Rattle.cax64_machine_code.specs.Fields.{IsBytes}
use Rattle.cax64_machine_code.specs.Line.{imm_bytes}
use Rattle.cax64_machine_code.specs.Reading.{PartsOf}
use Rattle.cax64_machine_code.specs.ReadLine.{LineReading, ReadsLineAs, HasShortestLineTail}
use Rattle.cax64_machine_code.specs.declared.line.Line.{Line}
use Rattle.cax64_operand.specs.Immediate.{imm_size, imm_value}
use Rattle.cax64_sink.specs.Ends.{EndsInBytes}
use Rattle.cax64_sink.specs.Run.{all_bytes, all_notices}
use Rattle.cax64_sink.specs.Call.{Action}
use Rattle.cax64_sink.specs.declared.Notice.{Notice}
use Rattle.cax64_sink.specs.declared.Notice.TheVariants.{Target}
use Rattle.cax64_encoder.specs.Form.{Form}
use Rattle.cax64_encoder.specs.Meant.{low}
use Rattle.cax64_encoder.specs.Notices.{trap_notice}
use Rattle.cax64_encoder.specs.Number.{number_value}
use Rattle.cax64_encoder.specs.Place.{place_read}

-- What is encoded by a line, of whatever table.

-- the notices of a memory operand, as `notices_of`
abbrev pub line_notices_of : {M : Type 0} → Option (Amode M) → ℕ → LineReading → List Notice
line_notices_of None at reading = []
line_notices_of (Some (ImmReg base simm32 trap)) at reading = trap_notice trap at
line_notices_of (Some (ImmRegRegShift base index scale simm32 trap)) at reading = trap_notice trap at
line_notices_of (Some (RipRelative target)) at reading = Target (at + (reading.length - reading.tail - imm_bytes reading.line.imm) + 1) target ∷ []

abbrev pub ShortestLineFor : {M : Type 0} → Option (Amode M) → List ℕ → LineReading → Type 0
ShortestLineFor None bytes reading = Unit {0}
ShortestLineFor (Some amode) bytes reading = HasShortestLineTail bytes reading

-- Actions that write operands by a line: their bytes read by it, whatever follows, as these parts; their notices are those
-- of the memory operand; its tail is the shortest.
pub record EncodesLine {M : Type 0} (parts : PartsOf Line) (memory : Option (Amode M)) (acts : List Action) : Type 0 where
  pub are_bytes : IsBytes (all_bytes acts)
  pub reads : ReadsLineAs parts (all_bytes acts)
  pub notices : (at : ℕ) → all_notices acts at ≡ line_notices_of memory at reads.reading
  pub shortest : ShortestLineFor memory (all_bytes acts) reads.reading
  pub ends : EndsInBytes acts

-- what a form of a line's shape is read as, with this displacement
abbrev pub line_form_parts : {M : Type 0} → (M → ℕ) → Line → ℤ → Form M → PartsOf Line
line_form_parts enc line disp form = record {
  row = line;
  reg = option_map low form.reg;
  vvvv = option_map number_value form.vvvv;
  place = place_read enc disp (imm_size form.imm) form.place;
  imm = option_map imm_value form.imm;
}
