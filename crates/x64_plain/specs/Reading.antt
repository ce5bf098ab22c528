use Rattle.std.specs.Prelude.{◌≡◌, ℕ, Option, Some, None, is_some, ℤ, pos}
use Rattle.std.specs.Int.{from_bool}
use Rattle.cax64_machine_code.specs.ReadLine.{LineReading}
use Rattle.cax64_machine_code.specs.declared.reading.Place.{Place}
use Rattle.cax64_machine_code.specs.declared.reading.Place.TheVariants.{Reg, Mem, Rip}
use Rattle.cax64_machine_code.specs.declared.reading.RegView.{RegView}
use Rattle.cax64_machine_code.specs.declared.reading.RegView.TheVariants.{Low, High}
use Rattle.x64_plain.specs.Plain.{or_0}
use Rattle.x64_plain.specs.declared.reading.HqReading.{HqReading}
use Rattle.x64_plain.specs.declared.reading.PlacePart.{PlacePart}
use Rattle.x64_plain.specs.declared.reading.TheConstants.{HQ_READ_HIGH_BYTE, HQ_READ_MEMORY, HQ_READ_NOTHING, HQ_READ_REGISTER, HQ_READ_RELATIVE}
use Rattle.x64_lines.specs.Line.{core_line}

-- What was read, in integers. What isn't there is 0.

abbrev pub view_kind : RegView → ℕ
view_kind (Low number) = HQ_READ_REGISTER
view_kind (High number) = HQ_READ_HIGH_BYTE

abbrev pub view_number : RegView → ℕ
view_number (Low number) = number
view_number (High number) = number

abbrev pub index_of : Option (ℕ × ℕ) → ℕ
index_of None = 0
index_of (Some index) = index.0

abbrev pub factor_of : Option (ℕ × ℕ) → ℕ
factor_of None = 0
factor_of (Some index) = index.1

abbrev pub part_of : Option Place → PlacePart
part_of None = record { kind = HQ_READ_NOTHING; has_base = 0; base = 0; has_index = 0; index = 0; factor = 0; disp = pos 0 }
part_of (Some (Reg view)) = record { kind = view_kind view; has_base = 0; base = view_number view; has_index = 0; index = 0; factor = 0; disp = pos 0 }
part_of (Some (Mem base index disp)) = record {
  kind = HQ_READ_MEMORY;
  has_base = from_bool (is_some base);
  base = or_0 base;
  has_index = from_bool (is_some index);
  index = index_of index;
  factor = factor_of index;
  disp = disp;
}
part_of (Some (Rip disp)) = record { kind = HQ_READ_RELATIVE; has_base = 0; base = 0; has_index = 0; index = 0; factor = 0; disp = disp }

abbrev pub reg_kind : Option RegView → ℕ
reg_kind None = HQ_READ_NOTHING
reg_kind (Some view) = view_kind view

abbrev pub reg_number : Option RegView → ℕ
reg_number None = 0
reg_number (Some view) = view_number view

abbrev pub imm_of : Option ℤ → ℤ
imm_of None = pos 0
imm_of (Some imm) = imm

-- of a reading by the line of this number
abbrev pub plain_reading : ℕ → LineReading → HqReading
plain_reading number reading = record {
  imm = imm_of reading.imm;
  disp = (part_of reading.place).disp;
  line = number;
  length = reading.length;
  tail = reading.tail;
  reg_kind = reg_kind reading.reg;
  reg = reg_number reading.reg;
  has_vvvv = from_bool (is_some reading.vvvv);
  vvvv = or_0 reading.vvvv;
  place_kind = (part_of reading.place).kind;
  has_base = (part_of reading.place).has_base;
  base = (part_of reading.place).base;
  has_index = (part_of reading.place).has_index;
  index = (part_of reading.place).index;
  factor = (part_of reading.place).factor;
  has_imm = from_bool (is_some reading.imm);
  reserved = 0;
  reserved_word = 0;
}

-- The integers are those of a reading, and the number among them is that of its line.
pub record IsReading (reading : LineReading) (plain : HqReading) : Type 0 where
  pub line : core_line plain.line ≡ reading.line
  pub is : plain ≡ plain_reading plain.line reading
