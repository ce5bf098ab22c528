use Rattle.std.specs.Prelude.{ℕ, ◌==◌, if◌then◌else◌, Option, Some, None, option_map, ℤ}
use Rattle.cax64_machine_code.specs.declared.reading.Place.{Place}
use Rattle.cax64_machine_code.specs.declared.reading.Place.TheVariants.{Reg, Mem, Rip}
use Rattle.cax64_machine_code.specs.declared.reading.RegView.{RegView}
use Rattle.cax64_machine_code.specs.declared.reading.RegView.TheVariants.{Low, High}
use Rattle.x64_plain.specs.declared.reading.HqReading.{HqReading}
use Rattle.x64_plain.specs.declared.reading.PlacePart.{PlacePart}
use Rattle.x64_plain.specs.declared.reading.RestPart.{RestPart}
use Rattle.x64_plain.specs.declared.reading.TheConstants.{HQ_READ_HIGH_BYTE, HQ_READ_MEMORY, HQ_READ_REGISTER, HQ_READ_RELATIVE}

-- What the integers of a reading name.

abbrev pub view_named : ℕ → ℕ → Option RegView
view_named kind number = if kind == HQ_READ_REGISTER then Some (Low number) else (if kind == HQ_READ_HIGH_BYTE then Some (High number) else None)

abbrev pub number_named : ℕ → ℕ → Option ℕ
number_named stands number = if stands == 1 then Some number else None

abbrev pub index_named : ℕ → ℕ → ℕ → Option (ℕ × ℕ)
index_named stands index factor = if stands == 1 then Some (index, factor) else None

abbrev pub imm_named : ℕ → ℤ → Option ℤ
imm_named stands imm = if stands == 1 then Some imm else None

abbrev pub part_named : PlacePart → Option Place
part_named p =
    if p.kind == HQ_READ_MEMORY
    then Some (Mem (number_named p.has_base p.base) (index_named p.has_index p.index p.factor) p.disp)
    else (if p.kind == HQ_READ_RELATIVE then Some (Rip p.disp) else option_map Reg (view_named p.kind p.base))

abbrev pub part_in : HqReading → PlacePart
part_in r = record { kind = r.place_kind; has_base = r.has_base; base = r.base; has_index = r.has_index; index = r.index; factor = r.factor; disp = r.disp }

abbrev pub rest_in : HqReading → RestPart
rest_in r = record { imm = r.imm; line = r.line; length = r.length; tail = r.tail; reg_kind = r.reg_kind; reg = r.reg; has_vvvv = r.has_vvvv; vvvv = r.vvvv; has_imm = r.has_imm; reserved = r.reserved; reserved_word = r.reserved_word }
