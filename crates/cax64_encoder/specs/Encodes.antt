use Rattle.std.specs.Prelude.{◌≡◌, ℕ, ◌/◌, ◌%◌, Option, option_map, IfSome, List, [], length, ℤ}
use Rattle.cax64_address.specs.Address.{index_bit, base_bit, displaced_place, target_notices}
use Rattle.cax64_address.specs.Emitted.{TailOf}
use Rattle.cax64_address.specs.declared.amode.Amode.{Amode}
use Rattle.cax64_machine_code.specs.Fields.{IsBytes}
use Rattle.cax64_machine_code.specs.Reading.{Parts}
use Rattle.cax64_machine_code.specs.Sequence.{ReadsAs}
use Rattle.cax64_machine_code.specs.declared.reading.Place.TheVariants.{Reg}
use Rattle.cax64_machine_code.specs.declared.reading.RegView.TheVariants.{Low}
use Rattle.cax64_machine_code.specs.declared.row.Row.{Row}
use Rattle.cax64_operand.specs.Immediate.{imm_size, imm_value}
use Rattle.cax64_sink.specs.Ends.{EndsInBytes}
use Rattle.cax64_sink.specs.Run.{all_bytes, all_notices}
use Rattle.cax64_sink.specs.Call.{Action}
use Rattle.cax64_encoder.specs.Form.{Form}
use Rattle.cax64_encoder.specs.Instruction.{ShortestFor}
use Rattle.cax64_encoder.specs.Meant.{Meant, len, low}
use Rattle.cax64_encoder.specs.Notices.{notices_of}
use Rattle.cax64_encoder.specs.Number.{number_value}
use Rattle.cax64_encoder.specs.Place.{place_read}
use Rattle.cax64_encoder.specs.declared.role.PlaceOperand as place
use Rattle.cax64_encoder.specs.declared.role.PlaceOperand.{PlaceOperand}

-- actions that are the tail of a place, with this number in reg
abbrev pub TailPartOf : {M : Type 0} → (M → ℕ) → ℤ → ℕ → ℕ → PlaceOperand M → List Action → Type 0
TailPartOf enc disp at_end reg place.TheVariants.NoPlace acts = acts ≡ []
TailPartOf enc disp at_end reg (place.TheVariants.Register number) acts = TailOf 0 (number_value number / 8) 1 (reg % 8) (Reg (Low (number_value number))) (λ at. []) acts
TailPartOf enc disp at_end reg (place.TheVariants.Memory amode) acts = TailOf (index_bit enc amode) (base_bit enc amode) 1 (reg % 8) (displaced_place enc disp at_end amode) (target_notices amode) acts

-- Actions that write operands: their bytes read, whatever follows, as these parts; their notices are those of the memory
-- operand; its tail is the shortest.
pub record EncodesParts {M : Type 0} (parts : Parts) (memory : Option (Amode M)) (acts : List Action) : Type 0 where
  pub are_bytes : IsBytes (all_bytes acts)
  pub reads : ReadsAs parts (all_bytes acts)
  pub notices : (at : ℕ) → all_notices acts at ≡ notices_of memory at reads.reading
  pub shortest : ShortestFor memory (all_bytes acts) reads.reading
  pub ends : EndsInBytes acts

-- actions that write an instruction, with as many bytes as it has, and its very bytes where these are fixed
pub record EncodesAs {M : Type 0} (m : Meant M) (acts : List Action) : Type 0 where
  pub written : EncodesParts m.parts m.memory acts
  pub length : length (all_bytes acts) ≡ len m
  pub exact : IfSome m.exact (λ bytes. all_bytes acts ≡ bytes)

-- what a form of a row's shape is read as, with this displacement
abbrev pub form_parts : {M : Type 0} → (M → ℕ) → Row → ℤ → Form M → Parts
form_parts enc row disp form = record {
  row = row;
  reg = option_map low form.reg;
  vvvv = option_map number_value form.vvvv;
  place = place_read enc disp (imm_size form.imm) form.place;
  imm = option_map imm_value form.imm;
}
