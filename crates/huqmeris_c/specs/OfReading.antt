use Rattle.std.specs.Prelude.{◌≡◌, ℕ, Option, ℤ, true}
use Rattle.x64_plain.specs.Plain.{plain}
use Rattle.x64_plain.specs.declared.inst.HqInst.{HqInst}
use Rattle.cax64_shortest.specs.LineParts.{line_parts}
use Rattle.x64_core.specs.Core.{core_meant, is_encodable}
use Rattle.x64_core.specs.View.{CoreView}
use Rattle.x64_core.specs.OfReading.{is_bare}
use Rattle.x64_reader.specs.Reading.{line_reading}
use Rattle.x64_reader.specs.declared.reading.CoreReading.{CoreReading}

-- The integers are those of an instruction that is read as this, and that can be encoded, whatever the offsets.
pub record IsInstOf (reading : CoreReading) (inst : HqInst) : Type 0 where
  pub v : CoreView
  pub is : inst ≡ plain v
  pub op : v.op ≡ reading.op.number
  pub means : (offsets : ℕ → Option ℤ) → (core_meant v offsets).parts ≡ line_parts (line_reading reading)
  pub bare : is_bare v.place ≡ true
  pub encodable : (offsets : ℕ → Option ℤ) → is_encodable offsets v ≡ true
