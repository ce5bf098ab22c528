use Rattle.std.specs.Prelude.{◌≡◌, ◌&&◌, ℕ, ℤ, Option, IfSome, is_none, is_some, option_map}
use Rattle.cax64_encoder.specs.Fault as fault
use Rattle.cax64_encoder.specs.Meant.{meant_of}
use Rattle.cax64_machine_code.specs.ReadLine.{parts_as}
use Rattle.cax64_machine_code.specs.Rows.{line_of}
use Rattle.cax64_machine_code.specs.declared.row.Row.{Row}
use Rattle.cax64_operand.specs.Family.{Family}
use Rattle.cax64_operand.specs.OperandList.{nop_of}
use Rattle.cax64_operand.specs.Signature.{HasSignature}
use Rattle.cax64_operand.specs.declared.operand.Operands.{Operands}
use Rattle.cax64_table.specs.Packed.{number_of}
use Rattle.x64_core.specs.Core.{core_meant, is_encodable}
use Rattle.x64_core.specs.View.{CoreView, core_view}
use Rattle.x64_core.specs.declared.instruction.Core.{Core}
use Rattle.x64_of_port.specs.Given.{given_of}
use Rattle.x64_of_port.specs.Numbers.{numbered_amode}
use Rattle.x64_of_port.specs.declared.given.Given.{Given}

-- The instruction of the core by what operands give.

-- operands of the row give this
pub record GivenOf {R A B C D E F : Type 0} (f : Family A B C D E F) (row : Row) (o : Operands R A B C D E F) (given : Given) : Type 0 where
  pub is : given ≡ given_of f o
  pub signature : HasSignature row o

-- some such operands give it
abbrev pub Asked : (R : Type 0) → {A B C D E F : Type 0} → Family A B C D E F → Row → Given → Type 0
Asked R {A} {B} {C} {D} {E} {F} f row given = (o : Operands R A B C D E F) × GivenOf f row o given

-- an instruction of the core is what the row means with these operands
pub record IsCoreOf {R A B C D E F : Type 0} (f : Family A B C D E F) (row : Row) (o : Operands R A B C D E F) (v : CoreView) : Type 0 where
  pub op : v.op ≡ number_of row
  pub parts : (offsets : ℕ → Option ℤ) → (core_meant v offsets).parts ≡ parts_as (line_of row) (meant_of f row o offsets).parts
  pub memory : (offsets : ℕ → Option ℤ) → (core_meant v offsets).memory ≡ option_map (λ amode. numbered_amode f.read_gpr amode) (meant_of f row o offsets).memory
  pub encodable : (offsets : ℕ → Option ℤ) → is_encodable offsets v ≡ fault.is_encodable offsets (meant_of f row o offsets)

-- the answer for a sink that knows these offsets: there is one exactly where the operands are no no-operation and can be encoded
pub record Answer {R A B C D E F : Type 0} (f : Family A B C D E F) (offsets : ℕ → Option ℤ) (row : Row) (o : Operands R A B C D E F) (result : Option Core) : Type 0 where
  pub some : is_some result ≡ (is_none (nop_of o) && fault.is_encodable offsets (meant_of f row o offsets))
  pub is : IfSome result (λ core. IsCoreOf f row o (core_view core))

-- whatever operands give this
abbrev pub Answered : (R : Type 0) → {A B C D E F : Type 0} → Family A B C D E F → (ℕ → Option ℤ) → Row → Given → Option Core → Type 0
Answered R {A} {B} {C} {D} {E} {F} f offsets row given result = (o : Operands R A B C D E F) → GivenOf f row o given → Answer f offsets row o result
