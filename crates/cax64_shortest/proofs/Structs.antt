use Rattle.std.proofs.Common.{◌≡◌, ℕ, ◌+◌, ◌≤◌, arith, List, ◌++◌, Option, Some, None, refl, ap, sym, subst, ◌∙◌, length, ℤ, Result, Ok, Err}
use Rattle.std.specs.Prelude.{IfSome, MatchOption, OnOk}
use Rattle.std.proofs.lemmas.List.{length-append}
use Rattle.cax64_machine_code.specs.Fields.{IsBytes}
use Rattle.cax64_machine_code.specs.Len.{len_of}
use Rattle.cax64_machine_code.specs.Reading.{read}
use Rattle.cax64_machine_code.specs.Rows.{line_of}
use Rattle.cax64_machine_code.specs.Sequence.{Same}
use Rattle.cax64_machine_code.specs.declared.reading.Reading.{Reading}
use Rattle.cax64_machine_code.specs.declared.row.Row.{Row}
use Rattle.cax64_operand.specs.Family.{Family}
use Rattle.cax64_operand.specs.NopRow.{nop_row}
use Rattle.cax64_operand.specs.OperandList.{list_of, nop_of}
use Rattle.cax64_operand.specs.Signature.{HasSignature}
use Rattle.cax64_operand.specs.declared.nop.Nop.{Nop}
use Rattle.cax64_operand.specs.declared.nop.Nop.TheVariants.{One, Two, Three, Four, Five, Six, Seven, Eight, Nine}
use Rattle.cax64_operand.specs.declared.operand.Operands.{Operands}
use Rattle.cax64_operand.proofs.Shapes.{has_shape}
use Rattle.cax64_sink.specs.Sink.{State}
use Rattle.cax64_sink.specs.declared.SinkError.{SinkError}
use Rattle.cax64_encoder.specs.Instruction.{AddsInstruction}
use Rattle.cax64_encoder.specs.Meant.{Meant, operands_meant, nop_or, meant_of, len}
use Rattle.cax64_encoder.specs.Nop.{nop_bytes, nop_parts}
use Rattle.cax64_encoder.specs.Role.{roles_of}
use Rattle.cax64_shortest.proofs.Whole.{string_least}

-- an instruction by its row and its operands

-- the no-operations of up to three bytes have as many as their parts
nop_len : (nop : Nop) → length (nop_bytes nop) ≤ 3 → length (nop_bytes nop) ≡ len_of (nop_parts (nop_row nop) nop)
unfolding line_of
nop_len One h = refl
nop_len Two h = refl
nop_len Three h = refl
nop_len Four h = absurd (omega (arith, h))
nop_len Five h = absurd (omega (arith, h))
nop_len Six h = absurd (omega (arith, h))
nop_len Seven h = absurd (omega (arith, h))
nop_len Eight h = absurd (omega (arith, h))
nop_len Nine h = absurd (omega (arith, h))

len_is : {M : Type 0} (row : Row) (nop : Option Nop) (m : Meant M) (S : Type 0) → m.exact ≡ None → MatchOption nop S (λ nop. row ≡ nop_row nop) → IfSome (nop_or row nop m).exact (λ very. length very ≤ 3) → len (nop_or row nop m) ≡ len_of (nop_or row nop m).parts
len_is row None m S e shape h = rw e refl
len_is row (Some nop) m S e shape h = nop_len nop h ∙ ap (λ (r : Row). len_of (nop_parts r nop)) (sym shape)

-- no string of bytes that is read as the instruction is shorter
pub shortest : {R A B C D E F : Type 0} (f : Family A B C D E F) (row : Row) (operands : Operands R A B C D E F) (offsets : ℕ → Option ℤ) (bytes : List ℕ) (reading : Reading) → HasSignature row operands → IfSome (meant_of f row operands offsets).exact (λ very. length very ≤ 3) → IsBytes bytes → read bytes ≡ Some reading → Same reading (meant_of f row operands offsets).parts → len (meant_of f row operands offsets) ≤ length bytes
shortest f row operands offsets bytes reading signature short hb h same =
    let is = len_is row (nop_of operands) (operands_meant f.read_gpr row (roles_of f (list_of operands)) offsets) _ refl (has_shape row operands signature) short in
    let least = string_least (meant_of f row operands offsets).parts bytes reading hb h same in
    rw is least

-- the same of what is meant by row and operands
pub meant_shortest : {R A B C D E F : Type 0} (f : Family A B C D E F) (row : Row) (operands : Operands R A B C D E F) (offsets : ℕ → Option ℤ) (meant : Meant A) (bytes : List ℕ) (reading : Reading) → meant ≡ meant_of f row operands offsets → HasSignature row operands → IfSome meant.exact (λ very. length very ≤ 3) → IsBytes bytes → read bytes ≡ Some reading → Same reading meant.parts → len meant ≤ length bytes
meant_shortest {A = A} f row operands offsets meant bytes reading e =
    let P : Meant A → Type 0 = λ m. HasSignature row operands → IfSome m.exact (λ very. length very ≤ 3) → IsBytes bytes → read bytes ≡ Some reading → Same reading m.parts → len m ≤ length bytes in
    subst P (sym e) (shortest f row operands offsets bytes reading)

-- what was added has as many bytes as the instruction has
pub added_shortest : {M : Type 0} (m : Meant M) (old new : State) (result : Result (Unit {0}) SinkError) → OnOk result (AddsInstruction m old new) → ((bytes : List ℕ) (reading : Reading) → IsBytes bytes → read bytes ≡ Some reading → Same reading m.parts → len m ≤ length bytes) → OnOk result ((bytes : List ℕ) (reading : Reading) → IsBytes bytes → read bytes ≡ Some reading → Same reading m.parts → length new.bytes ≤ length old.bytes + length bytes)
added_shortest m old new (Err e) adds least = tt
added_shortest m old new (Ok tt) adds least = λ bytes reading hb h same.
    let most = least bytes reading hb h same in
    let all : length new.bytes ≡ length (old.bytes ++ adds.added) = ap length adds.bytes in
    let is = adds.length in
    omega (arith, most, all, is, length-append old.bytes adds.added)
