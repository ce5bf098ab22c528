use Rattle.std.proofs.Common.{◌≡◌, ℕ, refl, sym, ap, ◌∙◌, true, false, Option, Some, None, ℤ}
use Rattle.std.specs.Prelude.{◌&&◌, IsSome, is_none, option_map}
use Rattle.cax64_address.specs.declared.amode.Amode.{Amode}
use Rattle.cax64_encoder.specs.EncodesLine.{line_notices_of}
use Rattle.cax64_encoder.specs.Fault.{fault_of_meant, is_encodable}
use Rattle.cax64_encoder.specs.Meant.{Meant, meant_of, nop_or, operands_meant}
use Rattle.cax64_encoder.specs.Role.{roles_of}
use Rattle.cax64_encoder.specs.declared.fault.Fault.{Fault}
use Rattle.cax64_encoder.proofs.Faults.{no_fault}
use Rattle.cax64_machine_code.specs.ReadLine.{LineReading}
use Rattle.cax64_machine_code.specs.declared.row.Row.{Row}
use Rattle.cax64_operand.specs.Family.{Family}
use Rattle.cax64_operand.specs.OperandList.{list_of, nop_of}
use Rattle.cax64_operand.specs.Signature.{HasSignature}
use Rattle.cax64_operand.specs.declared.nop.Nop.{Nop}
use Rattle.cax64_operand.specs.declared.operand.Operands.{Operands}
use Rattle.cax64_sink.specs.Sink.{State}
use Rattle.x64_core.specs.Core.{core_meant}
use Rattle.x64_core.specs.View.{core_view}
use Rattle.x64_core.specs.declared.instruction.Core.{Core}
use Rattle.x64_of_port.specs.Given.{given_of}
use Rattle.x64_of_port.specs.NotCore.{not_core}
use Rattle.x64_of_port.specs.Task.{Answered, IsCoreOf}
use Rattle.x64_of_port.specs.declared.refused.NotCore.{NotCore}
use Rattle.x64_of_port.specs.declared.refused.NotCore.TheVariants as variants
use Rattle.x64_of_port.proofs.Named.{notices_same}

-- Whether there is an instruction of the core, and why not.

none_of : (fault : Option Fault) → is_none fault ≡ true → fault ≡ None
none_of None h = refl
none_of (Some fault) h = cc

there : (fault : Option Fault) → is_none fault ≡ false → IsSome (option_map (λ fault. variants.Fault fault) fault)
there None h = cc
there (Some fault) h = refl

module _ {M : Type 0} (state : State) (row : Row) (m : Meant M) (plain : m.exact ≡ None) where
  abbrev meant : Option Nop → Meant M
  meant nop = nop_or row nop m

  abbrev why : Option Nop → Option NotCore
  why nop = not_core state (λ offsets. meant nop)

  why_is : why None ≡ option_map (λ fault. variants.Fault fault) (fault_of_meant state.offsets m)
  why_is = rw plain refl

  taken : (nop : Option Nop) → true ≡ (is_none nop && is_encodable state.offsets (meant nop)) → why nop ≡ None
  taken None h = why_is ∙ ap (λ (fault : Option Fault). option_map (λ fault. variants.Fault fault) fault) (none_of (fault_of_meant state.offsets m) (no_fault state.offsets m.visited m.memory ∙ sym h))
  taken (Some nop) h = cc

  refused : (nop : Option Nop) → false ≡ (is_none nop && is_encodable state.offsets (meant nop)) → IsSome (why nop)
  refused None h =
      let k : IsSome (option_map (λ fault. variants.Fault fault) (fault_of_meant state.offsets m)) = there (fault_of_meant state.offsets m) (no_fault state.offsets m.visited m.memory ∙ sym h) in
      rw why_is k
  refused (Some nop) h = refl

-- By what was answered of operands of a row.
module _ {R A B C D E F : Type 0} (f : Family A B C D E F) (row : Row) (o : Operands R A B C D E F) (signature : HasSignature row o) (state : State) where
  abbrev roles_meant : Meant A
  roles_meant = operands_meant f.read_gpr row (roles_of f (list_of o)) state.offsets

  pub taken_by : (core : Core) → Answered R f state.offsets row (given_of f o) (Some core) → not_core state (λ offsets. meant_of f row o offsets) ≡ None
  taken_by core h = taken state row roles_meant refl (nop_of o) (h o (record { is = refl; signature = signature })).some

  pub refused_by : Answered R f state.offsets row (given_of f o) None → IsSome (not_core state (λ offsets. meant_of f row o offsets))
  refused_by h = refused state row roles_meant refl (nop_of o) (h o (record { is = refl; signature = signature })).some

  pub tells_by : (core : Core) → Answered R f state.offsets row (given_of f o) (Some core) → (offsets : ℕ → Option ℤ) (at : ℕ) (reading : LineReading) → line_notices_of (core_meant (core_view core) offsets).memory at reading ≡ line_notices_of (meant_of f row o offsets).memory at reading
  tells_by core h offsets at reading =
      let is : IsCoreOf f row o (core_view core) = (h o (record { is = refl; signature = signature })).is in
      ap (λ (memory : Option (Amode ℕ)). line_notices_of memory at reading) (is.memory offsets) ∙ notices_same f.read_gpr (meant_of f row o offsets).memory at reading
