use Rattle.std.specs.Prelude.{ℕ, ◌+◌, ◌≤◌, List, length}
use Rattle.cax64_machine_code.specs.declared.line.ImmField.{ImmField}
use Rattle.cax64_machine_code.specs.declared.line.ImmField.TheVariants.{NoImm, Imm, Simm}

-- How many bytes the parts of an instruction have at most.

-- what follows is no longer than all, and shorter by so many at most
pub record Within (all rest : List ℕ) (most : ℕ) : Type 0 where
  pub part : length rest ≤ length all
  pub close : length all ≤ length rest + most

-- an immediate has one to four bytes
abbrev pub HasSize : ImmField → Type 0
HasSize NoImm = Unit {0}
HasSize (Imm size) = (1 ≤ size) × (size ≤ 4)
HasSize (Simm size) = (1 ≤ size) × (size ≤ 4)
