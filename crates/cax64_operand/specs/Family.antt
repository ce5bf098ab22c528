use Rattle.std.specs.Prelude.{Bool, ℕ}

-- How a type of registers is numbered: which are settled, and their hardware numbers.
pub record Numbering (R : Type 0) : Type 0 where
  pub settled : R → Bool
  pub enc : R → ℕ

abbrev pub numbering : {R : Type 0} → (R → Bool) → (R → ℕ) → Numbering R
numbering settled enc = record { settled = settled; enc = enc }

-- The register types of one user of the assembler, and which written general registers compare equal.
pub record Family (A B C D E F : Type 0) : Type 0 where
  pub read_gpr : Numbering A
  pub read_write_gpr : Numbering B
  pub write_gpr : Numbering C
  pub read_xmm : Numbering D
  pub read_write_xmm : Numbering E
  pub write_xmm : Numbering F
  pub same_write_gpr : C → C → Bool

abbrev pub family_of : {A B C D E F : Type 0} → Numbering A → Numbering B → Numbering C → Numbering D → Numbering E → Numbering F → (C → C → Bool) → Family A B C D E F
family_of read_gpr read_write_gpr write_gpr read_xmm read_write_xmm write_xmm same_write_gpr = record {
  read_gpr = read_gpr;
  read_write_gpr = read_write_gpr;
  write_gpr = write_gpr;
  read_xmm = read_xmm;
  read_write_xmm = read_write_xmm;
  write_xmm = write_xmm;
  same_write_gpr = same_write_gpr;
}
