-- How the registers of one user of the assembler print.
use Rattle.std.specs.Prelude.{ℕ, Bool, List, Option}
use Rattle.cax64_register.specs.declared.gpr.Size.{Size}

-- How registers of one type print: which have a text, and what it is.
pub record Printed (R : Type 0) : Type 0 where
  pub nameable : R → Bool
  pub text : R → Option Size → List ℕ

abbrev pub printed : {R : Type 0} → (R → Bool) → (R → Option Size → List ℕ) → Printed R
printed nameable text = record { nameable = nameable; text = text }

pub record Names (A B C D E F : Type 0) : Type 0 where
  pub read_gpr : Printed A
  pub read_write_gpr : Printed B
  pub write_gpr : Printed C
  pub read_xmm : Printed D
  pub read_write_xmm : Printed E
  pub write_xmm : Printed F

abbrev pub names_of : {A B C D E F : Type 0} → Printed A → Printed B → Printed C → Printed D → Printed E → Printed F → Names A B C D E F
names_of read_gpr read_write_gpr write_gpr read_xmm read_write_xmm write_xmm = record {
  read_gpr = read_gpr;
  read_write_gpr = read_write_gpr;
  write_gpr = write_gpr;
  read_xmm = read_xmm;
  read_write_xmm = read_write_xmm;
  write_xmm = write_xmm;
}
