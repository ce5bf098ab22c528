use Rattle.std.proofs.Common.{◌≡◌, ◌≤◌, arith, length, refl, true}
use Rattle.std.proofs.lemmas.Bool.Decides.{nat_tests}
use Rattle.cax64_machine_code.specs.Rows.{line_of}
use Rattle.cax64_machine_code.specs.declared.row.Row.{Row}
use Rattle.cax64_machine_code.specs.declared.row.Row.TheVariants.{lock_addb_mi}
use Rattle.cax64_operand.proofs.Taken.{line_takes, is_few}
use Rattle.cax64_operand.specs.Signature.{signature_of}

-- each row's line takes its signature
pub row_takes : (row : Row) → line_takes (line_of row) (signature_of row) ≡ true
unfolding line_of signature_of
row_takes lock_addb_mi = refl
row_takes _ = refl

row_is_few : (row : Row) → is_few (signature_of row) ≡ true
unfolding signature_of
row_is_few lock_addb_mi = refl
row_is_few _ = refl

-- a signature is of five operands at most
pub few_in_signature : (row : Row) → length (signature_of row) ≤ 5
few_in_signature row = grind (arith, nat_tests, row_is_few row)
