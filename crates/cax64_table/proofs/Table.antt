use Rattle.std.proofs.Common.{◌≡◌, ◌<◌, refl, slice_index}
use Rattle.std.proofs.lemmas.Bool.{ltb-true}
use Rattle.std.specs.Prelude.{true, nat_lt}
use Rattle.cax64_machine_code.specs.declared.row.Row.{Row}
use Rattle.cax64_machine_code.specs.declared.row.Row.TheVariants.{lock_addb_mi}
use Rattle.cax64_machine_code.specs.Rows.{line_of}
use Rattle.cax64_table.specs.Packed.{unpacked, number_of}
use Rattle.cax64_table.specs.declared.packed.TheConstants.{TABLE}

-- each entry is the line of the row in its place
pub entry_is : (row : Row) → unpacked (slice_index TABLE (number_of row)) ≡ line_of row
unfolding line_of number_of
entry_is lock_addb_mi = refl
entry_is _ = refl

-- table/write.py: number
below : (row : Row) → nat_lt (number_of row) 158 ≡ true
unfolding number_of
below lock_addb_mi = refl
below _ = refl

pub number_below : (row : Row) → number_of row < 158
number_below row = ltb-true (number_of row) 158 (below row)

-- table/write.py: end
