use Rattle.std.proofs.Common.{◌≡◌, false, take}
use Rattle.huqmeris_c.specs.Items.{has_data}
use Rattle.huqmeris_c.proofs.data_items.code_len.Given as goal

abbrev pub invariant-loop-i : goal.invariant-loop-i
invariant-loop-i l = has_data (take l.i l.fn.items) ≡ false
