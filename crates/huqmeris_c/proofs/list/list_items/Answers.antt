use Rattle.std.proofs.Common.{rules, arith, FitsSigned, w32}
use Rattle.std.proofs.lemmas.Int.{to_z-of_z}
use Rattle.huqmeris_c.proofs.Made.{either_none}
use Rattle.huqmeris_c.proofs.Plainly.{no_item}
use Rattle.huqmeris_c.proofs.list.list_items.Goals as goal

pub returns-in-Err-clause-refused : goal.returns-in-Err-clause-refused
returns-in-Err-clause-refused c =
    let small : FitsSigned w32 c.in-Err.status = search rules in
    either_none c.args.items.now c.loop-i.list.items no_item c.loop-i.i c.in-Err.status _ (search arith) c.loop-i.invariant (to_z-of_z w32 c.in-Err.status small) c.in-Err.ensures.refused
