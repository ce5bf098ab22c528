use Rattle.std.proofs.Common.{◌∙◌, arith, rules, FitsSigned, w32}
use Rattle.std.proofs.lemmas.Int.{to_z-of_z}
use Rattle.std.proofs.lemmas.Option.{slice_get-get_or}
use Rattle.huqmeris_c.proofs.Behind.{put_more, put_refused}
use Rattle.huqmeris_c.proofs.Plainly.{no_item}
use Rattle.huqmeris_c.proofs.Refusing.{none_at_end}
use Rattle.huqmeris_c.proofs.data_items.put_data.Goals as goal

pub returns-in-Err-clause-refused : goal.returns-in-Err-clause-refused
returns-in-Err-clause-refused c = λ front h.
    let small : FitsSigned w32 c.in-Err.status = search rules in
    put_refused _ front c.args.items.now no_item c.loop-i.i c.in-Err.status _ c.loop-i.buffer (search arith) c.loop-i.invariant.0 (to_z-of_z w32 c.in-Err.status small) (c.loop-i.invariant.1 front h) c.in-Err.ensures.refused

pub loop-i-preserved : goal.loop-i-preserved
loop-i-preserved c = (c.put_datum.ensures.labels ∙ c.loop-i.invariant.0, λ front h. put_more _ front c.args.items.now no_item c.loop-i.i c.loop-i.buffer c.put_datum.new.buffer (search arith) (c.requires c.loop-i.i _ (slice_get-get_or c.args.items.now c.loop-i.i no_item (search arith))) c.loop-i.invariant.0 c.in_default.ensures.put (c.loop-i.invariant.1 front h))

pub returns-clause-tested : goal.returns-clause-tested
returns-clause-tested c = λ front h. none_at_end _ front c.args.items.now c.loop-i.i (search arith) (c.loop-i.invariant.1 front h).1
