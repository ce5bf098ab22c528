use Rattle.cax64_sequence.proofs.Lists.{fixed_takes_all, fixed_takes_front, full_error}
use Rattle.cax64_sequence.proofs.laws.encode_each_to_fixed_sink.Goals as goal

pub returns-clause-fits : goal.returns-clause-fits
returns-clause-fits g c =
    let call = c.encode_each in
    fixed_takes_all _ c.args.insts.now c.args.sink.now call.new.sink call.result call.ensures.adds call.ensures.leaves call.ensures.room

pub returns-clause-whole : goal.returns-clause-whole
returns-clause-whole g c =
    let call = c.encode_each in
    fixed_takes_front _ c.args.insts.now c.args.sink.now call.new.sink call.result call.ensures.leaves call.ensures.room

pub returns-clause-error : goal.returns-clause-error
returns-clause-error g c = full_error c.encode_each.result c.encode_each.ensures.error
