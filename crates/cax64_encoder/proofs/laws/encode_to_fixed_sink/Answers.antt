use Rattle.cax64_encoder.proofs.Instructions.{fixed_takes}
use Rattle.cax64_encoder.proofs.laws.encode_to_fixed_sink.Goals as goal

pub returns-clause-fits : goal.returns-clause-fits
returns-clause-fits g c =
    fixed_takes _ c.args.sink.now c.encode.new.sink c.encode.result c.encode.ensures.adds c.encode.ensures.room
