use Rattle.client.proofs.Readings.{all_read}
use Rattle.client.proofs.read_back.rows_of_code.Goals as goal

pub read_rows-requires : goal.read_rows-requires
read_rows-requires g c = all_read _ c.args.insts.now _ _ c.requires.empty c.in_default.ensures.adds
