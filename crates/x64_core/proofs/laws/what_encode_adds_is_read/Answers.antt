use Rattle.x64_core.proofs.ReadAs.{put_is_read}
use Rattle.x64_core.proofs.laws.what_encode_adds_is_read.Goals as goal

pub returns : goal.returns
returns c = put_is_read c.args.core.now
