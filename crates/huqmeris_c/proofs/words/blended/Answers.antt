use Rattle.huqmeris_c.proofs.Blends.{blended_bytes}
use Rattle.huqmeris_c.proofs.words.blended.Goals as goal

pub returns : goal.returns
returns c = blended_bytes c.args.count c.args.word c.args.other c.requires c.ranges.other.fits
