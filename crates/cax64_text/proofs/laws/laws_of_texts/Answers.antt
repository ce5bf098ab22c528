use Rattle.cax64_text.proofs.PrintedAlike.{alike}
use Rattle.cax64_text.proofs.laws.laws_of_texts.Goals as goal

pub returns : goal.returns
returns g c = alike g.R.AsReg.enc
