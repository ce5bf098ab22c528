use Rattle.cax64_address.proofs.Bits.{joined}
use Rattle.cax64_address.proofs.disp.encode_modrm.Goals as goal

pub returns : goal.returns
returns c = joined c.args.m0d c.args.enc_reg_g c.args.rm_e c.requires.m0d c.requires.reg c.requires.rm
