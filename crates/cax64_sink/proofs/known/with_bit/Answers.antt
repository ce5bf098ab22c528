use Rattle.std.specs.Int.{w64}
use Rattle.std.proofs.lemmas.Nat.Bits.{bit_at_set_same, bit_at_set_other}
use Rattle.cax64_sink.proofs.known.with_bit.Goals as goal

pub returns-clause-set : goal.returns-clause-set
returns-clause-set c = bit_at_set_same w64 c.args.word c.args.at c.requires

pub returns-clause-others : goal.returns-clause-others
returns-clause-others c = bit_at_set_other w64 c.args.word c.args.at c.requires
