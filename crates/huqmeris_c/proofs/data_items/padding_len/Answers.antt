use Rattle.std.proofs.Common.{◌≤◌, ◌^◌, arith}
use Rattle.std.proofs.Math.Pow.{pow_mono}
use Rattle.huqmeris_c.proofs.data_items.padding_len.Goals as goal

pub returns-else-over-eq0-clause-few : goal.returns-else-over-eq0-clause-few
returns-else-over-eq0-clause-few c = let p : 2 ^ c.args.power ≤ 64 = pow_mono {j = 6} c.requires in omega (arith, p)
