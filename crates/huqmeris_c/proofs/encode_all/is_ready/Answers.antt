use Rattle.std.proofs.Common.{refl}
use Rattle.huqmeris_c.specs.Encodes.{no_offsets}
use Rattle.huqmeris_c.proofs.Coded.{faultless}
use Rattle.huqmeris_c.proofs.encode_all.is_ready.Goals as goal
use Rattle.x64_core.specs.Core.{core_len, core_notices}
use Rattle.x64_core.specs.View.{core_view}

pub returns-clause-sized : goal.returns-clause-sized
returns-clause-sized c = λ _. record {
  bytes = core_len no_offsets (core_view c.encodable_core.result);
  uses = core_notices (core_view c.encodable_core.result);
  size = record {
    core = c.encodable_core.result;
    is = c.encodable_core.ensures.is;
    sound = faultless (core_view c.encodable_core.result) c.encodable_core.ensures.encodable;
    len = refl;
    count = refl;
    most = c.len_is_at_most_13.ensures c.encodable_core.result no_offsets;
  };
}
