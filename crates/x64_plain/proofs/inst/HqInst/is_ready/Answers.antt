use Rattle.std.proofs.Common.{◌∙◌}
use Rattle.x64_plain.proofs.Ready.{ready_is}
use Rattle.x64_plain.proofs.inst.HqInst.is_ready.Goals as goal

pub returns : goal.returns
returns c = c.is_within.ensures ∙ ready_is c.args.fields c.args.kind c.args.self.now _ _ _ c.fields_number.ensures.is c.from.ensures c.requires
