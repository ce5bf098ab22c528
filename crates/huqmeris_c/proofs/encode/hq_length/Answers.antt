use Rattle.std.proofs.Common.{◌∙◌, refl, ap}
use Rattle.x64_plain.proofs.Views.{same_view}
use Rattle.huqmeris_c.specs.Encodes.{no_offsets}
use Rattle.huqmeris_c.proofs.Coded.{no_fault_of}
use Rattle.huqmeris_c.proofs.encode.hq_length.Goals as goal
use Rattle.x64_core.specs.Core.{core_len}
use Rattle.x64_core.specs.View.{CoreView}

pub returns-in-Some-clause-length : goal.returns-in-Some-clause-length
returns-in-Some-clause-length c = λ other h.
    let core = c.in-Some.core in
    let is = c.in-Some.ensures.is in
    rw (no_fault_of c.args.inst.now core other is c.in-Some.ensures.encodable h) (refl, c.from.ensures ∙ c.encoded_len.ensures.value ∙ ap (λ (v : CoreView). core_len no_offsets v) (same_view c.args.inst.now core other is h))
