use Rattle.std.proofs.Common.{◌∙◌, sym, ap}
use Rattle.x64_plain.specs.Plain.{place_of}
use Rattle.x64_plain.specs.Told.{told_at}
use Rattle.x64_plain.specs.declared.inst.HqInst.{HqInst}
use Rattle.x64_plain.proofs.Views.{same_view}
use Rattle.huqmeris_c.proofs.Coded.{put_code_done}
use Rattle.huqmeris_c.proofs.encode.hq_encode.Goals as goal
use Rattle.x64_core.specs.View.{core_view}

pub returns-in-Some-clause-puts : goal.returns-in-Some-clause-puts
returns-in-Some-clause-puts c = λ other h.
    let core = c.in-Some.core in
    let put = c.put_encodable-behind in
    rw c.from.ensures (put_code_done (core_view core) (core_view other) c.args.code.now put.new.code put.result.0 put.result.1 c.args.len.now c.of_inst.result c.args.told.now (same_view c.args.inst.now core other c.in-Some.ensures.is h) c.in-Some.ensures.encodable c.if-code-ge16.true put.ensures (c.of_inst.ensures.is ∙ ap (λ (i : HqInst). told_at (place_of i) put.result.0) (sym c.in-Some.ensures.is)))
