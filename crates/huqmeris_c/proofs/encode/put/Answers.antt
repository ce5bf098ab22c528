use Rattle.std.proofs.Common.{◌∙◌, ap, sym}
use Rattle.x64_plain.specs.Plain.{place_of}
use Rattle.x64_plain.specs.Told.{told_at}
use Rattle.x64_plain.specs.declared.inst.HqInst.{HqInst}
use Rattle.huqmeris_c.proofs.Coded.{whole_done}
use Rattle.huqmeris_c.proofs.encode.put.Goals as goal
use Rattle.x64_core.specs.View.{core_view}

pub returns : goal.returns
returns c =
    let put = c.put_encodable-behind in
    let heard = c.of_inst.ensures.is ∙ ap (λ (i : HqInst). told_at (place_of i) put.result.0) (sym c.requires) in
    rw c.from.ensures (whole_done (core_view c.args.core.now) c.args.code.now c.copy_from_slice.new.self _ put.new.code put.result.0 put.result.1 c.from-size.result c.args.len.now c.args.told.now c.of_inst.result (sym c.in_default.ensures.fault) c.from-size.ensures c.if-code-size.false c.copy_from_slice.ensures.after put.ensures heard)
