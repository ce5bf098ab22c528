use Rattle.std.proofs.Common.{◌∙◌, ap, sym}
use Rattle.cax64_encoder.specs.Place.{memory_in}
use Rattle.x64_plain.specs.Plain.{place_of}
use Rattle.x64_plain.specs.Told.{told_at}
use Rattle.x64_plain.specs.declared.inst.HqInst.{HqInst}
use Rattle.huqmeris_c.specs.Listed.{use_list}
use Rattle.huqmeris_c.proofs.Coded.{encodable_by}
use Rattle.huqmeris_c.proofs.Listing.{use_tells}
use Rattle.huqmeris_c.proofs.Middle.{middle_put}
use Rattle.huqmeris_c.proofs.encode_all.put_behind.Goals as goal
use Rattle.x64_core.specs.View.{core_view}

pub put_encodable-behind-requires-clause-encodable : goal.put_encodable-behind-requires-clause-encodable
put_encodable-behind-requires-clause-encodable c = encodable_by (core_view c.args.core.now) c.requires.sound

pub returns : goal.returns
returns c =
    let put = c.put_encodable-behind in
    let v = core_view c.args.core.now in
    let is = ap (λ (i : HqInst). told_at (place_of i) put.result.0) (sym c.requires.same) ∙ put.ensures.tells in
    let tells = use_tells (memory_in v.place) c.args.at put.ensures.adds.line.reads.reading c.use_of.result (told_at (place_of c.args.inst.now) put.result.0) c.use_of.ensures.none c.use_of.ensures.some is in
    middle_put v c.args.at c.args.code.now c.copy_from_slice.new.self _ put.new.code put.result.0 put.result.1 c.from-size.result (use_list c.use_of.result) c.copy_from_slice.ensures.after c.from-size.ensures put.ensures tells
