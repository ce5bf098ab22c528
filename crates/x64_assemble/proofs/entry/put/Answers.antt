use Rattle.std.proofs.Common.{refl}
use Rattle.cax64_encoder.specs.Notices.{memory_notices}
use Rattle.cax64_sink.specs.Sink.{State}
use Rattle.x64_code_buffer.specs.Buffer.{buffer_state, places_of}
use Rattle.x64_assemble.proofs.Steps.{given_ok, got_inst, line_fits}
use Rattle.x64_assemble.proofs.entry.put.Goals as goal

pub push-requires : goal.push-requires
push-requires g c = line_fits (buffer_state c.args.buffer.now).offsets (g.I.Encode.line_meant c.args.inst.now (buffer_state c.args.buffer.now).offsets) c.requires.fits

pub returns-clause-got : goal.returns-clause-got
returns-clause-got g c =
    let s : State = buffer_state c.args.buffer.now in
    let t : State = buffer_state c.push.new.self in
    let m = g.I.Encode.line_meant c.args.inst.now s.offsets in
    let put = c.push.ensures in
    let ok = c.unwrap.ensures in
    got_inst m (memory_notices m.memory) s t (places_of c.args.buffer.now) (places_of c.push.new.self) refl (given_ok c.push.result _ ok put.relative) (g.met.I.Encode.adds_meant c.args.inst.now s t (given_ok c.push.result _ ok put.adds)) put.places put.keeps put.byte_room put.notice_room put.most_notices
    (λ pieces h. given_ok c.push.result _ ok (put.laid pieces h))
