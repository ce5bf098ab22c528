use Rattle.std.proofs.Common.{◌≡◌, ◌∙◌, FitsSigned, w32, rules, refl, length}
use Rattle.std.proofs.lemmas.Int.{to_z-of_z}
use Rattle.cax64_sink.specs.Run.{all_bytes}
use Rattle.cax64_sink.proofs.Ends.{ran_keeps}
use Rattle.cax64_address.specs.Emitted.{PutsTail, tail_actions}
use Rattle.cax64_address.specs.OperandTail.{TailMeant, tail_meant, tail_length}
use Rattle.cax64_address.proofs.Emitted.{run_adds, run_address, run_leaves, run_error, run_room, run_enough, run_byte_room, run_notice_room, length_most, length_least}
use Rattle.cax64_address.proofs.tail.emit_modrm_sib_disp.Goals as goal

pub returns : goal.returns
returns g c =
    let fits : FitsSigned w32 c.displacement-displacement.result = search rules in
    let known = to_z-of_z w32 c.displacement-displacement.result fits ∙ c.displacement-displacement.ensures in
    let meant : TailMeant = tail_meant g.R.AsReg.enc (g.S.CodeSink.state c.args.sink.now).offsets c.args.enc_g c.args.mem_e.now c.args.bytes_at_end c.args.evex_scaling in
    let tail : PutsTail meant (tail_actions c.tail_of-code.result) = rw known at c.tail_of-code.ensures.tail in
    let count : length (all_bytes (tail_actions c.tail_of-code.result)) ≡ tail_length meant = rw known at c.tail_of-code.ensures.count in
    record {
      adds = run_adds {m = meant} c.put.result tail c.tail_of-code.ensures.bytes count c.put.ensures.run;
      address = run_address {m = meant} g.R.AsReg.enc (g.S.CodeSink.state c.args.sink.now).offsets c.args.bytes_at_end c.args.mem_e.now c.put.result refl tail c.put.ensures.run;
      leaves = run_leaves {m = meant} c.put.result tail c.tail_of-code.ensures.bytes c.put.ensures.run;
      error = run_error c.put.result c.put.ensures.run;
      keeps = ran_keeps c.put.ensures.run;
      beside = c.put.ensures.beside;
      enough = run_enough {m = meant} c.args.mem_e.now refl tail c.put.ensures.run;
      room = run_room {m = meant} c.args.mem_e.now refl tail count c.put.ensures.run;
      byte_room = run_byte_room meant count c.put.ensures.run;
      notice_room = run_notice_room {m = meant} c.args.mem_e.now refl tail c.put.ensures.run;
      most = length_most {m = meant} tail count;
      least = length_least {m = meant} tail count;
    }
