use Rattle.std.proofs.Common.{◌≡◌, arith, subst, sym, ℕ, ◌*◌, List}
use Rattle.std.specs.Prelude.{replicate}
use Rattle.cax64_encoder.specs.Nop.{nop_bytes}
use Rattle.cax64_operand.specs.declared.nop.Nop.TheVariants.{Nine}
use Rattle.cax64_sink.specs.Recorder.{recorder_state}
use Rattle.x64_code_buffer.proofs.Padded.{nine_more, nines_length}
use Rattle.x64_code_buffer.proofs.Putting.{puts_none, puts_on, room_left}
use Rattle.x64_code_buffer.specs.Padding.{nops_bytes}
use Rattle.x64_code_buffer.specs.Put.{PutsBytes}
use Rattle.x64_code_buffer.proofs.align.put_nines.Goals as goal

pub loop-nine-init : goal.loop-nine-init
loop-nine-init g c = puts_none (recorder_state c.args.recorder.now)

pub put_nop-requires : goal.put_nop-requires
put_nop-requires g c =
    let i = c.loop-nine._nine in
    room_left (nops_bytes (replicate i Nine)) (recorder_state c.args.recorder.now) (recorder_state c.loop-nine.recorder) (9 * c.args.count) 9 c.loop-nine.invariant c.requires (omega (arith, nines_length i, c.loop-nine-test.true))

pub loop-nine-preserved : goal.loop-nine-preserved
loop-nine-preserved g c =
    let s = recorder_state c.args.recorder.now in
    let u = recorder_state c.loop-nine.recorder in
    let t = recorder_state c.put_nop.new.recorder in
    let i = c.loop-nine._nine in
    subst (λ (z : List ℕ). PutsBytes z s t) (sym (nine_more i)) (puts_on (nops_bytes (replicate i Nine)) (nop_bytes Nine) s u t c.loop-nine.invariant c.put_nop.ensures)

pub returns : goal.returns
returns g c =
    let s = recorder_state c.args.recorder.now in
    let t = recorder_state c.loop-nine.recorder in
    let all : c.loop-nine._nine ≡ c.args.count = omega (arith, c.loop-nine-test.false, c.loop-nine.auto) in
    subst (λ (n : ℕ). PutsBytes (nops_bytes (replicate n Nine)) s t) all c.loop-nine.invariant
