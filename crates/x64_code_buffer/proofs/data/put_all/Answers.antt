use Rattle.std.proofs.Common.{◌≡◌, refl, arith, subst, sym, ℕ, List, [], ◌∷◌, take, get_or, length}
use Rattle.std.proofs.lemmas.List.{length-take-le, take_all, take_more}
use Rattle.cax64_sink.specs.Recorder.{recorder_state}
use Rattle.x64_code_buffer.proofs.Putting.{put_ok, put_once, puts_none, puts_on, room_left}
use Rattle.x64_code_buffer.specs.Put.{PutsBytes}
use Rattle.x64_code_buffer.proofs.data.put_all.Goals as goal

pub loop-byte-init : goal.loop-byte-init
loop-byte-init g c = puts_none (recorder_state c.args.recorder.now)

pub unwrap-requires : goal.unwrap-requires
unwrap-requires g c =
    let u = recorder_state c.loop-byte.recorder in
    let t = recorder_state c.put1.new.self in
    let bytes = c.args.bytes.now in
    let i = c.loop-byte.byte-index in
    let len : length (take i bytes) ≡ i = length-take-le i bytes (omega (arith, c.loop-byte-test.true)) in
    put_ok (get_or bytes i 0 ∷ []) u t c.put1.result (room_left (take i bytes) (recorder_state c.args.recorder.now) u (length bytes) 1 c.loop-byte.invariant c.requires (omega (arith, len, c.loop-byte-test.true))) (omega arith) c.put1.ensures.step

pub loop-byte-preserved : goal.loop-byte-preserved
loop-byte-preserved g c =
    let s = recorder_state c.args.recorder.now in
    let u = recorder_state c.loop-byte.recorder in
    let t = recorder_state c.put1.new.self in
    let bytes = c.args.bytes.now in
    let i = c.loop-byte.byte-index in
    subst (λ (z : List ℕ). PutsBytes z s t) (sym (take_more bytes i 0 c.loop-byte-test.true))
    (puts_on (take i bytes) (get_or bytes i 0 ∷ []) s u t c.loop-byte.invariant (put_once (get_or bytes i 0 ∷ []) u t c.put1.result (rw c.unwrap.ensures refl) c.put1.ensures.step))

pub returns : goal.returns
returns g c =
    let s = recorder_state c.args.recorder.now in
    let t = recorder_state c.loop-byte.recorder in
    let bytes = c.args.bytes.now in
    subst (λ (z : List ℕ). PutsBytes z s t) (take_all c.loop-byte.byte-index bytes c.loop-byte-test.false) c.loop-byte.invariant
