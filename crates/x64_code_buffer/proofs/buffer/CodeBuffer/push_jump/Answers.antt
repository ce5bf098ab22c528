use Rattle.std.proofs.Common.{◌≡◌, ◌∙◌, ap, sym, subst, ℕ, ℤ, List, Option, None, length}
use Rattle.cax64_sink.specs.Recorder.{recorder_state}
use Rattle.cax64_sink.specs.Room.{FallsBy}
use Rattle.x64_code_buffer.specs.Buffer.{places_of}
use Rattle.x64_code_buffer.specs.Jump.{jump_len, near_distance}
use Rattle.x64_code_buffer.proofs.buffer.CodeBuffer.push_jump.Goals as goal

pub returns-in-None-clause-byte_room : goal.returns-in-None-clause-byte_room
returns-in-None-clause-byte_room g c =
    let s = recorder_state c.args.self.now.recorder in
    let t = recorder_state c.push_long_jump.new.self.recorder in
    let jump = c.args.jump in
    let far : near_distance jump (places_of c.args.self.now c.args.target) (length s.bytes) ≡ None =
    ap (λ (z : List ℕ). near_distance jump (places_of c.args.self.now c.args.target) (length z)) (sym c.bytes-here.ensures)
    ∙ ap (λ (o : Option ℕ). near_distance jump o (length c.bytes-here.result.now)) (sym c.place_of.ensures)
    ∙ sym c.near_distance.ensures ∙ c.in-None.is in
    subst (λ (o : Option ℤ). FallsBy s.byte_room t.byte_room (jump_len jump o)) (sym far) c.push_long_jump.ensures.byte_room
