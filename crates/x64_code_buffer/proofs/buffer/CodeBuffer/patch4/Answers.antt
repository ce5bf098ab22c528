use Rattle.std.proofs.Common.{ap}
use Rattle.std.specs.Int.{to_le_bytes, w32}
use Rattle.cax64_sink.specs.Recorder.{recorder_state}
use Rattle.cax64_sink.specs.Sink.{State}
use Rattle.x64_code_buffer.specs.Buffer.{places_of}
use Rattle.x64_code_buffer.specs.Laid.{whole_pieces}
use Rattle.x64_code_buffer.proofs.Pieces.{filled_is_laid, laid_is_filled}
use Rattle.x64_code_buffer.proofs.Putting.{stays_patched}
use Rattle.x64_code_buffer.proofs.buffer.CodeBuffer.patch4.Goals as goal

pub returns-clause-laid : goal.returns-clause-laid
returns-clause-laid g c pieces n before h =
    let t = recorder_state c.patch4.new.self in
    stays_patched (to_le_bytes w32 c.args.value) c.args.at pieces n (recorder_state c.args.self.now.recorder) t (places_of c.args.self.now) c.requires before (ap (λ (z : State). z.bytes) c.patch4.ensures) (ap (λ (z : State). z.notices) c.patch4.ensures) h

pub returns-clause-filled : goal.returns-clause-filled
returns-clause-filled g c readings n before h =
    let s = recorder_state c.args.self.now.recorder in
    let t = recorder_state c.patch4.new.self in
    let places = places_of c.args.self.now in
    laid_is_filled readings n t places (returns-clause-laid g c (whole_pieces readings) n before (filled_is_laid readings n s places h))
