use Rattle.std.proofs.Common.{take, w64}
use Rattle.std.specs.Int.{to_le_bytes}
use Rattle.cax64_sink.specs.Recorder.{recorder_state}
use Rattle.cax64_sink.proofs.RecordedPuts.{puts_recorded}
use Rattle.cax64_sink.proofs.recorder.RecorderCodeSink.put_low_bytes.Goals as goal

pub returns-clause-run : goal.returns-clause-run
returns-clause-run g c =
    let s = recorder_state c.args.self.now in
    puts_recorded (take c.args.count (to_le_bytes w64 c.args.word)) s.notices s.offsets s.notice_room c.put_low_bytes.ensures.run
