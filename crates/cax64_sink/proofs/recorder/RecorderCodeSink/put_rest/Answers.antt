use Rattle.cax64_sink.specs.Recorder.{recorder_state}
use Rattle.cax64_sink.proofs.RecordedPuts.{roomier_recorded}
use Rattle.cax64_sink.proofs.Rests.{rest_puts}
use Rattle.cax64_sink.proofs.recorder.RecorderCodeSink.put_rest.Goals as goal

pub returns-clause-run : goal.returns-clause-run
returns-clause-run g c =
    let s = recorder_state c.args.self.now in
    roomier_recorded s.notices s.offsets s.notice_room (rest_puts c.args.long c.args.imm_len c.args.imm) c.put_rest.ensures.run
