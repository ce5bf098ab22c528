use Rattle.cax64_sink.specs.FixedSink.{fixed_sink_state}
use Rattle.x64rows_run.proofs.Readings.{read_whole}
use Rattle.x64rows_run.proofs.rows.text_of.Goals as goal

pub unwrap-reading-requires : goal.unwrap-reading-requires
unwrap-reading-requires g c = rw (c.read_inst.ensures.is, c.bytes.ensures.value) (read_whole _ (fixed_sink_state c.new-sink.result) (fixed_sink_state c.encode.new.sink) c.encode.result c.unwrap.result c.unwrap.ensures c.new-sink.ensures c.encode.ensures.adds)
