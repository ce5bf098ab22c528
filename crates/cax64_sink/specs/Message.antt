-- What a sink's error prints.
use Rattle.std.specs.Prelude.{ℕ, List, codes}
use Rattle.cax64_sink.specs.declared.SinkError.{SinkError}
use Rattle.cax64_sink.specs.declared.SinkError.TheVariants.{NoMemory, Full}

abbrev pub sink_error_text : SinkError → List ℕ
sink_error_text NoMemory = codes "no memory is left"
sink_error_text Full = codes "the sink is full"
