-- What a list that wasn't put to its end prints.
use Rattle.std.specs.Prelude.{ℕ, List, ◌++◌, codes}
use Rattle.std.specs.Fmt.{decimal}
use Rattle.cax64_encoder.specs.Message.{encode_error_text}
use Rattle.cax64_sink.specs.Message.{sink_error_text}
use Rattle.cax64_sequence.specs.declared.checked.Stopped.{Stopped}
use Rattle.cax64_sequence.specs.declared.sequence.Refused.{Refused}

-- instructions are counted from 0
abbrev pub refused_text : Refused → List ℕ
refused_text refused = codes "instruction " ++ decimal refused.whole ++ codes " of the list isn't whole: " ++ sink_error_text refused.error

abbrev pub stopped_text : Stopped → List ℕ
stopped_text stopped = codes "instruction " ++ decimal stopped.whole ++ codes " of the list isn't whole: " ++ encode_error_text stopped.error
