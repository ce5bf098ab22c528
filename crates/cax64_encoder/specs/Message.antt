-- What a fault prints, and what a call prints that tests and puts.
use Rattle.std.specs.Prelude.{ℕ, List, ◌++◌, codes}
use Rattle.std.specs.Fmt.{decimal}
use Rattle.cax64_encoder.specs.declared.error.EncodeError.{EncodeError}
use Rattle.cax64_encoder.specs.declared.error.EncodeError.TheVariants as error
use Rattle.cax64_encoder.specs.declared.fault.Fault.{Fault}
use Rattle.cax64_encoder.specs.declared.fault.Fault.TheVariants.{Register, Index, Fixed, Unknown, Range}
use Rattle.cax64_sink.specs.Message.{sink_error_text}

abbrev pub fault_text : Fault → List ℕ
fault_text (Register at) = codes "register " ++ decimal at ++ codes " in the order of visits isn't real"
fault_text (Index at) = codes "register " ++ decimal at ++ codes " in the order of visits is the stack pointer, which can't be an index"
fault_text (Fixed at) = codes "register " ++ decimal at ++ codes " in the order of visits is fixed and doesn't hold its number"
fault_text (Unknown key) = codes "the late offset " ++ decimal key ++ codes " isn't known"
fault_text Range = codes "the late offset plus the displacement doesn't fit in 32 bits"

abbrev pub encode_error_text : EncodeError → List ℕ
encode_error_text (error.Fault why) = fault_text why
encode_error_text (error.Sink why) = sink_error_text why
