-- What the errors of a buffer print.
use Rattle.std.specs.Prelude.{ℕ, List, ◌++◌, codes}
use Rattle.std.specs.Fmt.{decimal}
use Rattle.cax64_sink.specs.declared.DeferredTarget.TheVariants.{Label, Constant, None}
use Rattle.x64_code_buffer.specs.declared.errors.BindError.{BindError}
use Rattle.x64_code_buffer.specs.declared.errors.BindError.TheVariants.{Unknown, Twice, NoMemory}
use Rattle.x64_code_buffer.specs.declared.errors.FinishError.{FinishError}
use Rattle.x64_code_buffer.specs.declared.errors.FinishError.TheVariants.{Unbound, TooFar}

abbrev pub bind_text : BindError → List ℕ
bind_text Unknown = codes "the label isn't one that this buffer gave"
bind_text Twice = codes "the label or constant is bound already"
bind_text NoMemory = codes "no memory is left"

abbrev pub finish_text : FinishError → List ℕ
finish_text (Unbound (Label label)) = codes "label " ++ decimal label.0 ++ codes " isn't bound"
finish_text (Unbound (Constant constant)) = codes "constant " ++ decimal constant.0 ++ codes " isn't bound"
finish_text (Unbound None) = codes "a field refers to no label and no constant"
finish_text (TooFar at) = codes "the field at byte " ++ decimal at ++ codes " can't hold the distance; or the code ends before the field does"
