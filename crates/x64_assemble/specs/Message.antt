-- What a list prints that wasn't put. Its items are counted from 0.
use Rattle.std.specs.Prelude.{ℕ, List, ◌++◌, codes}
use Rattle.std.specs.Fmt.{decimal}
use Rattle.cax64_encoder.specs.Message.{fault_text}
use Rattle.x64_code_buffer.specs.Message.{bind_text}
use Rattle.x64_assemble.specs.declared.errors.LayoutError.{LayoutError}
use Rattle.x64_assemble.specs.declared.errors.LayoutError.TheVariants.{Fault, Bind, TooMany, NoMemory}

abbrev pub layout_error_text : LayoutError → List ℕ
layout_error_text (Fault at why) = codes "item " ++ (decimal at ++ (codes " of the list can't be encoded: " ++ fault_text why))
layout_error_text (Bind at why) = codes "item " ++ (decimal at ++ (codes " of the list can't be bound: " ++ bind_text why))
layout_error_text TooMany = codes "the list has more than 165191049 items"
layout_error_text NoMemory = codes "no memory is left"
