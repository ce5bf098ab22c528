-- What a refusal prints.
use Rattle.std.specs.Prelude.{ℕ, List, codes}
use Rattle.cax64_encoder.specs.Message.{fault_text}
use Rattle.x64_of_port.specs.declared.refused.NotCore.{NotCore}
use Rattle.x64_of_port.specs.declared.refused.NotCore.TheVariants as not_core

abbrev pub not_core_text : NotCore → List ℕ
not_core_text not_core.Nop = codes "a no-operation of fixed bytes, of which the core has its own"
not_core_text (not_core.Fault fault) = fault_text fault
