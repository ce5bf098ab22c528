-- What a trap code prints.
use Rattle.std.specs.Prelude.{ℕ, List, ◌++◌, codes}
use Rattle.std.specs.Fmt.{decimal}
use Rattle.std.specs.Int.NonZero.{non_zero_u8_get}
use Rattle.cax64_sink.specs.declared.TrapCode.{TrapCode}

abbrev pub trap_text : TrapCode → List ℕ
trap_text code = codes "trap=" ++ decimal (non_zero_u8_get code.0)
