-- The bytes after one use and the next were patched, in turn.
use Rattle.std.specs.Prelude.{ℕ, ℤ, Option, Some, None, List, [], ◌∷◌}
use Rattle.std.specs.Int.{cast_unsigned, to_le_bytes, w32}
use Rattle.cax64_sink.specs.Recorder.{written_over}
use Rattle.cax64_sink.specs.Sink.{State}
use Rattle.cax64_sink.specs.declared.DeferredTarget.{DeferredTarget}
use Rattle.cax64_sink.specs.declared.DeferredTarget.TheVariants as target
use Rattle.cax64_sink.specs.declared.Notice.{Notice}
use Rattle.cax64_sink.specs.declared.Notice.TheVariants.{Trap, Target}
use Rattle.x64_code_buffer.specs.Use.{Use, patched_at}

abbrev pub field_put : List ℕ → ℕ → Option ℤ → List ℕ
field_put bytes at None = bytes
field_put bytes at (Some field) = written_over bytes at (to_le_bytes w32 (cast_unsigned w32 field))

abbrev pub field_led : List ℕ → ℕ → Option ℕ → List ℕ
field_led bytes at None = bytes
field_led bytes at (Some place) = field_put bytes at (patched_at bytes at place)

-- a use patched
abbrev pub use_patched : (DeferredTarget → Option ℕ) → List ℕ → Use → List ℕ
use_patched places bytes (at, target.Label label) = field_led bytes at (places (target.Label label))
use_patched places bytes (at, target.Constant constant) = field_led bytes at (places (target.Constant constant))
use_patched places bytes (at, target.None) = bytes

-- a notice's use patched, if it is of one
abbrev pub notice_patched : (DeferredTarget → Option ℕ) → List ℕ → Notice → List ℕ
notice_patched places bytes (Trap at code) = bytes
notice_patched places bytes (Target at target) = use_patched places bytes (at, target)

-- all uses patched
abbrev pub all_patched : (DeferredTarget → Option ℕ) → List ℕ → List Use → List ℕ
all_patched places bytes [] = bytes
all_patched places bytes (used ∷ later) = all_patched places (use_patched places bytes used) later

abbrev pub with_bytes : List ℕ → State → State
with_bytes bytes s = record s { bytes = bytes }
