use Rattle.std.proofs.Common.{◌≡◌, drop}
use Rattle.x64_code_buffer.specs.Binding.{place_bound}
use Rattle.x64_code_buffer.specs.Use.{first_refusal, uses_of}
use Rattle.x64_code_buffer.proofs.refusal.first_refusal.Given as goal

abbrev pub invariant-loop-notice : goal.invariant-loop-notice
invariant-loop-notice g l = first_refusal (place_bound l.bindings) l.bytes (uses_of l.notices) ≡ first_refusal (place_bound l.bindings) l.bytes (uses_of (drop l.notice-index l.notices))
