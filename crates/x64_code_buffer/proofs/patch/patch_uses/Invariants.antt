use Rattle.std.proofs.Common.{◌≡◌, drop}
use Rattle.cax64_sink.specs.Recorder.{recorder_state}
use Rattle.x64_code_buffer.specs.Binding.{place_bound}
use Rattle.x64_code_buffer.specs.Patching.{all_patched, with_bytes}
use Rattle.x64_code_buffer.specs.Use.{uses_of}
use Rattle.x64_code_buffer.proofs.patch.patch_uses.Given as goal

abbrev pub invariant-loop-i : goal.invariant-loop-i
invariant-loop-i g l =
    let before = recorder_state l.initial.recorder in
    let now = recorder_state l.recorder in
    record {
      later : all_patched (place_bound l.bindings) now.bytes (uses_of (drop l.i before.notices)) ≡ all_patched (place_bound l.bindings) before.bytes (uses_of before.notices);
      same : now ≡ with_bytes now.bytes before;
    }
