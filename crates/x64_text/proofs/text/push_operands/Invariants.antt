use Rattle.std.proofs.Common.{◌≡◌, ◌-◌, ◌++◌, drop, length}
use Rattle.std.specs.Prelude.{string_bytes}
use Rattle.x64_core.specs.View.{core_view}
use Rattle.x64_text.specs.Text.{none_printed, operands_text}
use Rattle.x64_text.proofs.text.push_operands.Given as goal

-- those behind are there
abbrev pub invariant-loop-done : goal.invariant-loop-done
invariant-loop-done g l = record {
  text : string_bytes l.out ≡ string_bytes l.initial.out ++ operands_text (core_view l.core) (drop (length l.operands - l.done) l.operands);
  first : l.first ≡ none_printed (drop (length l.operands - l.done) l.operands);
}
