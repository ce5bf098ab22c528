use Rattle.std.proofs.Common.{arith}
use Rattle.std.specs.Prelude.{string_bytes}
use Rattle.x64_core.specs.View.{core_view}
use Rattle.x64_text.proofs.Lists.{first_more, named_at, text_more}
use Rattle.x64_text.proofs.text.push_operands.Goals as goal

pub push_piece-requires-clause-fixed : goal.push_piece-requires-clause-fixed
push_piece-requires-clause-fixed g c = named_at c.args.operands.now _ _ (omega arith) c.requires.fixed

pub loop-done-preserved : goal.loop-done-preserved
loop-done-preserved g c = record {
  text = text_more (core_view c.args.core.now) c.args.operands.now c.loop-done.done _ c.loop-done.first (string_bytes c.args.out.now) (string_bytes c.loop-done.out) (string_bytes c.push_piece.new.out) c.loop-done-test.true c.loop-done.invariant.text c.loop-done.invariant.first c.in_ok-first.ensures.text;
  first = first_more c.args.operands.now c.loop-done.done _ c.loop-done.first c.in_ok-first.first c.loop-done-test.true c.loop-done.invariant.first c.in_ok-first.ensures.first;
}
