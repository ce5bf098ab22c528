use Rattle.std.proofs.Common.{◌≡◌, ◌≢◌, arith, rules, refl}
use Rattle.std.proofs.lemmas.Grind.{common_steps}
use Rattle.std.specs.Vec.{with_item}
use Rattle.cax64_sink.specs.declared.DeferredTarget.{DeferredTarget}
use Rattle.cax64_sink.specs.declared.DeferredTarget.TheVariants as target
use Rattle.x64_code_buffer.specs.Binding.{place_bound}
use Rattle.x64_code_buffer.specs.declared.bindings.Bindings.{Bindings}
use Rattle.x64_code_buffer.proofs.bindings.Bindings.bind_constant.Goals as goal
use Rattle.x64_code_buffer.proofs.bindings.Bindings.bind_constant.Goals.{then-saturating_sub-lt-NEAR+else-is_some+else-is_ok, else-saturating_sub-lt-NEAR}

pub returns-clause-answer : goal.returns-clause-answer
returns-clause-answer g c =
    elim c.if-saturating_sub-lt-NEAR.branch [
      | then-saturating_sub-lt-NEAR+else-is_some+else-is_ok w ↦ rw (← w.list_up_to.ensures.places (target.Constant c.args.constant)) (grind (arith, common_steps))
      | else-saturating_sub-lt-NEAR w ↦ grind (arith, common_steps)
    ]

pub returns-then-is_ok-clause-binds : goal.returns-then-is_ok-clause-binds
returns-then-is_ok-clause-binds g c = record {
  free = search rules;
  bound = search rules;
  others = others;
}
  where
    bound : Bindings g.row.A.Denot
    bound = record { labels = c.list_up_to.new.self.labels; listed = with_item c.list_up_to.new.self.listed c.args.constant.0 c.of.result; others = c.list_up_to.new.self.others }

    others : (other : DeferredTarget) → other ≢ target.Constant c.args.constant → place_bound bound other ≡ place_bound c.args.self.now other
    others (target.Label l) apart = c.list_up_to.ensures.places (target.Label l)
    others (target.Constant k) apart = rw (← c.list_up_to.ensures.places (target.Constant k)) (search rules)
    others target.None apart = refl
