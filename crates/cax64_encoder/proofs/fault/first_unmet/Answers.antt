use Rattle.std.proofs.Common.{◌≤◌, ◌<◌, arith, refl, ◌∙◌, ap, sym, Some, length}
use Rattle.cax64_encoder.proofs.Walk.{step_none, step_met, step_unmet, walked}
use Rattle.cax64_encoder.proofs.fault.first_unmet.Goals as goal
use Rattle.cax64_encoder.proofs.fault.first_unmet.Goals.{in-Some+else-not-is_met, in_default}

pub loop-visited-init : goal.loop-visited-init
loop-visited-init c = record { counted = omega arith; same = refl }

pub returns-then-not-is_met : goal.returns-then-not-is_met
returns-then-not-is_met c =
    let within : c.loop-visited.visited-index < length c.args.visits.now = omega (arith, c.told-visits, c.loop-visited-test.true) in
    ap Some c.fault.ensures ∙ step_unmet c.args.visits.now c.loop-visited.visited-index c.loop-visited.at c.in-Some.visited within c.in-Some.is (sym c.is_met.ensures ∙ c.if-not-is_met.true) c.loop-visited.invariant.same

pub overflow_add-at : goal.overflow_add-at
overflow_add-at c = omega (arith, c.told-visits, c.loop-visited.invariant.counted)

pub loop-visited-preserved : goal.loop-visited-preserved
loop-visited-preserved c =
    let within : c.loop-visited.visited-index < length c.args.visits.now = omega (arith, c.told-visits, c.loop-visited-test.true) in
    elim c.match-visited.branch [
      | in-Some+else-not-is_met w ↦ rw w.at-is (record { counted = omega (arith, c.loop-visited.invariant.counted); same = step_met c.args.visits.now c.loop-visited.visited-index c.loop-visited.at w.in-Some.visited within w.in-Some.is (sym w.is_met.ensures ∙ w.if-not-is_met.false) c.loop-visited.invariant.same })
      | in_default w ↦ rw w.at-is (record { counted = omega (arith, c.loop-visited.invariant.counted); same = step_none c.args.visits.now c.loop-visited.visited-index c.loop-visited.at within w.in_default.is c.loop-visited.invariant.same })
    ]

pub returns : goal.returns
returns c =
    let none_left : length c.args.visits.now ≤ c.loop-visited.visited-index = omega (arith, c.told-visits, c.loop-visited-test.false) in
    walked c.args.visits.now c.loop-visited.at c.loop-visited.visited-index none_left c.loop-visited.invariant.same
