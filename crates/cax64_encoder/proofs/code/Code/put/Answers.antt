use Rattle.std.proofs.Common.{◌∙◌, ap, Err}
use Rattle.std.proofs.lemmas.Result.{err_from_is_err_and}
use Rattle.cax64_sink.proofs.Runs.{ran_append, ran_refused}
use Rattle.cax64_sink.proofs.Roomier.{ran_roomier_after, roomier_absorbed}
use Rattle.cax64_encoder.specs.Code.{code_actions}
use Rattle.cax64_encoder.proofs.Fronts.{code_some}
use Rattle.cax64_encoder.proofs.code.Code.put.Goals as goal

pub returns-in_err-put_trap-clause-run : goal.returns-in_err-put_trap-clause-run
returns-in_err-put_trap-clause-run g c =
    let p = err_from_is_err_and c.from_residual.result c.from_residual.ensures.1 in
    ran_refused _ _ c.put_trap.ensures.run c.in_err-put_trap.was (p.1 ∙ ap Err p.2)

pub returns-in_err-put-clause-run : goal.returns-in_err-put-clause-run
returns-in_err-put-clause-run g c =
    let p = err_from_is_err_and c.from_residual-in_err-put.result c.from_residual-in_err-put.ensures.1 in
    ran_append c.put_trap.ensures.run c.in_ok-put_trap.was (ran_refused _ _ c.put.ensures.run c.in_err-put.was (p.1 ∙ ap Err p.2))

pub returns-in_err-use_optional-clause-run : goal.returns-in_err-use_optional-clause-run
returns-in_err-use_optional-clause-run g c =
    let p = err_from_is_err_and c.from_residual-in_err-use_optional.result c.from_residual-in_err-use_optional.ensures.1 in
    ran_append c.put_trap.ensures.run c.in_ok-put_trap.was (ran_append c.put.ensures.run c.in_ok-put.was (ran_refused _ _ c.use_optional.ensures.run c.in_err-use_optional.was (p.1 ∙ ap Err p.2)))

pub returns-clause-run : goal.returns-clause-run
returns-clause-run g c =
    roomier_absorbed (code_actions c.args.self.now) (code_some c.args.self.now c.requires.front)
    (ran_roomier_after c.put_trap.ensures.run c.in_ok-put_trap.was (ran_roomier_after c.put.ensures.run c.in_ok-put.was (ran_roomier_after c.use_optional.ensures.run c.in_ok-use_optional.was c.put_rest.ensures.run)))
