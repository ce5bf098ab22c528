use Rattle.std.proofs.Common.{◌∙◌, ap, Err}
use Rattle.std.proofs.lemmas.Result.{err_from_is_err_and}
use Rattle.cax64_sink.proofs.Runs.{ran_next, ran_halt, ran_append, ran_refused}
use Rattle.cax64_address.proofs.tail.TailCode.put.Goals as goal

pub returns-in_err-put1-clause-run : goal.returns-in_err-put1-clause-run
returns-in_err-put1-clause-run g c =
    let p = err_from_is_err_and c.from_residual.result c.from_residual.ensures.1 in
    ran_halt _ _ c.put1.ensures.step c.in_err-put1.was (p.1 ∙ ap Err p.2)

pub returns-in_err-put_optional-clause-run : goal.returns-in_err-put_optional-clause-run
returns-in_err-put_optional-clause-run g c =
    let p = err_from_is_err_and c.from_residual-in_err-put_optional.result c.from_residual-in_err-put_optional.ensures.1 in
    ran_next c.put1.ensures.step c.in_ok-put1.was (ran_refused _ _ c.put_optional.ensures.run c.in_err-put_optional.was (p.1 ∙ ap Err p.2))

pub returns-in_err-put_optional-2-clause-run : goal.returns-in_err-put_optional-2-clause-run
returns-in_err-put_optional-2-clause-run g c =
    let p = err_from_is_err_and c.from_residual-in_err-put_optional-2.result c.from_residual-in_err-put_optional-2.ensures.1 in
    ran_next c.put1.ensures.step c.in_ok-put1.was (ran_append c.put_optional.ensures.run c.in_ok-put_optional.was (ran_refused _ _ c.put_optional-2.ensures.run c.in_err-put_optional-2.was (p.1 ∙ ap Err p.2)))

pub returns-in_err-use_optional-clause-run : goal.returns-in_err-use_optional-clause-run
returns-in_err-use_optional-clause-run g c =
    let p = err_from_is_err_and c.from_residual-in_err-use_optional.result c.from_residual-in_err-use_optional.ensures.1 in
    ran_next c.put1.ensures.step c.in_ok-put1.was (ran_append c.put_optional.ensures.run c.in_ok-put_optional.was (ran_append c.put_optional-2.ensures.run c.in_ok-put_optional-2.was (ran_refused _ _ c.use_optional.ensures.run c.in_err-use_optional.was (p.1 ∙ ap Err p.2))))

pub returns-clause-run : goal.returns-clause-run
returns-clause-run g c = ran_next c.put1.ensures.step c.in_ok-put1.was (ran_append c.put_optional.ensures.run c.in_ok-put_optional.was (ran_append c.put_optional-2.ensures.run c.in_ok-put_optional-2.was (ran_append c.use_optional.ensures.run c.in_ok-use_optional.was c.put_long.ensures.run)))
