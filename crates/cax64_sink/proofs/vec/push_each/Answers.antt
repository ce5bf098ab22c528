use Rattle.std.proofs.Common.{◌∙◌, ap, Err}
use Rattle.std.proofs.lemmas.Result.{err_from_is_err_and}
use Rattle.cax64_sink.specs.Vec.{vec_state}
use Rattle.cax64_sink.proofs.PutRuns.{begun, continued, halted, finished}
use Rattle.cax64_sink.proofs.vec.push_each.Goals as goal

pub loop-byte-init : goal.loop-byte-init
loop-byte-init g c = begun c.args.bytes.now (vec_state c.args.vec.now)

pub returns-in_err-push_one : goal.returns-in_err-push_one
returns-in_err-push_one g c =
    let p = err_from_is_err_and c.from_residual.result c.from_residual.ensures.1 in
    halted c.args.bytes.now c.loop-byte.byte-index _ _ _ _ _ _ c.loop-byte-test.true c.loop-byte.invariant c.push_one.ensures c.in_err-push_one.was (p.1 ∙ ap Err p.2)

pub loop-byte-preserved : goal.loop-byte-preserved
loop-byte-preserved g c = continued c.args.bytes.now c.loop-byte.byte-index _ _ _ _ c.loop-byte-test.true c.loop-byte.invariant c.push_one.ensures c.in_ok-push_one.was

pub returns : goal.returns
returns g c = finished c.args.bytes.now c.loop-byte.byte-index _ _ c.loop-byte-test.false c.loop-byte.invariant
