use Rattle.std.proofs.Common.{◌∙◌, ap, Err, refl}
use Rattle.std.proofs.lemmas.Result.{err_from_is_err_and}
use Rattle.cax64_sink.proofs.PutRuns.{begun, continued, halted, finished, puts_add}
use Rattle.cax64_sink.proofs.puts.put_each.Goals as goal

pub loop-byte-init : goal.loop-byte-init
loop-byte-init g c = (begun c.args.bytes.now (g.S.CodeSink.state c.args.sink.now), g.met.S.CodeSink.may_stay c.args.sink.now)

pub returns-in_err-put1-clause-puts : goal.returns-in_err-put1-clause-puts
returns-in_err-put1-clause-puts g c =
    let p = err_from_is_err_and c.from_residual.result c.from_residual.ensures.1 in
    halted c.args.bytes.now c.loop-byte.byte-index _ _ _ _ _ _ c.loop-byte-test.true c.loop-byte.invariant.0 c.put1.ensures.step c.in_err-put1.was (p.1 ∙ ap Err p.2)

pub returns-in_err-put1-clause-beside : goal.returns-in_err-put1-clause-beside
returns-in_err-put1-clause-beside g c = g.met.S.CodeSink.may_go_on _ _ _ c.loop-byte.invariant.1 c.put1.ensures.beside

pub loop-byte-preserved : goal.loop-byte-preserved
loop-byte-preserved g c = (continued c.args.bytes.now c.loop-byte.byte-index _ _ _ _ c.loop-byte-test.true c.loop-byte.invariant.0 c.put1.ensures.step c.in_ok-put1.was, g.met.S.CodeSink.may_go_on _ _ _ c.loop-byte.invariant.1 c.put1.ensures.beside)

pub returns-clause-puts : goal.returns-clause-puts
returns-clause-puts g c = finished c.args.bytes.now c.loop-byte.byte-index _ _ c.loop-byte-test.false c.loop-byte.invariant.0

pub returns-clause-adds : goal.returns-clause-adds
returns-clause-adds g c = puts_add c.args.bytes.now _ _ _ (finished c.args.bytes.now c.loop-byte.byte-index _ _ c.loop-byte-test.false c.loop-byte.invariant.0) refl
