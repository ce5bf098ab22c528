use Rattle.std.proofs.Common.{◌∙◌, ap, Err}
use Rattle.std.proofs.lemmas.Result.{err_from_is_err_and}
use Rattle.cax64_sink.specs.FixedSink.{fixed_sink_state}
use Rattle.cax64_sink.proofs.PutRuns.{begun, continued, halted, finished}
use Rattle.cax64_sink.proofs.fixed_sink.FixedSink.append_each.Goals as goal

pub loop-byte-init : goal.loop-byte-init
loop-byte-init g c = begun c.args.bytes.now (fixed_sink_state c.args.self.now)

pub returns-in_err-append_one : goal.returns-in_err-append_one
returns-in_err-append_one g c =
    let p = err_from_is_err_and c.from_residual.result c.from_residual.ensures.1 in
    halted c.args.bytes.now c.loop-byte.byte-index _ _ _ _ _ _ c.loop-byte-test.true c.loop-byte.invariant c.append_one.ensures c.in_err-append_one.was (p.1 ∙ ap Err p.2)

pub loop-byte-preserved : goal.loop-byte-preserved
loop-byte-preserved g c = continued c.args.bytes.now c.loop-byte.byte-index _ _ _ _ c.loop-byte-test.true c.loop-byte.invariant c.append_one.ensures c.in_ok-append_one.was

pub returns : goal.returns
returns g c = finished c.args.bytes.now c.loop-byte.byte-index _ _ c.loop-byte-test.false c.loop-byte.invariant
