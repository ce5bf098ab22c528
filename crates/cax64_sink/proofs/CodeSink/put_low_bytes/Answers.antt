use Rattle.std.proofs.Common.{◌∙◌, ap, Err, take, w64}
use Rattle.std.proofs.lemmas.Result.{err_from_is_err_and}
use Rattle.std.specs.Int.{to_le_bytes}
use Rattle.cax64_sink.proofs.PutRuns.{begun, continued, halted, finished}
use Rattle.cax64_sink.proofs.CodeSink.put_low_bytes.Goals as goal

pub loop-byte-init : goal.loop-byte-init
loop-byte-init g c = (begun (take c.args.count (to_le_bytes w64 c.args.word)) (g.Self.CodeSink.state c.args.self.now), g.met.Self.CodeSink.may_stay c.args.self.now)

pub returns-in_err-put1-clause-run : goal.returns-in_err-put1-clause-run
returns-in_err-put1-clause-run g c =
    let p = err_from_is_err_and c.from_residual.result c.from_residual.ensures.1 in
    let below = rw (c.from.ensures, c.to_le_bytes.ensures) at c.loop-byte-test.true in
    let step = rw (c.from.ensures, c.to_le_bytes.ensures) at c.put1.ensures.step in
    halted (take c.args.count (to_le_bytes w64 c.args.word)) c.loop-byte.byte-index _ _ _ _ _ _ below c.loop-byte.invariant.0 step c.in_err-put1.was (p.1 ∙ ap Err p.2)

pub returns-in_err-put1-clause-beside : goal.returns-in_err-put1-clause-beside
returns-in_err-put1-clause-beside g c = g.met.Self.CodeSink.may_go_on _ _ _ c.loop-byte.invariant.1 c.put1.ensures.beside

pub loop-byte-preserved : goal.loop-byte-preserved
loop-byte-preserved g c =
    let below = rw (c.from.ensures, c.to_le_bytes.ensures) at c.loop-byte-test.true in
    let step = rw (c.from.ensures, c.to_le_bytes.ensures) at c.put1.ensures.step in
    (continued (take c.args.count (to_le_bytes w64 c.args.word)) c.loop-byte.byte-index _ _ _ _ below c.loop-byte.invariant.0 step c.in_ok-put1.was, g.met.Self.CodeSink.may_go_on _ _ _ c.loop-byte.invariant.1 c.put1.ensures.beside)

pub returns-clause-run : goal.returns-clause-run
returns-clause-run g c =
    let above = rw (c.from.ensures, c.to_le_bytes.ensures) at c.loop-byte-test.false in
    finished (take c.args.count (to_le_bytes w64 c.args.word)) c.loop-byte.byte-index _ _ above c.loop-byte.invariant.0
