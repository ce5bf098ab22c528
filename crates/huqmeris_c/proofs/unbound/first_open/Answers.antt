use Rattle.std.proofs.Common.{◌≡◌, true, arith}
use Rattle.huqmeris_c.proofs.Opened.{none_more, none_opens, open_at}
use Rattle.huqmeris_c.proofs.Plainly.{no_item}
use Rattle.x64_code_buffer.specs.Buffer.{places_of}
use Rattle.huqmeris_c.proofs.unbound.first_open.Goals as goal

pub returns-then-is_open-clause-open : goal.returns-then-is_open-clause-open
returns-then-is_open-clause-open c = open_at (places_of c.args.buffer.now) c.args.items.now no_item c.loop-i.i (search arith) (c.is_open.ensures.0 c.if-is_open.true) c.loop-i.invariant

pub loop-i-preserved : goal.loop-i-preserved
loop-i-preserved c = none_more (places_of c.args.buffer.now) c.args.items.now no_item c.loop-i.i (search arith) (λ opens. let yes : c.is_open.result ≡ true = c.is_open.ensures.1 opens in cc) c.loop-i.invariant

pub returns-clause-none : goal.returns-clause-none
returns-clause-none c = none_opens (places_of c.args.buffer.now) c.args.items.now c.loop-i.i (search arith) c.loop-i.invariant
